-- `reasons::look_on` meets its contract: with the moves below m looked at, the set and the last reason are theirs. Assumes nothing.
use Prim.Native.Nat.{ℕ, ◌<◌}
use native.Mathlib.Omega.{arith}
use Rattle.lists.proofs.Bits.{number_below}
use Rattle.rules.specs.declared.Reason.{Reason}
use Rattle.rules.specs.declared.Reason.TheVariants.{Allowed}
use Rattle.outcomes.specs.Outcomes.{reason_on}
use Rattle.units.proofs.Passing.{range_for}
use Rattle.reasons.proofs.Looking.{looks_none, looks_more, looks_all, letter_two}
use Rattle.reasons.proofs.look_on.Goals as goal

pub loop-m-init : goal.loop-m-init
loop-m-init c =
    let reason_here : ℕ → ℕ → Reason =
    let a = c.args in reason_on a.w.now a.r.now a.s a.k.now in
    looks_none (reason_here) c.args.first c.args.end Allowed

pub reason-last-requires : goal.reason-last-requires
reason-last-requires c =
    let few : c.loop-m.m < 64 =
    omega (arith, c.requires.1) in (
      c.requires.0,
      rw c.range.ensures (range_for _ c.units_of-written.ensures (omega (arith, few))),
      rw c.range-in-loop-m.ensures (range_for _ c.units_of-taken.ensures (omega arith)),
    )

pub with_move-set-requires : goal.with_move-set-requires
with_move-set-requires c =
    let few : c.loop-m.m < 64 =
    omega (arith, c.requires.1) in
    (few, rw c.loop-m.invariant.set_is (number_below _ _))

pub loop-m-preserved : goal.loop-m-preserved
loop-m-preserved c =
    let reason_here : ℕ → ℕ → Reason =
    let a = c.args in reason_on a.w.now a.r.now a.s a.k.now in
    let a = c.args in
    looks_more (reason_here) a.first a.end (letter_two a.w.now a.r.now a.s a.k.now) c.loop-m.m c.loop-m-test.true
    c.loop-m.invariant c.reason-last.ensures c.is_allowed.ensures c.with_move-set.ensures c.next_move-m.ensures

pub returns : goal.returns
returns c =
    let reason_here : ℕ → ℕ → Reason =
    let a = c.args in reason_on a.w.now a.r.now a.s a.k.now in
    looks_all (reason_here) c.args.first c.args.end (omega arith) c.loop-m.invariant
