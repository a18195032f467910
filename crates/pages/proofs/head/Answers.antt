-- `pages::head` meets its contract: build, and the line of its answer. Assumes nothing.
use mathlib.Core.Path.{ap}
use Rattle.calls.specs.Call.{Call}
use Rattle.listings.proofs.Texts.{instead, built_entered, head_fine, head_refused}
use Rattle.pages.proofs.head.Goals as goal

pub all_places-n-requires : goal.all_places-n-requires
all_places-n-requires c = built_entered c.args.call.now c.args.kept.now _ c.build-b.result c.build-b.ensures c.in-Ok.is

pub returns-in-Ok : goal.returns-in-Ok
returns-in-Ok c =
    let k = c.args.call.now in
    let bound = ap (λ (z : Call). z.bound) c.call.view_is in
    let rule = ap (λ (z : Call). z.rule) c.call.view_is in
    record {
      built = c.build-b.result;
      says = c.build-b.ensures;
      line = instead (head_fine k c.build-b.result c.all_places-n.ensures c.in-Ok.is) (rw (bound, rule) at c.first_line.ensures);
    }

pub returns-in-Err : goal.returns-in-Err
returns-in-Err c =
    let line =
    rw (c.from.ensures, c.number.ensures, c.from-in-Err.ensures, c.side_number.ensures, c.from-in-Err-2.ensures) at c.refusal_line.ensures in
    record { built = c.build-b.result; says = c.build-b.ensures; line = instead (head_refused c.args.call.now c.build-b.result c.in-Err.is) line }
