-- What is packed fits its place: kept and rounds are at most 4,096, ask's count and lowest at most 64, why's reason at most 6, a faulty place below
-- 4,096. Assumes nothing.
use Prim.Native.Nat.{ℕ, ◌≤◌, ◌<◌}
use native.Mathlib.Omega.{arith}
use mathlib.Core.Path.{◌≡◌, refl, ap}
use mathlib.Core.Logic.{inl, inr}
use mathlib.Core.List.{List}
use lib.Count.{ones-le, trailing_le}
use Rattle.lists.proofs.Products.{total_few}
use Rattle.format.specs.Verdicts.{Verdict, verdict_of, given}
use Rattle.rules.specs.declared.Pair.{Pair}
use Rattle.rules.specs.declared.Conf.{Conf}
use Rattle.rules.specs.Configurations.{size, place}
use Rattle.rules.specs.Ways.{Moves}
use Rattle.rules.specs.Permissions.{Faulty}
use Rattle.rules.specs.Kept.{kept_count}
use Rattle.rules.specs.declared.Reason.{Reason}
use Rattle.rules.specs.declared.Reason.TheVariants.{Allowed, NotKept, NoWriterRow, NoReaderRow, Overflows, Underflows, LandsOutside}
use Rattle.rules.specs.Numbers.{reason_number}
use Rattle.rules.proofs.Places.{place_in}
use Rattle.rules.proofs.Bytes.{kept_few}
use Rattle.rules.proofs.Laws.{rounds_between}
use Rattle.rules.proofs.Permissions.{reached_within}
use Rattle.calls.specs.declared.Built.{Built}
use Rattle.calls.specs.declared.Asked.{Asked}
use Rattle.calls.specs.declared.Explained.{Explained}
use Rattle.calls.specs.Call.{Call, pair_of}
use Rattle.calls.specs.Build.{Answer, Made, BuildSays}
use Rattle.calls.specs.Ask.{move_set, answered, unanswered, ask_checks, ask_of}
use Rattle.calls.specs.Why.{why_of}
use Rattle.calls.specs.Past.{Entered}
use Rattle.calls.proofs.Silent.{enter_known}
use Rattle.calls.proofs.Asking.{set_below}
use Rattle.calls.proofs.Largest.{build_cases, build_enters}
use Rattle.calls.proofs.Refused.{why_returns}
use Rattle.calls.proofs.WhySays.{why_found}
use Rattle.std.specs.Prelude.{Ok, Err}

-- "There are N = n1 × n2 × (B+1) of them, at most 4,096"
pub size_few : (X : Pair) → Entered X → size X ≤ 4096
size_few X e = total_few X.writer.states X.reader.states X.bound e.good.writer.states.1 e.good.reader.states.1 e.few

-- ---- build

abbrev pub Few : Built → Type 0
Few b = (b.kept ≤ 4096) × (b.rounds ≤ 4096)

module _ (X : Pair) (e : Entered X) where
  answer_few : {r : ℕ} {bytes : List ℕ} → Answer X r bytes → (kept_count bytes ≤ 4096) × (r ≤ 4096)
  answer_few {r} {bytes} a = (
    omega (arith, kept_few bytes, a.long, size_few X e),
    omega (arith, (rounds_between X e.good r a.are_rounds).1, size_few X e),
  )

  made_few : {before after : List ℕ} {b : Built} → Made X before after b → Few b
  made_few (inl p) = let h = answer_few p.answer in (omega (arith, p.kept, h.0), h.1)
  made_few (inr p) = let h = answer_few p.answer in (omega (arith, p.kept), h.1)

pub built_few : (k : Call) (before after : List ℕ) (b : Built) → BuildSays k before after b → Few b
built_few k before after b says =
    build_cases k before after b (Few b) says
    (λ fine made. made_few (pair_of k) (enter_known k (build_enters k before fine)) made)
    (λ r e u. (omega (arith, ap (λ (x : Built). x.kept) u.0), omega (arith, ap (λ (x : Built). x.rounds) u.0)))

-- ---- ask

abbrev pub FewMoves : Asked → Type 0
FewMoves a = (a.count ≤ 64) × (a.lowest ≤ 64)

pub asked_few : (k : Call) (bytes : List ℕ) (c : Conf) → FewMoves (ask_of k bytes c)
unfolding ask_of
asked_few k bytes c = go (verdict_of (ask_checks k bytes c))
  where
    set : ℕ
    set = move_set (pair_of k) bytes c

    go : (v : Verdict) → FewMoves (given v unanswered (answered set))
    go (Ok tt) = (ones-le 64 set (set_below (pair_of k) bytes c), trailing_le 64 set)
    go (Err r) = (omega arith, omega arith)

-- ---- why

pub reason_few : (a : Reason) → reason_number a ≤ 6
reason_few Allowed = omega arith
reason_few NotKept = omega arith
reason_few NoWriterRow = omega arith
reason_few NoReaderRow = omega arith
reason_few Overflows = omega arith
reason_few Underflows = omega arith
reason_few LandsOutside = omega arith

pub explained_few : (k : Call) (bytes : List ℕ) (c : Conf) (x y : ℕ) → (why_of k bytes c x y).reason ≤ 6
explained_few k bytes c x y = go why.verdict refl
  where
    why : Explained
    why = why_of k bytes c x y

    go : (v : Verdict) → why.verdict ≡ v → why.reason ≤ 6
    go (Ok tt) e = let found = why_found k bytes c x y e in omega (arith, found.1, reason_few found.0)
    go (Err r) e = omega (arith, ap (λ (z : Explained). z.reason) (why_returns k bytes c x y e))

-- ---- check

-- a faulty place is one of the at most 4,096
pub faulty_few : (X : Pair) → Entered X → (P : Moves) (c : Conf) → Faulty X P c → place X c < 4096
faulty_few X e P c f = omega (arith, place_in X (reached_within X P e.good f.reached), size_few X e)
