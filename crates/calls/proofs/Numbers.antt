-- Number and side of a verdict are below 2^8 and its row below 2^16, for every refusal of build, ask, why and check. Assumes nothing.
use Prim.Native.Nat.{ℕ, ◌≤◌, ◌<◌, ◌^◌}
use native.Mathlib.Omega.{arith}
use mathlib.Core.Path.{◌≡◌, refl, sym, ap, ◌∙◌, subst}
use mathlib.Core.Logic.{inl, inr}
use mathlib.Core.Bool.{Bool, true, false, cond}
use mathlib.Core.List.{List, [], ◌∷◌, ◌++◌}
use Rattle.lists.proofs.Search.{first_le}
use Rattle.format.specs.declared.Side.{Side}
use Rattle.format.specs.declared.Side.TheVariants.{Writer, Reader}
use Rattle.format.specs.Verdicts.{Verdict, Fine, side_number, number_of, side_of, row_of, Check, verdict_of, and_then, given}
use Rattle.format.specs.Format.{rows_in}
use Rattle.format.specs.Reads.{bad_row, fall_row, header_checks, row_checks, checks}
use Rattle.format.proofs.Verdicts.{fine_silent, verdict_append, given_verdict}
use Rattle.format.proofs.Header.{range_of}
use Rattle.rules.specs.declared.Conf.{Conf}
use Rattle.rules.specs.Configurations.{place}
use Rattle.rules.specs.Permissions.{LowestFaulty}
use Rattle.calls.specs.declared.Built.{Built}
use Rattle.calls.specs.declared.Asked.{Asked}
use Rattle.calls.specs.Call.{Call, pair_of}
use Rattle.calls.specs.Refusals.{bound_check, rule_check, begin_checks, enter_checks}
use Rattle.calls.specs.Build.{Untouched, Made, builds_checks, build_checks, BuildSays}
use Rattle.calls.specs.Ask.{move_set, answered, unanswered, asks_checks, ask_checks, ask_of}
use Rattle.calls.specs.Why.{whys_checks, why_of}
use Rattle.calls.specs.Lists.{Permits}
use Rattle.calls.specs.Check.{judges_checks, Judged, check_checks, CheckSays}
use Rattle.calls.proofs.Silent.{enter_known}
use Rattle.calls.proofs.Refused.{why_verdict}
use Rattle.calls.proofs.Checked.{Whole, check_enters, check_cases}
use Rattle.calls.proofs.Ranges.{faulty_few}
use Rattle.std.specs.Prelude.{Ok, Err}

abbrev pub Small : Verdict → Type 0
Small v = (number_of v < 2 ^ 8) × (side_of v < 2 ^ 8) × (row_of v < 2 ^ 16)

abbrev SmallLine : Check → Type 0
SmallLine c = Small (Err c.refuses)

abbrev SmallLines : List Check → Type 0
SmallLines [] = Unit {0}
SmallLines (c ∷ cs) = SmallLine c × SmallLines cs

-- ---- the verdict of lines that are small

fine_small : Small Fine
fine_small = (omega arith, omega arith, omega arith)

chosen_small : (t : Bool) (c : Check) (v : Verdict) → SmallLine c → Small v → Small (cond t (Err c.refuses) v)
chosen_small true c v h g = h
chosen_small false c v h g = g

lines_small : (cs : List Check) → SmallLines cs → Small (verdict_of cs)
lines_small [] h = fine_small
lines_small (c ∷ cs) h = chosen_small c.applies c (verdict_of cs) h.0 (lines_small cs h.1)

then_small : (v w : Verdict) → Small v → (v ≡ Fine → Small w) → Small (and_then v w)
then_small (Ok tt) w h g = g refl
then_small (Err r) w h g = h

-- lines of which the later are small where the earlier are silent
joined_small : (cs ds : List Check) → Small (verdict_of cs) → (verdict_of cs ≡ Fine → Small (verdict_of ds)) → Small (verdict_of (cs ++ ds))
joined_small cs ds h g = subst Small (sym (verdict_append cs ds)) (then_small (verdict_of cs) (verdict_of ds) h g)

-- a line that names no row
line : {n s : ℕ} → n < 2 ^ 8 → s < 2 ^ 8 → (n < 2 ^ 8) × (s < 2 ^ 8) × (0 < 2 ^ 16)
line h side = (h, side, omega arith)

none : {n : ℕ} → n < 2 ^ 8 → (n < 2 ^ 8) × (0 < 2 ^ 8) × (0 < 2 ^ 16)
none h = line h (omega arith)

side_small : (side : Side) → side_number side < 2 ^ 8
side_small Writer = omega arith
side_small Reader = omega arith

-- ---- refusals 1 to 8

module _ (bs : List ℕ) (side : Side) where
  abbrev headers : List Check
  headers = header_checks bs (side_number side) side

  named : side_number side < 2 ^ 8
  named = side_small side

  header_small : Small (verdict_of headers)
  unfolding header_checks
  header_small =
      lines_small headers (
        line (omega arith) named,
        (line (omega arith) named, (line (omega arith) named, (line (omega arith) named, (line (omega arith) named, (line (omega arith) named, tt))))),
      )

  -- past 5 there are at most 64 rows
  rows_few : verdict_of headers ≡ Fine → rows_in bs ≤ 64
  unfolding header_checks
  rows_few e = (range_of bs (fine_silent headers e).1.1.1.1.0).4

  rows_small : rows_in bs ≤ 64 → Small (verdict_of (row_checks bs side))
  unfolding row_checks
  rows_small few =
      lines_small (row_checks bs side) (
        (omega arith, named, omega (arith, first_le (bad_row bs) (rows_in bs))),
        ((omega arith, named, omega (arith, first_le (fall_row bs) (rows_in bs))), tt),
      )

  checks_small : Small (verdict_of (checks bs side))
  checks_small = joined_small headers (row_checks bs side) header_small (λ e. rows_small (rows_few e))

-- ---- the calls

module _ (k : Call) where
  begin_small : Small (verdict_of (begin_checks k))
  begin_small =
      let bound : List Check = bound_check k.bound ∷ [] in
      joined_small (checks k.writer Writer) (checks k.reader Reader ++ bound) (checks_small k.writer Writer)
      (λ _.
      joined_small (checks k.reader Reader) bound (checks_small k.reader Reader)
      (λ _. lines_small bound (none (omega arith), tt)))

  enter_small : Small (verdict_of (enter_checks k))
  enter_small =
      let rule : List Check = rule_check k.rule ∷ [] in
      joined_small (begin_checks k) rule begin_small (λ _. lines_small rule (none (omega arith), tt))

  pub built_small : (before after : List ℕ) (b : Built) → BuildSays k before after b → Small b.verdict
  built_small before after b =
      go (verdict_of (build_checks k before))
      (joined_small (enter_checks k) (builds_checks (pair_of k) before) enter_small (λ _. lines_small (builds_checks (pair_of k) before) (none (omega arith), tt)))
    where
      go : (v : Verdict) → Small v → given v (Untouched before after b) (Made (pair_of k) before after b) → Small b.verdict
      go (Ok tt) h (inl p) = subst Small (sym p.verdict) fine_small
      go (Ok tt) h (inr p) = subst Small (sym p.verdict) (none (omega arith))
      go (Err r) h p = subst Small (sym (ap (λ (x : Built). x.verdict) p.0)) h

  ask_checks_small : (bytes : List ℕ) (c : Conf) → Small (verdict_of (ask_checks k bytes c))
  ask_checks_small bytes c =
      joined_small (enter_checks k) (asks_checks (pair_of k) bytes c) enter_small
      (λ _. lines_small (asks_checks (pair_of k) bytes c) (none (omega arith), (none (omega arith), (none (omega arith), tt))))

  pub asked_small : (bytes : List ℕ) (c : Conf) → Small (ask_of k bytes c).verdict
  unfolding ask_of
  asked_small bytes c =
      let set = answered (move_set (pair_of k) bytes c) in
      subst Small (sym (given_verdict (λ (a : Asked). a.verdict) unanswered set (λ v. refl) refl (verdict_of (ask_checks k bytes c)))) (ask_checks_small bytes c)

  pub explained_small : (bytes : List ℕ) (c : Conf) (x y : ℕ) → Small (why_of k bytes c x y).verdict
  explained_small bytes c x y =
      let rest : List Check = whys_checks (pair_of k) bytes c x y in
      subst Small (sym (why_verdict k bytes c x y))
      (joined_small (enter_checks k) rest enter_small (λ _. lines_small rest (
        none (omega arith),
        (none (omega arith), (line (omega arith) (omega arith), (line (omega arith) (omega arith), (line (omega arith) (omega arith), tt)))),
      )))

  check_checks_small : (list : List ℕ) → Small (verdict_of (check_checks k list))
  check_checks_small list =
      let rest : List Check = judges_checks (pair_of k) list in
      joined_small (enter_checks k) rest enter_small (λ _. lines_small rest (none (omega arith), tt))

  -- 19 and 20 have a place as row, and it is below 4,096
  pub checked_small : (list : List ℕ) (v : Verdict) → CheckSays k list v → Small v
  checked_small list v says =
      check_cases k list v (Small v) says
      (λ whole m. judged whole m)
      (λ r e u. subst Small (e ∙ sym u) (check_checks_small list))
    where
      row_small : Whole k list → (c : Conf) → LowestFaulty (pair_of k) (Permits (pair_of k) list) c → place (pair_of k) c < 2 ^ 16
      row_small whole c l = omega (arith, faulty_few (pair_of k) (enter_known k (check_enters k list whole)) (Permits (pair_of k) list) c l.faulty)

      judged : Whole k list → Judged (pair_of k) list v → Small v
      judged whole (inl p) = subst Small (sym p.verdict) fine_small
      judged whole (inr (inl p)) = subst Small (sym p.verdict) (omega arith, omega arith, row_small whole p.at p.lowest)
      judged whole (inr (inr p)) = subst Small (sym p.verdict) (omega arith, omega arith, row_small whole p.at p.lowest)
