-- The refusals of each call stand in document 01's order: "The lowest number that applies is given, except that the writer's 1 to 8 come
-- before the reader's. In 14 and 16 the writer comes first." Request a's 17 stands directly after 9; request b's why has ask's, then 14; request c's 18
-- stands after 17. Assumes nothing.
use Prim.Native.Nat.{ℕ}
use mathlib.Core.Path.{◌≡◌, refl}
use mathlib.Core.List.{List, [], ◌∷◌, ◌++◌, map}
use Rattle.format.specs.Reads.{header_checks, row_checks}
use Rattle.format.proofs.Readings.{line_of, one_to_eight}
use Rattle.rules.specs.declared.Conf.{Conf}
use Rattle.calls.specs.declared.Run.{Run}
use Rattle.calls.specs.declared.Cycle.{Cycle}
use Rattle.calls.specs.Call.{Call}
use Rattle.calls.specs.Refusals.{begin_checks}
use Rattle.calls.specs.Build.{build_checks}
use Rattle.calls.specs.Ask.{ask_checks}
use Rattle.calls.specs.Why.{why_checks}
use Rattle.calls.specs.Check.{check_checks}
use Rattle.calls.specs.Step.{step_checks}

-- number and side of the lines, of which 11 is no check but what the rounds leave
abbrev pub one_to_nine : List (ℕ × ℕ)
one_to_nine = one_to_eight 1 ++ one_to_eight 2 ++ ((9, 0) ∷ [])

module _ (k : Call) (bytes : List ℕ) where
  pub begin_order : map line_of (begin_checks k) ≡ one_to_nine
  unfolding header_checks row_checks
  begin_order = refl

  pub build_order : map line_of (build_checks k bytes) ≡ one_to_nine ++ ((17, 0) ∷ (10, 0) ∷ [])
  unfolding header_checks row_checks
  build_order = refl

  pub ask_order : (c : Conf) → map line_of (ask_checks k bytes c) ≡ one_to_nine ++ ((17, 0) ∷ (10, 0) ∷ (12, 0) ∷ (13, 0) ∷ [])
  unfolding header_checks row_checks
  ask_order c = refl

  pub why_order : (c : Conf) (x y : ℕ)
      → map line_of (why_checks k bytes c x y) ≡ one_to_nine ++ ((17, 0) ∷ (10, 0) ∷ (12, 0) ∷ (13, 0) ∷ (14, 1) ∷ (14, 2) ∷ [])
  unfolding header_checks row_checks
  why_order c x y = refl

  -- "18 .. after 17": 19 and 20 are no checks but what the list's places show
  pub check_order : map line_of (check_checks k bytes) ≡ one_to_nine ++ ((17, 0) ∷ (18, 0) ∷ [])
  unfolding header_checks row_checks
  check_order = refl

  pub step_order : (u : Run) (c : Cycle)
      → map line_of (step_checks k bytes u c) ≡ one_to_nine ++ ((17, 0) ∷ (10, 0) ∷ (12, 0) ∷ (13, 0) ∷ (14, 1) ∷ (14, 2) ∷ (15, 0) ∷ (16, 1) ∷ (16, 2) ∷ [])
  unfolding header_checks row_checks
  step_order u c = refl
