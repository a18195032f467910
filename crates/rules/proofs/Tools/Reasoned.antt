-- The reason that computes is the reason of the rules: there is always one, and reason 0 is an allowed move.
-- Assumes good tables where bytes keep the set.
use mathlib.Core.Path.{ap}
use mathlib.Core.Logic.{◌↔◌, ⊎_elim}
use mathlib.Core.Bool.{Bool, not}
use mathlib.Core.List.{List}
use Prim.Native.Nat.{ℕ, ◌≤◌, ◌<◌}
use native.Mathlib.Omega.{arith}
use lib.Dec.{T, eqb→eq}
use Rattle.lists.proofs.Bools.{eq_test, not_out, not_not}
use Rattle.lists.proofs.Members.{any_some, any_of}
use Rattle.lists.proofs.Rest.{le_or_lt}
use Rattle.format.specs.declared.Row.{Row}
use Rattle.format.specs.declared.Table.{Table}
use Rattle.format.specs.Format.{byte}
use Rattle.rules.specs.declared.Conf.{Conf}
use Rattle.rules.specs.declared.Pair.{Pair}
use Rattle.rules.specs.Configurations.{GoodPair, May, Outcome, after, Within, place}
use Rattle.rules.specs.Sets.{AllowedIn}
use Rattle.rules.specs.Reasons.{overflows, underflows, SomeOutcome, Applies, ReasonIs}
use Rattle.rules.specs.declared.Reason.{Reason}
use Rattle.rules.specs.declared.Reason.TheVariants.{Allowed}
use Rattle.rules.specs.Numbers.{reason_number}
use Rattle.rules.specs.Kept.{KeptAt}
use Rattle.rules.specs.Tools.Computed.{non_empty, rows_for, outcomes, some_outcome, reason_by, kept_test, reason_of, allowed_test}
use Rattle.rules.proofs.Places.{after_within}
use Rattle.rules.proofs.Reasons.{AllPass, one_reason, allowed_zero, zero_allowed, Tests, first_is}
use Rattle.rules.proofs.Tools.RowsFor.{rows_may, may_rows, outcomes_of, of_outcomes}
use Rattle.rules.proofs.Tools.Decided.{some_member, member_some}

pub row_test : (t : Table) (state letter : ℕ) → T (non_empty (rows_for t state letter)) ↔ ((r : Row) × May t state letter r)
row_test t state letter = (
  λ n. let s = some_member (rows_for t state letter) n in (s.0, rows_may t state letter s.1),
  λ m. member_some (rows_for t state letter) (may_rows t state letter m.1),
)

pub some_test : (X : Pair) (c : Conf) (x y : ℕ) (f : Row → Row → Bool) → T (some_outcome X c x y f) ↔ SomeOutcome X c x y (λ w r. T (f w r))
some_test X c x y f =
    let test : Row × Row → Bool = λ o. f o.0 o.1 in
    let os : List (Row × Row) = outcomes X c x y in (
      λ t. let s = any_some test os t in record { w = s.0.0; r = s.0.1; outcome = outcomes_of X c x y s.0 s.1; fails = s.2 },
      λ s. any_of test os (of_outcomes X c x y s.w s.r s.outcome) s.fails,
    )

-- ---- the reason of a move

module _ (X : Pair) (K : Conf → Type 0) (kept : Conf → Bool) (c : Conf) (x y : ℕ) where
  abbrev leaves : Row → Row → Bool
  leaves w r = not (kept (after c w r))

  -- the test says who is a member: at c, and where an outcome lands whose move passes the buffer tests
  module _ (member : T (kept c) ↔ K c) (landing : AllPass X c x y → (w r : Row) → Outcome X c x y w r → T (kept (after c w r)) ↔ K (after c w r)) where
    reason_tests
        : Tests X K c x y
        (kept c)
        (non_empty (rows_for X.writer c.writer x))
        (non_empty (rows_for X.reader c.reader y))
        (some_outcome X c x y (overflows X c.level))
        (some_outcome X c x y (underflows X c.level))
        (some_outcome X c x y leaves)
    reason_tests = record {
      of_member = member;
      of_writer = row_test X.writer c.writer x;
      of_reader = row_test X.reader c.reader y;
      of_over = some_test X c x y (overflows X c.level);
      of_under = some_test X c x y (underflows X c.level);
      of_outside = λ pass t.
          let s = (some_test X c x y leaves).0 t in
          record {
            w = s.w;
            r = s.r;
            outcome = s.outcome;
            fails = λ k. not_out (kept (after c s.w s.r)) s.fails ((landing pass s.w s.r s.outcome).1 k);
          };
      of_inside = λ pass none w r o.
          (landing pass w r o).0 (not_not (kept (after c w r)) (λ n. none ((some_test X c x y leaves).1 (record { w = w; r = r; outcome = o; fails = n }))));
    }

    pub reason_by_lem : ReasonIs X K c x y (reason_by X kept c x y)
    unfolding reason_by
    reason_by_lem = first_is X K c x y _ _ _ _ _ _ reason_tests

  -- there is a reason for every move, with respect to any set for which it can be decided who is a member
  module _ (decides : (d : Conf) → T (kept d) ↔ K d) where
    pub some_reason : ReasonIs X K c x y (reason_by X kept c x y)
    some_reason = reason_by_lem (decides c) (λ pass w r o. decides (after c w r))

    -- a move is allowed where none of the six reasons against it applies
    pub none_allowed : ((a : Reason) → 1 ≤ reason_number a → ¬ Applies X K c x y a) → AllowedIn X K c x y
    none_allowed none =
        let reason : Reason = reason_by X kept c x y in
        ⊎_elim
        (λ (h : 1 ≤ reason_number reason). absurd (none reason h some_reason.applies))
        (λ (h : reason_number reason < 1). zero_allowed X K c x y reason some_reason (omega arith))
        (le_or_lt 1 (reason_number reason))

-- ---- in the set that bytes keep

module _ (X : Pair) (g : GoodPair X) {c : Conf} (i : Within X c) (x y : ℕ) (bytes : List ℕ) where
  kept_test_lem : {d : Conf} → Within X d → T (kept_test X bytes d) ↔ KeptAt X bytes d
  kept_test_lem {d} w = (λ t. record { within = w; is_one = eqb→eq (byte bytes (place X d)) 1 t }, λ k. eq_test k.is_one)

  pub reason_test : ReasonIs X (KeptAt X bytes) c x y (reason_of X bytes c x y)
  unfolding reason_of
  reason_test = reason_by_lem X (KeptAt X bytes) (kept_test X bytes) c x y (kept_test_lem i) (λ pass w r o. kept_test_lem (after_within X g o (pass w r o)))

  pub allowed_test_lem : T (allowed_test X bytes c x y) ↔ AllowedIn X (KeptAt X bytes) c x y
  unfolding allowed_test
  allowed_test_lem =
      let reason : Reason = reason_of X bytes c x y in
      let K : Conf → Type 0 = KeptAt X bytes in (
        λ t. zero_allowed X K c x y reason reason_test (eqb→eq (reason_number reason) 0 t),
        λ a. eq_test (ap reason_number (one_reason X K c x y reason Allowed reason_test ((allowed_zero X K c x y).0 a))),
      )
