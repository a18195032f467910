-- What follows of reasons, for any set of configurations: reason 0 is exactly an allowed move, and none of the others applies to one; there is at
-- most one reason, and the first whose test holds is it; and what an overflow and an underflow are under each rule. Assumes nothing.
use mathlib.Core.Path.{◌≡◌, refl, sym, ap, ◌∙◌, subst}
use mathlib.Core.Logic.{◌↔◌, ⊎_elim}
use mathlib.Core.Bool.{Bool, true, false, not}
use Prim.Native.Nat.{ℕ, zero, suc, ◌+◌, ◌≤◌, ◌<◌}
use native.Mathlib.Omega.{arith}
use native.Mathlib.Nat.{eq-or-lt_of_le}
use lib.Dec.{T, leb}
use borrow.Author.Tests.{leb-false, lt-leb, not-true}
use Rattle.lists.proofs.Bools.{is_true, true_is, and_in, and_left, and_right, not_out, not_not}
use Rattle.lists.proofs.Rest.{le_or_lt}
use Rattle.format.specs.declared.Row.{Row}
use Rattle.rules.specs.declared.Rule.TheVariants.{Registered, FlowThrough}
use Rattle.rules.specs.declared.Conf.{Conf}
use Rattle.rules.specs.declared.Pair.{Pair}
use Rattle.rules.specs.Configurations.{May, has_room, has_stock, passes, after, Outcome}
use Rattle.rules.specs.Sets.{AllowedIn}
use Rattle.rules.specs.Reasons.{overflows, underflows, Applies, ReasonIs}
use Rattle.rules.specs.declared.Reason.{Reason}
use Rattle.rules.specs.declared.Reason.TheVariants.{Allowed, NotKept, NoWriterRow, NoReaderRow, Overflows, Underflows, LandsOutside}
use Rattle.rules.specs.Numbers.{reason_number}
use Rattle.rules.specs.Tools.Computed.{first_of}

-- ---- an overflow and an underflow under each rule

turned : (a b : ℕ) → T (not (leb a b)) ↔ (b < a)
turned a b = (λ t. leb-false a b (not-true _ (is_true _ t)), λ h. true_is _ (ap not (lt-leb a b h)))

module _ (X : Pair) (level : ℕ) (w r : Row) where
  module _ (rule : X.rule ≡ Registered) where
    pub overflows_registered : T (overflows X level w r) ↔ (X.bound < level + w.item)
    overflows_registered = rw rule (turned (level + w.item) X.bound)

    pub underflows_registered : T (underflows X level w r) ↔ (level < r.item)
    underflows_registered = rw rule (turned r.item level)

  -- an end level above B, and one below 0: the end level is level + written - taken
  module _ (rule : X.rule ≡ FlowThrough) where
    pub overflows_through : T (overflows X level w r) ↔ (X.bound + r.item < level + w.item)
    overflows_through = rw rule (turned (level + w.item) (X.bound + r.item))

    pub underflows_through : T (underflows X level w r) ↔ (level + w.item < r.item)
    underflows_through = rw rule (turned r.item (level + w.item))

  -- an outcome passes the tests exactly if it does neither
  pub passes_neither : T (passes X level w r) → (¬ T (overflows X level w r)) × (¬ T (underflows X level w r))
  passes_neither t =
      let room = has_room X.rule X.bound level w.item r.item in
      let stock = has_stock X.rule level w.item r.item in
      (λ o. not_out room o (and_left room stock t), λ u. not_out stock u (and_right room stock t))

  pub neither_passes : ¬ T (overflows X level w r) → ¬ T (underflows X level w r) → T (passes X level w r)
  neither_passes o u =
      let room = has_room X.rule X.bound level w.item r.item in
      let stock = has_stock X.rule level w.item r.item in
      and_in room stock (not_not room o) (not_not stock u)

-- ---- a number has one reason

numbered : ℕ → Reason
numbered zero = Allowed
numbered (suc zero) = NotKept
numbered (suc (suc zero)) = NoWriterRow
numbered (suc (suc (suc zero))) = NoReaderRow
numbered (suc (suc (suc (suc zero)))) = Overflows
numbered (suc (suc (suc (suc (suc zero))))) = Underflows
numbered (suc (suc (suc (suc (suc (suc n)))))) = LandsOutside

number_back : (a : Reason) → numbered (reason_number a) ≡ a
unfolding numbered
number_back Allowed = refl
number_back NotKept = refl
number_back NoWriterRow = refl
number_back NoReaderRow = refl
number_back Overflows = refl
number_back Underflows = refl
number_back LandsOutside = refl

pub same_number : (a b : Reason) → reason_number a ≡ reason_number b → a ≡ b
same_number a b e = sym (number_back a) ∙ ap numbered e ∙ number_back b

-- every outcome of a move passes the tests
abbrev pub AllPass : Pair → Conf → ℕ → ℕ → Type 0
AllPass X c x y = (w r : Row) → Outcome X c x y w r → T (passes X c.level w r)

module _ (X : Pair) (K : Conf → Type 0) (c : Conf) (x y : ℕ) where
  -- where a move is allowed, none of the six reasons against it applies
  pub allowed_none : AllowedIn X K c x y → (a : Reason) → 1 ≤ reason_number a → ¬ Applies X K c x y a
  allowed_none m Allowed h = absurd (omega arith)
  allowed_none m NotKept h = λ out. out m.member
  allowed_none m NoWriterRow h = λ none. none m.safe.writer_row
  allowed_none m NoReaderRow h = λ none. none m.safe.reader_row
  allowed_none m Overflows h = λ s. (passes_neither X c.level s.w s.r (m.safe.tests s.w s.r s.outcome)).0 s.fails
  allowed_none m Underflows h = λ s. (passes_neither X c.level s.w s.r (m.safe.tests s.w s.r s.outcome)).1 s.fails
  allowed_none m LandsOutside h = λ s. s.fails (m.lands s.w s.r s.outcome)

  -- the reasons exclude one another
  pub one_reason : (a b : Reason) → ReasonIs X K c x y a → ReasonIs X K c x y b → a ≡ b
  one_reason a b s t =
      same_number a b (⊎_elim
      (λ (h : reason_number a ≤ reason_number b).
      ⊎_elim (λ (e : reason_number a ≡ reason_number b). e) (λ (l : reason_number a < reason_number b). absurd (t.lowest a l s.applies))
      (eq-or-lt_of_le h))
      (λ (l : reason_number b < reason_number a). absurd (s.lowest b l t.applies))
      (le_or_lt (reason_number a) (reason_number b)))

  -- reason 0 is exactly an allowed move
  pub allowed_zero : AllowedIn X K c x y ↔ ReasonIs X K c x y Allowed
  allowed_zero = (λ m. record { applies = m; lowest = λ a h. absurd (omega arith) }, λ s. s.applies)

  pub zero_allowed : (a : Reason) → ReasonIs X K c x y a → reason_number a ≡ 0 → AllowedIn X K c x y
  zero_allowed a s e = allowed_zero.1 (subst (ReasonIs X K c x y) (same_number a Allowed e) s)

  -- ---- the first whose test holds

  -- of the reasons 1 to n none applies
  abbrev Silent : ℕ → Type 0
  Silent n = (a : Reason) → 1 ≤ reason_number a → reason_number a ≤ n → ¬ Applies X K c x y a

  silent_next : {n : ℕ} (a : Reason) → reason_number a ≡ suc n → Silent n → ¬ Applies X K c x y a → Silent (suc n)
  silent_next a e before none b low high =
      ⊎_elim
      (λ (q : reason_number b ≡ suc _). subst (λ (z : Reason). ¬ Applies X K c x y z) (same_number a b (e ∙ sym q)) none)
      (λ (q : reason_number b < suc _). before b low (omega arith))
      (eq-or-lt_of_le high)

  first_found : {n : ℕ} (a : Reason) → reason_number a ≡ suc n → Silent n → Applies X K c x y a → ReasonIs X K c x y a
  first_found a e before is = record {
    applies = is;
    lowest = λ b h m.
        ⊎_elim
        (λ (q : 1 ≤ reason_number b). before b q (omega arith) m)
        (λ (q : reason_number b < 1). allowed_none (subst (Applies X K c x y) (same_number b Allowed (omega arith)) m) a (omega arith) is)
        (le_or_lt 1 (reason_number b));
  }

  -- the tests say what they stand for; that of the landing need say it only where every outcome passes the buffer tests
  pub record Tests (kept writer reader over under outside : Bool) : Type 0 where
    pub of_member : T kept ↔ K c
    pub of_writer : T writer ↔ ((w : Row) × May X.writer c.writer x w)
    pub of_reader : T reader ↔ ((r : Row) × May X.reader c.reader y r)
    pub of_over : T over ↔ Applies X K c x y Overflows
    pub of_under : T under ↔ Applies X K c x y Underflows
    pub of_outside : AllPass X c x y → T outside → Applies X K c x y LandsOutside
    pub of_inside : AllPass X c x y → ¬ T outside → (w r : Row) → Outcome X c x y w r → K (after c w r)

  silent_none : Silent 0
  silent_none a low high = absurd (omega arith)

  -- the first whose test holds is the reason
  pub first_is : (kept writer reader over under outside : Bool) → Tests kept writer reader over under outside
      → ReasonIs X K c x y (first_of kept writer reader over under outside)
  first_is false writer reader over under outside t = first_found NotKept refl silent_none t.of_member.1
  first_is true writer reader over under outside t =
      past_kept writer reader over under outside t (silent_next NotKept refl silent_none (λ out. out (t.of_member.0 tt)))
    where
      all_pass : {kept writer reader outside : Bool} → Tests kept writer reader false false outside → AllPass X c x y
      all_pass t w r o =
          neither_passes X c.level w r
          (λ f. t.of_over.1 (record { w = w; r = r; outcome = o; fails = f }))
          (λ f. t.of_under.1 (record { w = w; r = r; outcome = o; fails = f }))

      allowed : Tests true true true false false false → AllowedIn X K c x y
      allowed t = record {
        member = t.of_member.0 tt;
        safe = record { writer_row = t.of_writer.0 tt; reader_row = t.of_reader.0 tt; tests = all_pass t };
        lands = t.of_inside (all_pass t) (λ f. f);
      }

      past_tests : (outside : Bool) → Tests true true true false false outside → Silent 5
          → ReasonIs X K c x y (first_of true true true false false outside)
      past_tests true t s = first_found LandsOutside refl s (t.of_outside (all_pass t) tt)
      past_tests false t s = allowed_zero.0 (allowed t)

      past_rows : (over under outside : Bool) → Tests true true true over under outside → Silent 3
          → ReasonIs X K c x y (first_of true true true over under outside)
      past_rows true under outside t s = first_found Overflows refl s (t.of_over.0 tt)
      past_rows false true outside t s = first_found Underflows refl (silent_next Overflows refl s t.of_over.1) (t.of_under.0 tt)
      past_rows false false outside t s =
          past_tests outside t (silent_next Underflows refl (silent_next Overflows refl s t.of_over.1) t.of_under.1)

      past_kept : (writer reader over under outside : Bool) → Tests true writer reader over under outside → Silent 1
          → ReasonIs X K c x y (first_of true writer reader over under outside)
      past_kept false reader over under outside t s = first_found NoWriterRow refl s t.of_writer.1
      past_kept true false over under outside t s =
          first_found NoReaderRow refl (silent_next NoWriterRow refl s (λ none. none (t.of_writer.0 tt))) t.of_reader.1
      past_kept true true over under outside t s =
          past_rows over under outside t
          (silent_next NoReaderRow refl (silent_next NoWriterRow refl s (λ none. none (t.of_writer.0 tt))) (λ none. none (t.of_reader.0 tt)))
