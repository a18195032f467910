-- Checks that are silent: what is known where they are, and that they are where it is known. Assumes nothing.
use Prim.Native.Nat.{ℕ, ◌+◌, ◌*◌, ◌≤◌, ◌<◌}
use native.Mathlib.Omega.{arith}
use mathlib.Core.Path.{◌≡◌, refl, sym, ap, ◌∙◌}
use mathlib.Core.Bool.{true, false, not, ◌&&◌, ◌||◌}
use mathlib.Core.List.{List, [], ◌∷◌, ◌++◌}
use lib.Dec.{eqb, ltb, leb, ltb→lt, leb→le}
use lib.ListN.{length, take, length-take}
use lib.Seq.{get_or-take}
use borrow.Author.Tests.{lt-ltb, lt-leb, le-ltb, le-leb, ltb-false, leb-false, eqb-true, eq-eqb, not-false}
use Rattle.lists.specs.Search.{some}
use Rattle.lists.proofs.Bools.{true_is, and_left, and_right, or_none}
use Rattle.lists.proofs.Search.{some_none, none_some}
use Rattle.format.specs.declared.Side.TheVariants.{Writer, Reader}
use Rattle.format.specs.Verdicts.{Fine, Check, verdict_of}
use Rattle.format.specs.Format.{byte, version_in, length_in}
use Rattle.format.specs.Reads.{checks, read_of}
use Rattle.format.proofs.Verdicts.{fine_front, fine_goes_on, fine_silent, verdict_append, then_none, given_fine}
use Rattle.format.proofs.Readings.{read_verdict}
use Rattle.format.proofs.Good.{read_good}
use Rattle.rules.specs.declared.Pair.{Pair}
use Rattle.rules.specs.declared.Conf.{Conf}
use Rattle.rules.specs.Configurations.{GoodPair, Within, size}
use Rattle.calls.specs.declared.Run.{Run}
use Rattle.calls.specs.Call.{Call, call_of, pair_of}
use Rattle.calls.specs.Refusals.{bound_check, rule_check, begin_checks, enter_checks, is_other, lent_checks, in_range, conf_check, letter_checks}
use Rattle.calls.specs.Build.{builds_checks}
use Rattle.calls.specs.Ask.{asks_checks}
use Rattle.calls.specs.Lists.{list_wrong}
use Rattle.calls.specs.Check.{judges_checks}
use Rattle.rules.specs.Kept.{IsKept}
use Rattle.calls.specs.Begin.{begun, begin_of}
use Rattle.calls.specs.Runs.{held_at, conf_of, held_of, GoodRun}
use Rattle.calls.specs.Step.{nonzero, run_check, open_checks}
use Rattle.calls.specs.Past.{Entered, Buildable, Askable, Listed}
use Rattle.calls.proofs.Queues.{held_count, padded_zero}

-- ---- 1 to 9, and 17

module _ (k : Call) (entered : verdict_of (enter_checks k) ≡ Fine) where
  fine : verdict_of (begin_checks k) ≡ Fine
  fine = fine_front (begin_checks k) (rule_check k.rule ∷ []) entered

  abbrev reader_checks : List Check
  reader_checks = checks k.reader Reader

  abbrev bound_checks : List Check
  bound_checks = bound_check k.bound ∷ []

  writer_fine : verdict_of (checks k.writer Writer) ≡ Fine
  writer_fine = fine_front (checks k.writer Writer) (reader_checks ++ bound_checks) fine

  rest_fine : verdict_of (reader_checks ++ bound_checks) ≡ Fine
  rest_fine = fine_goes_on (checks k.writer Writer) (reader_checks ++ bound_checks) writer_fine ∙ fine

  reader_fine : verdict_of reader_checks ≡ Fine
  reader_fine = fine_front reader_checks bound_checks rest_fine

  pub enter_good : GoodPair (pair_of k)
  enter_good = record {
    writer = read_good k.writer Writer (read_of k.writer Writer) refl (read_verdict k.writer Writer ∙ writer_fine);
    reader = read_good k.reader Reader (read_of k.reader Reader) refl (read_verdict k.reader Reader ∙ reader_fine);
  }

  pub enter_bound : k.bound ≤ 15
  enter_bound = ltb-false 15 k.bound (fine_silent bound_checks (fine_goes_on reader_checks bound_checks reader_fine ∙ rest_fine)).0

  pub enter_known : Entered (pair_of k)
  enter_known = record { good = enter_good; few = enter_bound }

-- ---- 10 and 12

abbrev pub ZeroOne : ℕ → List ℕ → Type 0
ZeroOne n bytes = (p : ℕ) → p < n → byte bytes p ≤ 1

module _ (n : ℕ) (bytes : List ℕ) where
  pub lent_known : verdict_of (lent_checks n bytes) ≡ Fine → (n ≤ length bytes) × ZeroOne n bytes
  lent_known e =
      let h = fine_silent (lent_checks n bytes) e in
      (ltb-false (length bytes) n h.0, λ p l. ltb-false 1 (byte bytes p) (some_none (is_other bytes) 0 n h.1.0 p (omega arith) l))

  pub lent_silent : n ≤ length bytes → ZeroOne n bytes → verdict_of (lent_checks n bytes) ≡ Fine
  lent_silent room bits =
      let none : some (is_other bytes) 0 n ≡ false = none_some (is_other bytes) 0 n (λ p l h. le-ltb 1 (byte bytes p) (bits p h)) in
      rw (le-ltb (length bytes) n room, none)

pub room_known : (X : Pair) (before : List ℕ) → Entered X → verdict_of (builds_checks X before) ≡ Fine → Buildable X (length before)
room_known X before e fine =
    record { good = e.good; few = e.few; room = ltb-false (length before) (size X) (fine_silent (builds_checks X before) fine).0 }

-- ---- 13

module _ (X : Pair) (c : Conf) where
  pub range_within : in_range X c ≡ true → Within X c
  range_within e =
      let a = ltb c.writer X.writer.states in
      let b = ltb c.reader X.reader.states in
      let l = leb c.level X.bound in
      let t = true_is (a && (b && l)) e in
      record {
        writer_in = ltb→lt _ _ (and_left a (b && l) t);
        reader_in = ltb→lt _ _ (and_left b l (and_right a (b && l) t));
        level_in = leb→le _ _ (and_right b l (and_right a (b && l) t));
      }

  pub within_range : Within X c → in_range X c ≡ true
  within_range i = rw (lt-ltb _ _ i.writer_in, lt-ltb _ _ i.reader_in, le-leb _ _ i.level_in)

-- 10 and 12, and then a check for 13
module _ (X : Pair) (bytes : List ℕ) (last : Check) where
  abbrev checked : List Check
  checked = lent_checks (size X) bytes ++ (last ∷ [])

  last_silent : verdict_of checked ≡ Fine → last.applies ≡ false
  last_silent fine = (fine_silent checked fine).1.1.0

  past_known : (c : Conf) → Entered X → verdict_of checked ≡ Fine → Within X c → Askable X bytes c
  past_known c e fine i =
      let lent = lent_known (size X) bytes (fine_front (lent_checks (size X) bytes) (last ∷ []) fine) in
      record { good = e.good; few = e.few; within = i; room = lent.0; zero_one = lent.1 }

  past_silent : {c : Conf} → Askable X bytes c → last.applies ≡ false → verdict_of checked ≡ Fine
  past_silent able off = sym (fine_goes_on (lent_checks (size X) bytes) (last ∷ []) (lent_silent (size X) bytes able.room able.zero_one)) ∙ rw off

module _ (X : Pair) (bytes : List ℕ) (c : Conf) where
  pub ask_known : Entered X → verdict_of (asks_checks X bytes c) ≡ Fine → Askable X bytes c
  ask_known e fine = past_known X bytes (conf_check X c) c e fine (range_within X c (not-false _ (last_silent X bytes (conf_check X c) fine)))

  pub ask_silent : Askable X bytes c → verdict_of (asks_checks X bytes c) ≡ Fine
  ask_silent able = past_silent X bytes (conf_check X c) able (ap not (within_range X c able.within))

module _ (X : Pair) (bytes : List ℕ) (u : Run) where
  pub open_known : Entered X → verdict_of (open_checks X bytes u) ≡ Fine → Askable X bytes (conf_of u)
  open_known e fine =
      let off = or_none (not (in_range X (conf_of u))) (some (nonzero u.items) u.level 16) (last_silent X bytes (run_check X u) fine) in
      past_known X bytes (run_check X u) (conf_of u) e fine (range_within X (conf_of u) (not-false _ off.0))

  no_places : GoodRun X u → some (nonzero u.items) u.level 16 ≡ false
  no_places good =
      none_some (nonzero u.items) u.level 16
      (λ i l h.
      let z : held_at u.items i ≡ 0 = ap (λ (z : List ℕ). held_at z i) good.zeros ∙ padded_zero (held_of u) i (omega (arith, held_count u)) in
      ap not (eq-eqb _ 0 z))

  pub open_silent : Askable X bytes (conf_of u) → GoodRun X u → verdict_of (open_checks X bytes u) ≡ Fine
  open_silent able good = past_silent X bytes (run_check X u) able (rw (within_range X (conf_of u) able.within, no_places good))

-- ---- 14

module _ (X : Pair) (x y : ℕ) where
  pub letters_known : verdict_of (letter_checks X x y) ≡ Fine → (x < X.writer.letters) × (y < X.reader.letters)
  letters_known fine =
      let s = fine_silent (letter_checks X x y) fine in
      (leb-false X.writer.letters x s.0, leb-false X.reader.letters y s.1.0)

  pub letters_silent : x < X.writer.letters → y < X.reader.letters → verdict_of (letter_checks X x y) ≡ Fine
  letters_silent hx hy = rw (lt-leb _ _ hx, lt-leb _ _ hy)

-- ---- 18

-- a list of n configurations: its version is 1, its count is true, and eight bytes stand for each configuration behind the first three
pub record ListFits (n : ℕ) (list : List ℕ) : Type 0 where
  pub version : version_in list ≡ 1
  pub count : length_in list ≡ 8 * n
  pub long : length list ≡ 3 + 8 * n

module _ (n : ℕ) (list : List ℕ) where
  -- 18 is silent exactly where the list is such a one
  pub list_known : list_wrong n list ≡ false → ListFits n list
  list_known e =
      let version = eqb (version_in list) 1 in
      let short = ltb (length list) 3 in
      let true_length = eqb (length_in list + 3) (length list) in
      let all = eqb (length_in list) (8 * n) in
      let a = or_none (not version) (short || (not true_length || not all)) e in
      let b = or_none short (not true_length || not all) a.1 in
      let c = or_none (not true_length) (not all) b.1 in
      let whole : length_in list + 3 ≡ length list = eqb-true _ _ (not-false true_length c.0) in
      let count : length_in list ≡ 8 * n = eqb-true _ _ (not-false all c.1) in
      record { version = eqb-true _ _ (not-false version a.0); count = count; long = omega (arith, whole, count) }

  pub list_silent : ListFits n list → list_wrong n list ≡ false
  list_silent h =
      rw (
        eq-eqb _ _ h.version,
        le-ltb (length list) 3 (omega (arith, h.long)),
        eq-eqb (length_in list + 3) (length list) (omega (arith, h.count, h.long)),
        eq-eqb _ _ h.count,
      )

-- what is known of a list past 18
pub check_known : (X : Pair) (list : List ℕ) → Entered X → verdict_of (judges_checks X list) ≡ Fine → Listed X list
check_known X list e fine =
    record { good = e.good; few = e.few; long = (list_known (size X) list (fine_silent (judges_checks X list) fine).0).long }

-- ---- begin, past 9

-- it takes no rule: its checks decide as those of a call whose rule is 0 or 1, and its answer does not depend on the rule
pub rule_silent : (k : Call) → k.rule ≤ 1 → verdict_of (enter_checks k) ≡ verdict_of (begin_checks k)
rule_silent k low = verdict_append (begin_checks k) (rule_check k.rule ∷ []) ∙ rw (le-ltb 1 k.rule low) (then_none (verdict_of (begin_checks k)))

pub begin_same : (writer reader : List ℕ) (bound rule other : ℕ) → begin_of (call_of writer reader bound rule) ≡ begin_of (call_of writer reader bound other)
unfolding begin_of
begin_same writer reader bound rule other = refl

pub begin_done : (k : Call) → verdict_of (enter_checks k) ≡ Fine → begun (pair_of k) ≡ begin_of k
unfolding begin_of
begin_done k entered = given_fine _ (begun (pair_of k)) (fine k entered)

-- ---- of the bytes lent, the first N are those of the largest correct set

pub answer_able : (k : Call) (bytes : List ℕ) → verdict_of (enter_checks k) ≡ Fine → IsKept (pair_of k) (take (size (pair_of k)) bytes)
    → {c : Conf} → Within (pair_of k) c → Askable (pair_of k) bytes c
answer_able k bytes fine is i =
    let n : ℕ = size (pair_of k) in
    record {
      good = enter_good k fine;
      few = enter_bound k fine;
      within = i;
      room = omega (arith, length-take n bytes, is.long);
      zero_one = λ p h. omega (arith, get_or-take n bytes p 0 h, is.zero_one p);
    }
