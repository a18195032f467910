-- Every call enters: both tables are read, then 9 and 17 are tested, and what comes of it is what the checks say. Assumes nothing.
use Prim.Native.Nat.{ℕ, ◌≤◌, ◌<◌}
use native.Mathlib.Omega.{arith}
use mathlib.Core.Path.{◌≡◌, refl, sym, ap, ◌∙◌}
use mathlib.Core.List.{List, [], ◌∷◌, ◌++◌, append_assoc}
use borrow.Author.Tests.{lt-ltb, le-ltb}
use Rattle.std.specs.Prelude.{Result, Ok, Err}
use Rattle.format.specs.declared.Reading.{Reading}
use Rattle.format.specs.declared.Fault.TheVariants.{BoundTooLarge}
use Rattle.format.specs.declared.Side.TheVariants.{Writer, Reader}
use Rattle.format.specs.Verdicts.{Refusal, Verdict, Fine, unsided, Check, verdict_of, and_then, given, unless}
use Rattle.format.specs.Reads.{checks, read_of}
use Rattle.format.proofs.Verdicts.{verdict_append, first_refuses, then_decides, unless_fine, unless_refused, unless_front, unless_goes_on, known_fine, known_value, known_refused}
use Rattle.format.proofs.Readings.{read_verdict}
use Rattle.rules.specs.declared.Rule.{Rule}
use Rattle.rules.specs.declared.Rule.TheVariants.{Registered, FlowThrough}
use Rattle.rules.specs.declared.Pair.{Pair}
use Rattle.rules.specs.Numbers.{rule_number, IsRule}
use Rattle.calls.specs.Call.{Call, rule_of, pair_of}
use Rattle.calls.specs.Refusals.{bound_check, rule_check, enter_checks}
use Rattle.calls.specs.Past.{Entered}
use Rattle.calls.proofs.Silent.{enter_known}
use Rattle.entry.specs.Enter.{Enters}

rule_few : (rule : Rule) {n : ℕ} → rule_number rule ≡ n → n ≤ 1
rule_few Registered e = omega arith
rule_few FlowThrough e = omega arith

rule_is : (rule : Rule) {n : ℕ} → rule_number rule ≡ n → rule ≡ rule_of n
rule_is Registered e = rw (← e)
rule_is FlowThrough e = rw (← e)

-- ---- 9 and 17, and the rule

module _ (bound rule : ℕ) where
  abbrev chosen : Result Rule Refusal
  chosen = unless (verdict_of (bound_check bound ∷ rule_check rule ∷ [])) (rule_of rule)

  pub bound_refused : 15 < bound → Err (unsided BoundTooLarge) ≡ chosen
  bound_refused h = rw (lt-ltb 15 bound h)

  pub rule_chosen : bound ≤ 15 → (z : Result Rule Refusal) → IsRule rule z → z ≡ chosen
  rule_chosen few (Ok r) e = rw (le-ltb 15 bound few, le-ltb 1 rule (rule_few r e), rule_is r e)
  rule_chosen few (Err x) e = rw (le-ltb 15 bound few, lt-ltb 1 rule e.1, e.0)

-- ---- what the code reads and tests is what the checks say

module _ (k : Call) {w r : Reading} (is_w : w ≡ read_of k.writer Writer) (is_r : r ≡ read_of k.reader Reader) where
  -- 9, then 17
  abbrev numbers : List Check
  numbers = bound_check k.bound ∷ rule_check k.rule ∷ []

  verdict_is : and_then w.verdict (and_then r.verdict (verdict_of numbers)) ≡ verdict_of (enter_checks k)
  verdict_is =
      let ws = checks k.writer Writer in
      let rs = checks k.reader Reader in
      let joined : enter_checks k ≡ ws ++ (rs ++ numbers) =
      append_assoc ws (rs ++ (bound_check k.bound ∷ [])) (rule_check k.rule ∷ [])
      ∙ ap (λ (cs : List Check). ws ++ cs) (append_assoc rs (bound_check k.bound ∷ []) (rule_check k.rule ∷ [])) in
      rw (is_w, is_r, read_verdict k.writer Writer, read_verdict k.reader Reader, joined, verdict_append ws (rs ++ numbers), verdict_append rs numbers)

  pub writer_refused : {x : Refusal} → w.verdict ≡ Err x → Err x ≡ unless (verdict_of (enter_checks k)) (pair_of k)
  writer_refused e = unless_refused (pair_of k) (sym verdict_is ∙ rw e)

  module _ (fine_w : w.verdict ≡ Fine) where
    pub reader_refused : {x : Refusal} → r.verdict ≡ Err x → Err x ≡ unless (verdict_of (enter_checks k)) (pair_of k)
    reader_refused e = unless_refused (pair_of k) (sym verdict_is ∙ rw (fine_w, e))

    -- what 9 and 17 say gives the rule
    module _ (fine_r : r.verdict ≡ Fine) {out : Result Rule Refusal} (told : out ≡ unless (verdict_of numbers) (rule_of k.rule)) where
      pub numbers_refused : {x : Refusal} → out ≡ Err x → Err x ≡ unless (verdict_of (enter_checks k)) (pair_of k)
      numbers_refused e =
          unless_refused (pair_of k) (sym verdict_is ∙ rw (fine_w, fine_r) (known_refused (verdict_of numbers) (rule_of k.rule) told e))

      pub both_read : {rule : Rule} → out ≡ Ok rule
          → Ok (record { writer = w.table; reader = r.table; bound = k.bound; rule = rule }) ≡ unless (verdict_of (enter_checks k)) (pair_of k)
      both_read {rule} e =
          let chosen : rule ≡ rule_of k.rule = sym (known_value (verdict_of numbers) (rule_of k.rule) told e) in
          let is : ◌≡◌ {A = Pair} (record { writer = w.table; reader = r.table; bound = k.bound; rule = rule }) (pair_of k) =
          λ i. record { writer = (is_w i).table; reader = (is_r i).table; bound = k.bound; rule = chosen i } in
          ap (λ (p : Pair). Ok p) is
          ∙ unless_fine (pair_of k) (sym verdict_is ∙ rw (fine_w, fine_r) (known_fine (verdict_of numbers) (rule_of k.rule) told e))

-- what is known of a call that has entered
module _ (k : Call) {p : Pair} where
  pub entry_fine : unless (verdict_of (enter_checks k)) (pair_of k) ≡ Ok p → verdict_of (enter_checks k) ≡ Fine
  entry_fine e = known_fine (verdict_of (enter_checks k)) (pair_of k) refl e

  pub entry_is : unless (verdict_of (enter_checks k)) (pair_of k) ≡ Ok p → pair_of k ≡ p
  entry_is e = known_value (verdict_of (enter_checks k)) (pair_of k) refl e

  pub entry_known : unless (verdict_of (enter_checks k)) (pair_of k) ≡ Ok p → Entered p
  entry_known e = rw (← entry_is e) (enter_known k (entry_fine e))

  -- the entry checks, then the rest, over the pair as read
  module _ (ok : unless (verdict_of (enter_checks k)) (pair_of k) ≡ Ok p) {A : Type 0} (value : Pair → A) (later : Pair → List Check) where
    pub entry_ok : unless (verdict_of (later p)) (value p) ≡ unless (verdict_of (enter_checks k ++ later (pair_of k))) (value (pair_of k))
    entry_ok =
        ap (λ (X : Pair). unless (verdict_of (later X)) (value X)) (sym (entry_is ok))
        ∙ unless_goes_on (value (pair_of k)) (enter_checks k) (later (pair_of k)) (entry_fine ok)

pub entry_err : (k : Call) {A : Type 0} (a : A) (later : List Check) {r : Refusal} → unless (verdict_of (enter_checks k)) (pair_of k) ≡ Err r
    → Err r ≡ unless (verdict_of (enter_checks k ++ later)) a
entry_err k a later e = unless_front a (enter_checks k) later (known_refused (verdict_of (enter_checks k)) (pair_of k) refl e)

-- the pair beside the verdict, where there is a refusal too
pub enter_is : (k : Call) {w r : Reading} {v : Verdict} {rule : Rule} → rule ≡ rule_of k.rule → (is_w : w ≡ read_of k.writer Writer) (is_r : r ≡ read_of k.reader Reader)
    → v ≡ and_then w.verdict (and_then r.verdict (verdict_of (bound_check k.bound ∷ rule_check k.rule ∷ [])))
    → Enters k (record { pair = record { writer = w.table; reader = r.table; bound = k.bound; rule = rule }; verdict = v })
enter_is k is is_w is_r told = record {
  pair_is = λ i. record { writer = (is_w i).table; reader = (is_r i).table; bound = k.bound; rule = is i };
  told = told ∙ verdict_is k is_w is_r;
}

-- a call that gives its answer by its verdict: the entry checks refuse, or the rest decides over the pair as read
module _ {ℓ} {A : Type ℓ} (k : Call) (refuse : Refusal → A) (done : Pair → A) (later : Pair → List Check) where
  abbrev whole : A
  whole = given (verdict_of (enter_checks k ++ later (pair_of k))) refuse (done (pair_of k))

  pub entry_refuses : {r : Refusal} → unless (verdict_of (enter_checks k)) (pair_of k) ≡ Err r → refuse r ≡ whole
  entry_refuses e =
      first_refuses refuse (done (pair_of k)) (enter_checks k) (later (pair_of k)) refl (known_refused (verdict_of (enter_checks k)) (pair_of k) refl e)

  pub entry_goes_on : {p : Pair} → unless (verdict_of (enter_checks k)) (pair_of k) ≡ Ok p → given (verdict_of (later p)) refuse (done p) ≡ whole
  entry_goes_on ok =
      ap (λ (X : Pair). given (verdict_of (later X)) refuse (done X)) (sym (entry_is k ok))
      ∙ then_decides refuse (done (pair_of k)) (enter_checks k) (later (pair_of k)) (entry_fine k ok)
