-- Which refusal a cycle gets, over the rules: 15 exactly if the move is not allowed, with the reason as its row, 16 exactly if a table has no row
-- for the state, the letter and the answer, the writer first; else it is done. Past 14, that is for letters of the tables. Assumes nothing.
use Prim.Native.Nat.{ℕ, ◌≤◌, ◌<◌}
use native.Mathlib.Omega.{arith}
use mathlib.Core.Path.{◌≡◌, refl, sym, ap, ◌∙◌, subst}
use mathlib.Core.Logic.{◌↔◌, ⊎_elim}
use mathlib.Core.Bool.{Bool, true, false, not, cond}
use mathlib.Core.List.{List, ◌++◌}
use lib.Dec.{leb}
use borrow.Author.Tests.{lt-leb, leb-false}
use Rattle.lists.proofs.Bools.{is_true, true_is}
use Rattle.lists.proofs.Rest.{le_or_lt}
use Rattle.format.specs.declared.Table.{Table}
use Rattle.format.specs.Verdicts.{Verdict, Fine, Refused, number_of, side_of, row_of, verdict_of}
use Rattle.format.specs.Good.{row, Good}
use Rattle.format.proofs.Verdicts.{fine_goes_on}
use Rattle.rules.specs.declared.Pair.{Pair}
use Rattle.rules.specs.Sets.{AllowedIn}
use Rattle.rules.specs.Reasons.{ReasonIs}
use Rattle.rules.specs.declared.Reason.{Reason}
use Rattle.rules.specs.Numbers.{reason_number}
use Rattle.rules.specs.Kept.{KeptAt}
use Rattle.rules.specs.Tools.Computed.{row_with, reason_of, allowed_test}
use Rattle.rules.proofs.Reasons.{same_number, allowed_none, one_reason, zero_allowed}
use Rattle.rules.proofs.Tools.RowsFor.{found_may, found_answers}
use Rattle.rules.proofs.Tools.Reasoned.{reason_test, allowed_test_lem}
use Rattle.calls.specs.declared.Run.{Run}
use Rattle.calls.specs.declared.Cycle.{Cycle}
use Rattle.calls.specs.Call.{Call, pair_of}
use Rattle.calls.specs.Refusals.{enter_checks}
use Rattle.calls.specs.Runs.{conf_of}
use Rattle.calls.specs.Step.{HasRow, writer_found, reader_found, open_checks, turn_checks, step_of}
use Rattle.calls.specs.Past.{Askable}
use Rattle.calls.proofs.Silent.{enter_known, open_known}
use Rattle.calls.proofs.Accepted.{step_verdict, taken_found}
use Rattle.std.specs.Prelude.{None, Some}
use Rattle.format.specs.declared.Side.TheVariants.{Writer, Reader}
use Rattle.format.specs.declared.Fault.TheVariants.{NotAllowed, NoRow}

-- both sides: the row that is looked for is there exactly if the table has one
module _ (t : Table) (good : Good t) (state letter answer : ℕ) where
  abbrev missing : Bool
  missing = leb t.count (row_with t state letter answer)

  row_there : HasRow t state letter answer → missing ≡ false
  row_there h =
      let l : row_with t state letter answer < t.count = subst (λ (a : ℕ). row_with t state letter a < t.count) h.2 (taken_found t good h.1) in
      lt-leb _ _ l

  row_missing : ¬ HasRow t state letter answer → missing ≡ true
  row_missing none = go missing refl
    where
      go : (b : Bool) → missing ≡ b → b ≡ true
      go true e = refl
      go false e =
          let l : row_with t state letter answer < t.count = leb-false _ _ e in
          absurd (none (row t (row_with t state letter answer), found_may t state letter answer l, (found_answers t state letter answer l).shows))

-- ---- the verdict by three tests, with n the row of 15

chosen : ℕ → Bool → Bool → Bool → Verdict
chosen n out no_writer no_reader = cond out (Refused NotAllowed None n) (cond no_writer (Refused NoRow (Some Writer) 0) (cond no_reader (Refused NoRow (Some Reader) 0) Fine))

differs : {v w : Verdict} → v ≡ w → (number_of v ≡ number_of w → side_of v ≡ side_of w → ⊥) → ⊥
differs e f = f (ap number_of e) (ap side_of e)

not_15 : (n : ℕ) (w r : Bool) → number_of (chosen n false w r) ≡ 15 → ⊥
unfolding chosen
not_15 n true r e = omega arith
not_15 n false true e = omega arith
not_15 n false false e = omega arith

not_16_writer : (n : ℕ) (o r : Bool) → chosen n o false r ≡ Refused NoRow (Some Writer) 0 → ⊥
unfolding chosen
not_16_writer n true r e = differs e (λ n s. omega arith)
not_16_writer n false true e = differs e (λ n s. omega arith)
not_16_writer n false false e = differs e (λ n s. omega arith)

not_16_reader : (n : ℕ) (o w : Bool) → chosen n o w false ≡ Refused NoRow (Some Reader) 0 → ⊥
unfolding chosen
not_16_reader n true w e = differs e (λ n s. omega arith)
not_16_reader n false true e = differs e (λ n s. omega arith)
not_16_reader n false false e = differs e (λ n s. omega arith)

module _ (k : Call) (bytes : List ℕ) (u : Run) (c : Cycle) where
  abbrev X : Pair
  X = pair_of k

  abbrev verdict : Verdict
  verdict = (step_of k bytes u c).verdict

  abbrev Allowed : Type 0
  Allowed = AllowedIn X (KeptAt X bytes) (conf_of u) c.writer_letter c.reader_letter

  abbrev Why : Reason → Type 0
  Why = ReasonIs X (KeptAt X bytes) (conf_of u) c.writer_letter c.reader_letter

  abbrev WriterRow : Type 0
  WriterRow = HasRow X.writer u.writer c.writer_letter c.writer_answer

  abbrev ReaderRow : Type 0
  ReaderRow = HasRow X.reader u.reader c.reader_letter c.reader_answer

  -- 1 to 14 do not apply
  pub record PastLetters : Type 0 where
    pub enters : verdict_of (enter_checks k) ≡ Fine
    pub opens : verdict_of (open_checks X bytes u) ≡ Fine
    pub writer_letter : c.writer_letter < X.writer.letters
    pub reader_letter : c.reader_letter < X.reader.letters

  module _ (past : PastLetters) where
    able : Askable X bytes (conf_of u)
    able = open_known X bytes u (enter_known k past.enters) past.opens

    allowed : Bool
    allowed = allowed_test X bytes (conf_of u) c.writer_letter c.reader_letter

    reason : Reason
    reason = reason_of X bytes (conf_of u) c.writer_letter c.reader_letter

    reason_is : Why reason
    unfolding reason
    reason_is = reason_test X able.good able.within _ _ bytes

    abbrev no_writer : Bool
    no_writer = leb X.writer.count (writer_found X u c)

    abbrev no_reader : Bool
    no_reader = leb X.reader.count (reader_found X u c)

    verdict_is : verdict ≡ chosen (reason_number reason) (not allowed) no_writer no_reader
    unfolding chosen allowed reason
    verdict_is =
        step_verdict k bytes u c
        ∙ sym (fine_goes_on (enter_checks k) (open_checks X bytes u ++ turn_checks X bytes u c) past.enters)
        ∙ sym (fine_goes_on (open_checks X bytes u) (turn_checks X bytes u c) past.opens)
        ∙ rw (lt-leb _ _ past.writer_letter, lt-leb _ _ past.reader_letter)

    out_of : ¬ Allowed → not allowed ≡ true
    unfolding allowed
    out_of none = go allowed refl
      where
        go : (t : Bool) → allowed ≡ t → not t ≡ true
        go true e = absurd (none ((allowed_test_lem X able.good able.within _ _ bytes).0 (true_is _ e)))
        go false e = refl

    in_of : Allowed → not allowed ≡ false
    unfolding allowed
    in_of a = ap not (is_true allowed ((allowed_test_lem X able.good able.within _ _ bytes).1 a))

    writer_there : WriterRow → no_writer ≡ false
    writer_there = row_there X.writer able.good.writer u.writer c.writer_letter c.writer_answer

    writer_missing : ¬ WriterRow → no_writer ≡ true
    writer_missing = row_missing X.writer able.good.writer u.writer c.writer_letter c.writer_answer

    reader_there : ReaderRow → no_reader ≡ false
    reader_there = row_there X.reader able.good.reader u.reader c.reader_letter c.reader_answer

    reader_missing : ¬ ReaderRow → no_reader ≡ true
    reader_missing = row_missing X.reader able.good.reader u.reader c.reader_letter c.reader_answer

    -- ---- what the verdict says

    in_verdict : Allowed → verdict ≡ chosen (reason_number reason) false no_writer no_reader
    in_verdict a = verdict_is ∙ ap (λ (b : Bool). chosen (reason_number reason) b no_writer no_reader) (in_of a)

    out_verdict : ¬ Allowed → verdict ≡ Refused NotAllowed None (reason_number reason)
    unfolding chosen
    out_verdict none = verdict_is ∙ rw (out_of none)

    pub fifteen : (number_of verdict ≡ 15) ↔ (¬ Allowed)
    fifteen = (
      λ e a. not_15 (reason_number reason) no_writer no_reader (ap number_of (sym (in_verdict a)) ∙ e),
      λ none. ap number_of (out_verdict none),
    )

    pub refused_because : ¬ Allowed → (because : Reason) × Why because × (verdict ≡ Refused NotAllowed None (reason_number because))
    refused_because none = (reason, reason_is, out_verdict none)

    -- "A step that is refused with 15 carries it in the row field": the row is the number of the reason, and the reason is not 0
    pub fifteen_reason : (because : Reason) → (verdict ≡ Refused NotAllowed None (reason_number because)) ↔ (Why because × (1 ≤ reason_number because))
    fifteen_reason because = (
      λ e.
          let none : ¬ Allowed = fifteen.0 (ap number_of e) in
          let same : reason ≡ because = same_number reason because (ap row_of (sym (out_verdict none) ∙ e)) in
          let why : Why because = subst Why same reason_is in (
            why,
            ⊎_elim
                (λ (h : 1 ≤ reason_number because). h)
                (λ (h : reason_number because < 1). absurd (none (zero_allowed X (KeptAt X bytes) (conf_of u) _ _ because why (omega arith))))
                (le_or_lt 1 (reason_number because)),
          ),
      λ h.
          let same : reason ≡ because = one_reason X (KeptAt X bytes) (conf_of u) _ _ reason because reason_is h.0 in
          out_verdict (λ a. allowed_none X (KeptAt X bytes) (conf_of u) _ _ a because h.1 h.0.applies)
          ∙ ap (λ (z : Reason). Refused NotAllowed None (reason_number z)) same,
    )

    pub sixteen_writer : Allowed → (verdict ≡ Refused NoRow (Some Writer) 0) ↔ (¬ WriterRow)
    unfolding chosen
    sixteen_writer a = (
      λ e w.
          not_16_writer (reason_number reason) false no_reader
          (sym (in_verdict a ∙ ap (λ (b : Bool). chosen (reason_number reason) false b no_reader) (writer_there w)) ∙ e),
      λ none. in_verdict a ∙ rw (writer_missing none),
    )

    pub sixteen_reader : Allowed → WriterRow → (verdict ≡ Refused NoRow (Some Reader) 0) ↔ (¬ ReaderRow)
    unfolding chosen
    sixteen_reader a w = (
      λ e r.
          not_16_reader (reason_number reason) false no_writer
          (sym (in_verdict a ∙ ap (λ (b : Bool). chosen (reason_number reason) false no_writer b) (reader_there r)) ∙ e),
      λ none. in_verdict a ∙ rw (writer_there w, reader_missing none),
    )

    pub step_fine : Allowed → WriterRow → ReaderRow → verdict ≡ Fine
    unfolding chosen
    step_fine a w r = in_verdict a ∙ rw (writer_there w, reader_there r)
