-- `tables::check_header` meets its contract: at each return the lines of the table of refusals before it do not apply. Assumes nothing.
use native.Mathlib.Omega.{arith}
use mathlib.Core.Bool.{false}
use mathlib.Core.Path.{◌≡◌, sym, ◌∙◌}
use Rattle.format.specs.Reads.{length_wrong, range_wrong}
use Rattle.format.proofs.Header.{header_1, header_2, header_3, header_4, header_5, header_6, header_fine}
use Rattle.tables.proofs.check_header.Goals as goal

pub returns-then-b-lt-HEADER : goal.returns-then-b-lt-HEADER
returns-then-b-lt-HEADER c = rw c.of.ensures (header_1 _ _ _ (omega arith))

pub returns-then-b-ne-VERSION : goal.returns-then-b-ne-VERSION
returns-then-b-ne-VERSION c = rw c.of-then-b-ne-VERSION.ensures (header_2 _ _ _ (omega arith) c.if-b-ne-VERSION.true)

pub returns-then-length_wrong : goal.returns-then-length_wrong
returns-then-length_wrong c = rw c.of-then-length_wrong.ensures (header_3 _ _ _ (omega arith) (omega arith) (sym c.length_wrong.ensures ∙ c.if-length_wrong.true))

pub returns-then-b-number : goal.returns-then-b-number
returns-then-b-number c =
    let long : length_wrong c.args.b.now ≡ false =
    sym c.length_wrong.ensures ∙ c.if-length_wrong.false in
    rw c.of-then-b-number.ensures (header_4 _ _ _ (omega arith) (omega arith) (long) (rw (← c.number.ensures) c.if-b-number.true))

pub returns-then-range_wrong : goal.returns-then-range_wrong
returns-then-range_wrong c =
    let long : length_wrong c.args.b.now ≡ false =
    sym c.length_wrong.ensures ∙ c.if-length_wrong.false in
    let wrong = sym c.range_wrong.ensures ∙ c.if-range_wrong.true in
    rw c.of-then-range_wrong.ensures (header_5 _ _ _ (omega arith) (omega arith) (long) (omega arith) wrong)

pub returns-then-n-b : goal.returns-then-n-b
returns-then-n-b c =
    let long : length_wrong c.args.b.now ≡ false =
    sym c.length_wrong.ensures ∙ c.if-length_wrong.false in
    let in_range : range_wrong c.args.b.now ≡ false =
    sym c.range_wrong.ensures ∙ c.if-range_wrong.false in
    rw c.of-then-n-b.ensures (header_6 _ _ _ (omega arith) (omega arith) (long) (omega arith) (in_range) (λ h. omega arith))

pub returns-then-n-b-2 : goal.returns-then-n-b-2
returns-then-n-b-2 c =
    let long : length_wrong c.args.b.now ≡ false =
    sym c.length_wrong.ensures ∙ c.if-length_wrong.false in
    let in_range : range_wrong c.args.b.now ≡ false =
    sym c.range_wrong.ensures ∙ c.if-range_wrong.false in
    rw c.of-then-n-b-2.ensures (header_6 _ _ _ (omega arith) (omega arith) (long) (omega arith) (in_range) (λ h. omega arith))

pub returns : goal.returns
returns c =
    let long : length_wrong c.args.b.now ≡ false =
    sym c.length_wrong.ensures ∙ c.if-length_wrong.false in
    let in_range : range_wrong c.args.b.now ≡ false =
    sym c.range_wrong.ensures ∙ c.if-range_wrong.false in
    header_fine _ _ _ (omega arith) (omega arith) (long) (omega arith) (in_range) (omega arith, omega arith)
