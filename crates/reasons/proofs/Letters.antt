-- Refusal 14 by its two tests. Assumes nothing.
use Prim.Native.Nat.{ℕ, ◌≤◌, ◌<◌}
use mathlib.Core.Path.{◌≡◌}
use borrow.Author.Tests.{le-leb, lt-leb}
use Rattle.format.specs.Verdicts.{Fine, Refused, verdict_of}
use Rattle.rules.specs.declared.Pair.{Pair}
use Rattle.calls.specs.Refusals.{letter_checks}
use Rattle.std.specs.Prelude.{Some}
use Rattle.format.specs.declared.Side.TheVariants.{Writer, Reader}
use Rattle.format.specs.declared.Fault.TheVariants.{NoLetter}

module _ (X : Pair) (x y : ℕ) where
  pub writer_letter : X.writer.letters ≤ x → Refused NoLetter (Some Writer) 0 ≡ verdict_of (letter_checks X x y)
  writer_letter h = rw (le-leb _ _ h)

  module _ (hw : x < X.writer.letters) where
    pub reader_letter : X.reader.letters ≤ y → Refused NoLetter (Some Reader) 0 ≡ verdict_of (letter_checks X x y)
    reader_letter h = rw (lt-leb _ _ hw, le-leb _ _ h)

    pub both_letters : y < X.reader.letters → Fine ≡ verdict_of (letter_checks X x y)
    both_letters h = rw (lt-leb _ _ hw, lt-leb _ _ h)
