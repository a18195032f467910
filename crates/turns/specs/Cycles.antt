-- A mirror of the code, which a reader need not believe: the parts of a cycle as the functions make them, and what they take from the 16 places.
-- Assumes nothing. (That it is what Step.antt says is proved: proofs/Turning.antt, proofs/Places.antt.)
use Rattle.std.specs.Prelude.{ℕ, ◌+◌, ◌<◌, cond, List, [], ◌∷◌, ltb, eqb}
use Rattle.format.specs.declared.Side.TheVariants.{Writer, Reader}
use Rattle.format.specs.Verdicts.{Verdict, Check}
use Rattle.format.specs.Good.{row}
use Rattle.rules.specs.declared.Pair.{Pair}
use Rattle.rules.specs.Configurations.{GoodPair}
use Rattle.calls.specs.declared.Run.{Run}
use Rattle.calls.specs.declared.Cycle.{Cycle}
use Rattle.calls.specs.declared.Stepped.{Stepped}
use Rattle.calls.specs.Runs.{held_at}
use Rattle.calls.specs.Step.{writer_found, reader_found, row_check}
use Rattle.calls.specs.Past.{Movable}

-- ---- the parts of a cycle

-- 16
abbrev pub row_checks : Pair → Run → Cycle → List Check
row_checks X u c = row_check X.writer Writer (writer_found X u c) ∷ row_check X.reader Reader (reader_found X u c) ∷ []

-- a refused cycle, by its verdict
abbrev pub as_given : Run → Verdict → Stepped
as_given u verdict = record { verdict = verdict; run = u; item = 0; mark = 0 }

-- what is known of a cycle past 15: if both answers fix a row, the run can move by the two (`Movable`)
pub record Answerable (X : Pair) (u : Run) (c : Cycle) : Type 0 where
  pub good : GoodPair X
  pub movable : writer_found X u c < X.writer.count → reader_found X u c < X.reader.count
      → Movable u (row X.writer (writer_found X u c)) (row X.reader (reader_found X u c))

-- ---- the 16 places

-- item i of the queue: the held ones, and the incoming one behind the last
abbrev pub queued_at : List ℕ → ℕ → ℕ → ℕ → ℕ
queued_at items level incoming i = cond (ltb i level) (held_at items i) incoming

-- item i of what is left of it
abbrev pub left_at : List ℕ → ℕ → ℕ → ℕ → ℕ → ℕ
left_at items level incoming taken i = queued_at items level incoming (taken + i)

-- its front, where something is taken
abbrev pub front_of : List ℕ → ℕ → ℕ → ℕ → ℕ
front_of items level incoming taken = cond (eqb taken 0) 0 (queued_at items level incoming 0)
