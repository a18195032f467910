-- A cycle past its refusals: an outcome of an allowed move leaves a level, and the rows that the answers fix are such an outcome. Assumes nothing.
use Prim.Native.Nat.{ℕ, ◌<◌}
use native.Mathlib.Omega.{arith}
use mathlib.Core.Path.{◌≡◌}
use mathlib.Core.Bool.{Bool, true}
use mathlib.Core.List.{List}
use Rattle.lists.proofs.Bools.{true_is}
use Rattle.format.specs.declared.Row.{Row}
use Rattle.format.specs.Good.{row}
use Rattle.rules.specs.declared.Pair.{Pair}
use Rattle.rules.specs.Configurations.{Outcome}
use Rattle.rules.specs.Sets.{AllowedIn}
use Rattle.rules.specs.Kept.{KeptAt}
use Rattle.rules.specs.Tools.Computed.{allowed_test}
use Rattle.rules.proofs.Tools.RowsFor.{found_may}
use Rattle.rules.proofs.Passes.{fits, enough}
use Rattle.rules.proofs.Places.{may_good}
use Rattle.rules.proofs.Tools.Reasoned.{allowed_test_lem}
use Rattle.calls.specs.Past.{Askable, Movable}
use Rattle.calls.specs.declared.Run.{Run}
use Rattle.calls.specs.declared.Cycle.{Cycle}
use Rattle.calls.specs.Runs.{conf_of}
use Rattle.calls.specs.Step.{writer_found, reader_found}

-- ---- an outcome of an allowed move

module _ (X : Pair) (bytes : List ℕ) (u : Run) (able : Askable X bytes (conf_of u)) where
  pub outcome_movable : {x y : ℕ} {w r : Row} → AllowedIn X (KeptAt X bytes) (conf_of u) x y → Outcome X (conf_of u) x y w r → Movable u w r
  outcome_movable {w = w} {r} a o =
      let t = a.safe.tests w r o in
      record {
        level_in = omega (arith, able.within.level_in, able.few);
        fits = omega (arith, fits X u.level w r t, able.few);
        enough = enough X u.level w r t;
        writes = (may_good X.writer able.good.writer o.writer).item;
        takes = (may_good X.reader able.good.reader o.reader).item;
      }

-- ---- the rows that answers fix

module _ (X : Pair) (bytes : List ℕ) (u : Run) (c : Cycle) where
  abbrev allowed : Bool
  allowed = allowed_test X bytes (conf_of u) c.writer_letter c.reader_letter

  module _ (may : allowed ≡ true) (hw : writer_found X u c < X.writer.count) (hr : reader_found X u c < X.reader.count) where
    -- the rows that are found are an outcome of an allowed move
    pub found_outcome
        : Outcome X (conf_of u) c.writer_letter c.reader_letter (row X.writer (writer_found X u c)) (row X.reader (reader_found X u c))
    found_outcome = record {
      writer = found_may X.writer u.writer c.writer_letter c.writer_answer hw;
      reader = found_may X.reader u.reader c.reader_letter c.reader_answer hr;
    }

    pub found_allowed : Askable X bytes (conf_of u) → AllowedIn X (KeptAt X bytes) (conf_of u) c.writer_letter c.reader_letter
    found_allowed able = (allowed_test_lem X able.good able.within c.writer_letter c.reader_letter bytes).0 (true_is allowed may)

    pub found_movable : Askable X bytes (conf_of u) → Movable u (row X.writer (writer_found X u c)) (row X.reader (reader_found X u c))
    found_movable able = outcome_movable X bytes u able (found_allowed able) found_outcome
