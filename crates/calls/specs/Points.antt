-- Demand 3, of each point of a run: what holds where a walk stands, over the call's own arguments. Bytes past the first N are never looked at.
-- Assumes nothing. (That it holds of every walk from `begin`'s run is proved: run_points in proofs/Points.antt.)
use Rattle.std.specs.Prelude.{ℕ, ◌-◌, ◌≤◌, ◌<◌, ◌≡◌, List, [], ◌∷◌, ◌++◌, length, take, None}
use Rattle.format.specs.declared.Row.{Row}
use Rattle.format.specs.Verdicts.{Fine, refusal}
use Rattle.rules.specs.Configurations.{Outcome, finish, size}
use Rattle.rules.specs.Sets.{AllowedIn}
use Rattle.rules.specs.Reasons.{ReasonIs}
use Rattle.rules.specs.declared.Reason.{Reason}
use Rattle.rules.specs.Numbers.{reason_number}
use Rattle.rules.specs.Kept.{KeptAt, kept_count}
use Rattle.calls.specs.Call.{Call, pair_of}
use Rattle.calls.specs.declared.Run.{Run}
use Rattle.calls.specs.declared.Cycle.{Cycle}
use Rattle.calls.specs.Runs.{conf_of, held_of, run_at}
use Rattle.calls.specs.Step.{done_by, refused_step, step_of}
use Rattle.calls.specs.Walks.{Walked, walk}
use Rattle.format.specs.declared.Fault.TheVariants.{NotAllowed}

-- the cycle of the move x.y in which the sides take the rows w and r
abbrev pub cycle_of : ℕ → ℕ → Row → Row → ℕ → Cycle
cycle_of x y w r incoming =
    record {
      writer_letter = x;
      reader_letter = y;
      writer_answer = w.answer;
      reader_answer = r.answer;
      incoming = incoming;
    }

module _ (k : Call) (bytes : List ℕ) where
  -- some continuation from the run u, of at most n cycles, is never refused and ends at the finish with nothing held
  pub record FinishesIn (n : ℕ) (u : Run) : Type 0 where
    pub cycles : List Cycle
    pub few : length cycles ≤ n
    pub fine : (walk k bytes cycles u).verdict ≡ Fine
    pub finished : (walk k bytes cycles u).run ≡ run_at (finish (pair_of k)) []

  pub record Point (w : Walked) : Type 0 where
    -- "The items delivered, followed by those held, are always the items accepted, in order"
    pub in_order : w.delivered ++ held_of w.run ≡ w.accepted
    -- "the held count never leaves 0 to the bound"; it is the level
    pub counted : length (held_of w.run) ≡ w.run.level
    pub bounded : length (held_of w.run) ≤ k.bound
    -- "from each point some continuation, no longer than the kept count less one, finishes with the buffer empty"
    pub can_finish : FinishesIn (kept_count (take (size (pair_of k)) bytes) - 1) w.run
    -- "each side answering by its own table": an allowed move is never refused, whichever of their rows the sides take, and is done with these
    -- rows; as many items are delivered as the reader's row takes
    pub accepts : (x y : ℕ) (a b : Row) (incoming : ℕ)
        → AllowedIn (pair_of k) (KeptAt (pair_of k) bytes) (conf_of w.run) x y
        → Outcome (pair_of k) (conf_of w.run) x y a b
        → (step_of k bytes w.run (cycle_of x y a b incoming) ≡ done_by w.run a b (incoming ∷ []))
        × ((done_by w.run a b (incoming ∷ [])).mark ≡ b.item)
    -- request b: a move of the tables' letters that is not allowed is refused with 15, and the row is the reason; whatever the answers and the
    -- item that waits, the run stands
    pub refuses : (c : Cycle) → c.writer_letter < (pair_of k).writer.letters → c.reader_letter < (pair_of k).reader.letters
        → ¬ AllowedIn (pair_of k) (KeptAt (pair_of k) bytes) (conf_of w.run) c.writer_letter c.reader_letter
        → (reason : Reason)
        × ReasonIs (pair_of k) (KeptAt (pair_of k) bytes) (conf_of w.run) c.writer_letter c.reader_letter reason
        × (step_of k bytes w.run c ≡ refused_step w.run (refusal NotAllowed None (reason_number reason)))
