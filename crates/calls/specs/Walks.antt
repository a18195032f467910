-- A walk: single steps over a list of cycles, up to the first refusal. Assumes nothing.
use Rattle.std.specs.Prelude.{ℕ, suc, List, [], ◌∷◌, ◌++◌, take, Ok, Err}
use Rattle.format.specs.Verdicts.{Verdict, Fine}
use Rattle.format.specs.Good.{row}
use Rattle.rules.specs.declared.Pair.{Pair}
use Rattle.calls.specs.Call.{Call, pair_of}
use Rattle.calls.specs.declared.Run.{Run}
use Rattle.calls.specs.declared.Cycle.{Cycle}
use Rattle.calls.specs.declared.Stepped.{Stepped}
use Rattle.calls.specs.Items.{firsts}
use Rattle.calls.specs.Step.{incoming_of, writer_found, step_of}

-- the items that a step that is done accepts: as many of those that wait as the writer's row writes
abbrev pub accepted_in : Pair → Run → Cycle → List ℕ
accepted_in X u c = firsts (row X.writer (writer_found X u c)).item (incoming_of c)

-- the items that a step delivers: as many as its mark says
abbrev pub delivered_by : Stepped → List ℕ
delivered_by s = take s.mark (s.item ∷ [])

-- where a walk stands: its last verdict, the run, the cycles that are done, and all items accepted and delivered in them.
-- A refused cycle is not done, and leaves the run as it was.
pub record Walked : Type 0 where
  pub verdict : Verdict
  pub run : Run
  pub cycles : ℕ
  pub accepted : List ℕ
  pub delivered : List ℕ

abbrev pub stands : Verdict → Run → Walked
stands v u = record { verdict = v; run = u; cycles = 0; accepted = []; delivered = [] }

-- one cycle more, in front
abbrev pub more : List ℕ → List ℕ → Walked → Walked
more ins outs w =
    record {
      verdict = w.verdict;
      run = w.run;
      cycles = suc w.cycles;
      accepted = ins ++ w.accepted;
      delivered = outs ++ w.delivered;
    }

abbrev pub go_on : Verdict → Run → Walked → Walked
go_on (Ok _) u w = w
go_on (Err refusal) u w = stands (Err refusal) u

unfoldable pub walk : Call → List ℕ → List Cycle → Run → Walked
unfolding step_of
walk k bytes [] u = stands Fine u
walk k bytes (c ∷ cs) u =
    let s : Stepped = step_of k bytes u c in
    go_on s.verdict u (more (accepted_in (pair_of k) u c) (delivered_by s) (walk k bytes cs s.run))
