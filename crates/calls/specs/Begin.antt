-- Document 01: "Beginning a run takes two tables and B and gives the start with nothing held, or refuses (1 to 9) with all zero in the run
-- beside the refusal's number, side and row." It takes no rule, and its answer is the same whatever the rule. Assumes nothing.
use Rattle.std.specs.Prelude.{ℕ, [], Err}
use Rattle.format.specs.Verdicts.{Refusal, Fine, verdict_of, given}
use Rattle.format.specs.Reads.{read_of}
use Rattle.rules.specs.declared.Pair.{Pair}
use Rattle.rules.specs.Configurations.{start, conf_with}
use Rattle.calls.specs.declared.Run.{Run}
use Rattle.calls.specs.declared.Begun.{Begun}
use Rattle.calls.specs.Call.{Call, pair_of}
use Rattle.calls.specs.Refusals.{begin_checks}
use Rattle.calls.specs.Items.{padded}
use Rattle.calls.specs.Runs.{run_at}

-- two states with nothing held
abbrev pub empty_at : ℕ → ℕ → Run
empty_at writer reader = run_at (conf_with writer reader 0) []

-- the start with nothing held
abbrev pub start_run : Pair → Run
start_run X = run_at (start X) []

-- all zero in the run
abbrev pub not_begun : Refusal → Begun
not_begun refusal = record { verdict = Err refusal; run = empty_at 0 0 }

abbrev pub begun : Pair → Begun
begun X = record { verdict = Fine; run = start_run X }

unfoldable pub begin_of : Call → Begun
unfolding padded read_of
begin_of k = given (verdict_of (begin_checks k)) not_begun (begun (pair_of k))
