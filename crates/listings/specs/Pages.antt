-- Document 01, "The listing", with the rule in its first line (request a): which text the listing of a pair has, from what build and ask answer.
-- Assumes nothing.
use Rattle.std.specs.Prelude.{ℕ, cond, List, [], Ok, Err}
use Rattle.format.specs.Verdicts.{fault_number, named_side, Verdict}
use Rattle.rules.specs.declared.Conf.{Conf}
use Rattle.rules.specs.Configurations.{size}
use Rattle.rules.specs.Tools.Computed.{one_at, conf_at}
use Rattle.calls.specs.declared.Asked.{Asked}
use Rattle.calls.specs.declared.Built.{Built}
use Rattle.calls.specs.Call.{Call, pair_of}
use Rattle.calls.specs.Ask.{ask_of}
use Rattle.calls.specs.Build.{BuildSays}
use Rattle.texts.specs.Text.{first_line, conf_line, refusal_line}
use Rattle.texts.specs.Written.{Written}

-- "First line: kept count, N, rounds, B." It "ends in ` rule=` and the number." "A refusal prints `refused 11 side 0 row 0` with its numbers."
abbrev pub head_as : Verdict → Call → Built → List ℕ
head_as (Ok tt) k b = first_line b.kept (size (pair_of k)) b.rounds k.bound k.rule
head_as (Err r) k b = refusal_line (fault_number r.fault) (named_side r.side) r.row

abbrev pub head_text : Call → Built → List ℕ
head_text k b = head_as b.verdict k b

-- what build answers, and leaves in the lent bytes, and the line of it
pub record HeadSays (k : Call) (before after out : List ℕ) (r : ℕ) (written : List ℕ) : Type 0 where
  pub built : Built
  pub says : BuildSays k before after built
  pub line : Written (head_text k built) out r written

-- "writer state, reader state, level, allowed moves": the line of a configuration by what ask answers there, and no text if ask refuses
abbrev pub asked_text : Verdict → Conf → Asked → List ℕ
asked_text (Ok tt) c a = conf_line c.writer c.reader c.level a.set
asked_text (Err r) c a = []

unfoldable pub spot_text : Call → List ℕ → Conf → List ℕ
unfolding ask_of
spot_text k bytes c = asked_text (ask_of k bytes c).verdict c (ask_of k bytes c)

-- the line of the configuration whose place is p: `conf_at` divides the place
abbrev pub text_at : Call → List ℕ → ℕ → List ℕ
text_at k bytes p = spot_text k bytes (conf_at (pair_of k) p)

-- "a line for each kept configuration in order of place": the text of place p, no text if its byte is not 1. Each configuration has its text
-- at its place, and past the last place there is no text, whatever the bytes (`text_at_lem` and `text_past`, proofs/Whole.antt)
unfoldable pub place_text : Call → List ℕ → ℕ → List ℕ
unfolding conf_at spot_text
place_text k bytes p = cond (one_at bytes p) (text_at k bytes p) []
