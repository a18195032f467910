-- Request b, the call for support: why a move is not allowed at a configuration, over the 0/1 bytes the caller lends, built by us or not. It has the
-- refusals of ask, then 14 for a letter that is not below d; else it is done, with the reason. A refusal returns reason 0.
-- `reason_of` is the reason that computes; that it is the one of the rules (`ReasonIs`) is proved: why_reason in proofs/WhySays.antt.
-- Assumes nothing.
use Rattle.std.specs.Prelude.{ℕ, List, ◌++◌, Err}
use Rattle.format.specs.Verdicts.{Refusal, Fine, Check, verdict_of, given}
use Rattle.rules.specs.declared.Conf.{Conf}
use Rattle.rules.specs.declared.Pair.{Pair}
use Rattle.rules.specs.declared.Reason.{Reason}
use Rattle.rules.specs.Numbers.{reason_number}
use Rattle.rules.specs.Tools.Computed.{reason_of}
use Rattle.calls.specs.declared.Explained.{Explained}
use Rattle.calls.specs.Call.{Call, pair_of}
use Rattle.calls.specs.Refusals.{enter_checks, letter_checks}
use Rattle.calls.specs.Ask.{asks_checks}

abbrev pub explained : Reason → Explained
explained reason = record { verdict = Fine; reason = reason_number reason }

abbrev pub unexplained : Refusal → Explained
unexplained refusal = record { verdict = Err refusal; reason = 0 }

-- past 9 and 17: 10, 12, 13, 14
abbrev pub whys_checks : Pair → List ℕ → Conf → ℕ → ℕ → List Check
whys_checks X bytes c x y = asks_checks X bytes c ++ letter_checks X x y

abbrev pub why_checks : Call → List ℕ → Conf → ℕ → ℕ → List Check
why_checks k bytes c x y = enter_checks k ++ whys_checks (pair_of k) bytes c x y

unfoldable pub why_of : Call → List ℕ → Conf → ℕ → ℕ → Explained
unfolding reason_of
why_of k bytes c x y = given (verdict_of (why_checks k bytes c x y)) unexplained (explained (reason_of (pair_of k) bytes c x y))
