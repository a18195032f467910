-- The numbers of the rules (request a) and of the reasons (request b). Assumes nothing.
use Rattle.std.specs.Prelude.{ℕ, ◌≡◌, ◌<◌, Result, MatchResult}
use Rattle.format.specs.declared.Fault.TheVariants.{UnknownRule}
use Rattle.format.specs.Verdicts.{Refusal, unsided}
use Rattle.rules.specs.declared.Rule.{Rule}
use Rattle.rules.specs.declared.Rule.TheVariants.{Registered, FlowThrough}
use Rattle.rules.specs.declared.Reason.{Reason}
use Rattle.rules.specs.declared.Reason.TheVariants.{Allowed, NotKept, NoWriterRow, NoReaderRow, Overflows, Underflows, LandsOutside}

-- "0 registered (the old tests), 1 flow-through"
abbrev pub rule_number : Rule → ℕ
rule_number Registered = 0
rule_number FlowThrough = 1

-- the result is the rule with this number, or refusal 17 of a number that no rule has
abbrev pub IsRule : ℕ → Result Rule Refusal → Type 0
IsRule number r = MatchResult r (λ rule. rule_number rule ≡ number) (λ refused. (refused ≡ unsided UnknownRule) × (1 < number))

-- "0 allowed, 1 configuration not kept, 2 no writer row, 3 no reader row, 4 some outcome overflows, 5 some outcome underflows, 6 some outcome
-- lands outside the kept set"
abbrev pub reason_number : Reason → ℕ
reason_number Allowed = 0
reason_number NotKept = 1
reason_number NoWriterRow = 2
reason_number NoReaderRow = 3
reason_number Overflows = 4
reason_number Underflows = 5
reason_number LandsOutside = 6
