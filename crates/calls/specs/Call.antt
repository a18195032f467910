-- What build, ask and step take, two tables in bytes, the bound and the number of the rule, and the pair that they are once read. (Begin takes no
-- rule, and its answer is the same for each.) Assumes nothing.
use Rattle.std.specs.Prelude.{ℕ, zero, suc, List}
use Rattle.format.specs.declared.Side.TheVariants.{Writer, Reader}
use Rattle.format.specs.Reads.{read_of}
use Rattle.rules.specs.declared.Rule.{Rule}
use Rattle.rules.specs.declared.Rule.TheVariants.{Registered, FlowThrough}
use Rattle.rules.specs.declared.Pair.{Pair}

pub record Call : Type 0 where
  pub writer : List ℕ
  pub reader : List ℕ
  pub bound : ℕ
  pub rule : ℕ

-- the call with these arguments
abbrev pub call_of : List ℕ → List ℕ → ℕ → ℕ → Call
call_of writer reader bound rule = record { writer = writer; reader = reader; bound = bound; rule = rule }

-- request a: "A rule number chooses: 0 registered (the old tests), 1 flow-through". A number above 1 is refused with 17, so what
-- it chooses here is never used
abbrev pub rule_of : ℕ → Rule
rule_of zero = Registered
rule_of (suc n) = FlowThrough

-- its tables as read, its bound and its rule
abbrev pub pair_of : Call → Pair
pair_of k =
    record {
      writer = (read_of k.writer Writer).table;
      reader = (read_of k.reader Reader).table;
      bound = k.bound;
      rule = rule_of k.rule;
    }
