-- Document 01: "An entry point for the generator returns one 64-bit number: ask's set, or number + 2^8 × side + 2^16 × row + 2^32 × kept +
-- 2^48 × rounds, with ask's count and lowest in the last two places." Why has its reason in the place of kept, and 0 in the last.
-- Assumes nothing.
use Rattle.std.specs.Prelude.{ℕ, ◌+◌, ◌*◌, ◌^◌, ◌≡◌, List}
use Rattle.format.specs.Verdicts.{Verdict, number_of, side_of, row_of}
use Rattle.calls.specs.declared.Asked.{Asked}
use Rattle.calls.specs.declared.Built.{Built}
use Rattle.calls.specs.declared.Explained.{Explained}
use Rattle.calls.specs.Call.{Call}
use Rattle.calls.specs.Build.{BuildSays}
use Rattle.calls.specs.Check.{CheckSays}

abbrev pub packed : ℕ → ℕ → ℕ → ℕ → ℕ → ℕ
packed number side row fourth fifth = number + 2 ^ 8 * side + 2 ^ 16 * row + 2 ^ 32 * fourth + 2 ^ 48 * fifth

-- number, side and row of a verdict, and the last two places
abbrev pub packed_with : Verdict → ℕ → ℕ → ℕ
packed_with v fourth fifth = packed (number_of v) (side_of v) (row_of v) fourth fifth

abbrev pub packed_built : Built → ℕ
packed_built b = packed_with b.verdict b.kept b.rounds

abbrev pub packed_asked : Asked → ℕ
packed_asked a = packed_with a.verdict a.count a.lowest

abbrev pub packed_explained : Explained → ℕ
packed_explained e = packed_with e.verdict e.reason 0

-- z is the packed number of what build answers, and after is what build leaves in the lent buffer
pub record PackedBuild (k : Call) (before after : List ℕ) (z : ℕ) : Type 0 where
  pub built : Built
  pub says : BuildSays k before after built
  pub number_is : z ≡ packed_built built

-- z is the packed number of what check answers: "number + 2^8 side + 2^16 place"
pub record PackedCheck (k : Call) (list : List ℕ) (z : ℕ) : Type 0 where
  pub verdict : Verdict
  pub says : CheckSays k list verdict
  pub number_is : z ≡ packed_with verdict 0 0
