-- What the program writes. What a writer holds is `Some` of its bytes, where it says which they are, and `None` where it does not, as standard
-- output: of that nothing is claimed. Assumes nothing.
use Rattle.std.specs.Prelude.{◌≡◌, ℕ, zero, suc, List, [], ◌∷◌, ◌++◌, take, slice_range, replicate, Option}
use Rattle.std.specs.Io.KnownBytes.{Appends}
use Rattle.texts.specs.Cut.{cut_of}
use Rattle.calls.specs.declared.Built.{Built}
use Rattle.calls.specs.Call.{Call, call_of}
use Rattle.calls.specs.Build.{BuildSays}
use Rattle.listings.specs.Pages.{head_text, place_text}
use Rattle.worked.specs.declared.TheConstants.{A_WRITER, A_READER, A_BOUNDS, C_WRITER, C_READER, C_BOUNDS, REGISTERED}

-- the texts of the places below n, in order
abbrev pub places_text : Call → List ℕ → ℕ → List ℕ
places_text k bytes zero = []
places_text k bytes (suc p) = places_text k bytes p ++ place_text k bytes p

-- build answers, and leaves in the lent bytes, and its first line was written
pub record PrintsHead (k : Call) (lent kept : List ℕ) (before after : Option (List ℕ)) : Type 0 where
  pub built : Built
  pub says : BuildSays k lent kept built
  pub line : Appends before after (head_text k built)

-- the listing of a pair was written: its first line, and then the text of each place
pub record Prints (k : Call) (before after : Option (List ℕ)) : Type 0 where
  pub built : Built
  pub kept : List ℕ
  pub says : BuildSays k (replicate 4096 0) kept built
  pub text : Appends before after (head_text k built ++ places_text k kept 4096)

-- the listings of two tables by a rule at each of these bounds were written, one after the other
abbrev pub PrintsEach : List ℕ → List ℕ → ℕ → List ℕ → Option (List ℕ) → Option (List ℕ) → Type 0
PrintsEach writer reader rule [] before after = after ≡ before
PrintsEach writer reader rule (bound ∷ bounds) before after =
    (between : Option (List ℕ)) × Prints (call_of writer reader bound rule) before between × PrintsEach writer reader rule bounds between after

-- the worked pairs under the registered rule
abbrev pub PrintsWorked : Option (List ℕ) → Option (List ℕ) → Type 0
PrintsWorked before after =
    (between : Option (List ℕ)) × PrintsEach A_WRITER A_READER REGISTERED A_BOUNDS before between × PrintsEach C_WRITER C_READER REGISTERED C_BOUNDS between after

-- the pair that an input is cut into
abbrev pub call_in : List ℕ → Call
call_in bs = let c = cut_of bs in call_of (take c.writer bs) (slice_range bs c.writer c.reader) c.bound c.rule

-- with no input the worked pairs, and else the pair in the first 1,024 bytes
abbrev pub PrintsInput : List ℕ → Option (List ℕ) → Option (List ℕ) → Type 0
PrintsInput [] before after = PrintsWorked before after
PrintsInput (b ∷ bs) before after = Prints (call_in (take 1024 (b ∷ bs))) before after
