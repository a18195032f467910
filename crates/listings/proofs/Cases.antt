-- The listings of document 01's worked pairs, registered, computed from the definitions: pair A at bound 1 whole, as the document prints it but for
-- the rule at the end of its first line, and a refusal. Assumes nothing.
use Prim.Native.Nat.{ℕ}
use mathlib.Core.Path.{◌≡◌, refl}
use mathlib.Core.List.{List, [], ◌∷◌, ◌++◌}
use Rattle.format.specs.Verdicts.{Fine, Refused}
use Rattle.format.specs.Reads.{read_of}
use Rattle.calls.specs.declared.Built.{Built}
use Rattle.calls.specs.Call.{Call, call_of}
use Rattle.texts.specs.Text.{ascii, first_line, conf_line, refusal_line}
use Rattle.listings.specs.Pages.{head_text, place_text}
use Rattle.std.specs.Prelude.{None}
use Rattle.format.specs.declared.Fault.TheVariants.{StartDropped}

abbrev A : ℕ → ℕ → Call
A bound rule =
    call_of
    (1 ∷ 0 ∷ 21 ∷ 1 ∷ 2 ∷ 0 ∷ 1 ∷ 2 ∷ 3 ∷ 0 ∷ 0 ∷ 0 ∷ 0 ∷ 0 ∷ 0 ∷ 1 ∷ 1 ∷ 1 ∷ 1 ∷ 1 ∷ 0 ∷ 0 ∷ 0 ∷ 1 ∷ [])
    (1 ∷ 0 ∷ 21 ∷ 2 ∷ 2 ∷ 0 ∷ 1 ∷ 2 ∷ 3 ∷ 0 ∷ 0 ∷ 0 ∷ 0 ∷ 0 ∷ 0 ∷ 1 ∷ 1 ∷ 1 ∷ 1 ∷ 1 ∷ 0 ∷ 0 ∷ 0 ∷ 1 ∷ [])
    bound
    rule

-- what build answers and leaves: case 2
abbrev built : Built
built = record { verdict = Fine; kept = 3; rounds = 2 }

abbrev bytes : List ℕ
bytes = 1 ∷ 0 ∷ 0 ∷ 0 ∷ 0 ∷ 1 ∷ 1 ∷ 0 ∷ []

abbrev places : ℕ → List ℕ
places p = place_text (A 1 0) bytes p

-- "Bound 1 prints, whole"
pub pair_A :
    head_text (A 1 0) built ++ places 0 ++ places 1 ++ places 2 ++ places 3 ++ places 4 ++ places 5 ++ places 6 ++ places 7
    ≡ ascii "converter kept=3 of=8 rounds=2 bound=1 rule=0\n0 0 0 moves 0.0 1.0\n1 0 1 moves 0.0 0.1\n1 1 0 moves 0.0\n"
unfolding read_of first_line conf_line place_text
pair_A = refl

-- "A refusal prints `refused 11 side 0 row 0` with its numbers": case 1
pub pair_A_refused : head_text (A 0 0) (record { verdict = Refused StartDropped None 0; kept = 0; rounds = 2 }) ≡ ascii "refused 11 side 0 row 0\n"
unfolding refusal_line
pair_A_refused = refl
