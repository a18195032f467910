-- Document 01, "The listing", as request a amends it: the text of its lines, as bytes in ASCII. The numbers are any
-- numbers. Assumes nothing.
use Rattle.std.specs.Prelude.{ℕ, zero, suc, ◌+◌, ◌-◌, ◌*◌, ◌/◌, ◌%◌, ◌^◌, ◌<◌, ◌≡◌, Bool, cond, ◌&&◌, List, [], ◌∷◌, ◌++◌, length, get_or, T, ltb, leb, eqb}
use Prim.Native.Char.{code}
use Prim.Native.String.{String, [] as no_letter, ◌∷◌ as ◌and◌}
use Rattle.lists.specs.Lists.{all}

-- the bytes of a word
abbrev pub ascii : String → List ℕ
ascii no_letter = []
ascii (c and s) = code c ∷ ascii s

-- ---- a number in decimal

-- the byte of a digit, `0` to `9`
abbrev pub digit : ℕ → ℕ
digit d = 48 + d

-- the digits of n, of which k are enough, the most significant first: a number below ten is its own digit,
-- and any other has the digits of n / 10 and then n % 10
unfoldable pub digits_in : ℕ → ℕ → List ℕ
digits_in zero n = []
digits_in (suc k) n = cond (ltb n 10) (digit n ∷ []) (digits_in k (n / 10) ++ (digit (n % 10) ∷ []))

-- n + 1 are enough
unfoldable pub decimal : ℕ → List ℕ
unfolding digits_in
decimal n = digits_in (suc n) n

-- the number that digits give, behind those that gave v
abbrev pub value_of : List ℕ → ℕ → ℕ
value_of [] v = v
value_of (d ∷ ds) v = value_of ds (10 * v + (d - 48))

abbrev pub is_digit : ℕ → Bool
is_digit d = leb 48 d && leb d 57

-- l is n in decimal: digits that give n, and the first of several is not 0. `decimal n` is such a list, and the only one
-- (`decimal_is` and `decimal_only`, proofs/Decimal.antt)
pub record InDecimal (n : ℕ) (l : List ℕ) : Type 0 where
  pub value : value_of l 0 ≡ n
  pub digits : T (all is_digit l)
  pub some : 0 < length l
  pub lead : 1 < length l → 48 < get_or l 0 0

-- ---- the moves of a set

-- bit m of the set
abbrev pub has_bit : ℕ → ℕ → Bool
has_bit set m = eqb (set / 2 ^ m % 2) 1

-- the move of bit m = 8x + y: ` x.y`
abbrev pub move_text : ℕ → List ℕ
move_text m = 32 ∷ digit (m / 8) ∷ 46 ∷ digit (m % 8) ∷ []

-- the move of bit m if the set has it, and else nothing
unfoldable pub bit_text : ℕ → ℕ → List ℕ
bit_text set m = cond (has_bit set m) (move_text m) []

-- the moves of the bits below m, in order of bit
unfoldable pub moves_below : ℕ → ℕ → List ℕ
unfolding bit_text
moves_below set zero = []
moves_below set (suc m) = moves_below set m ++ bit_text set m

-- ---- the three lines

-- a word and a number behind it
abbrev pub field : String → ℕ → List ℕ
field word n = ascii word ++ decimal n

abbrev pub line_end : List ℕ
line_end = ascii "\n"

-- `converter kept=3 of=8 rounds=2 bound=1 rule=0`
unfoldable pub first_line : ℕ → ℕ → ℕ → ℕ → ℕ → List ℕ
unfolding decimal
first_line kept n rounds bound rule =
    field "converter kept=" kept ++ field " of=" n ++ field " rounds=" rounds ++ field " bound=" bound ++ field " rule=" rule ++ line_end

-- `1 0 1 moves 0.0 0.1`: writer state, reader state, level, and the moves of the 64 bits of the set
unfoldable pub conf_line : ℕ → ℕ → ℕ → ℕ → List ℕ
unfolding decimal moves_below
conf_line writer reader level set =
    decimal writer ++ field " " reader ++ field " " level ++ ascii " moves" ++ moves_below set 64 ++ line_end

-- `refused 11 side 0 row 0`
unfoldable pub refusal_line : ℕ → ℕ → ℕ → List ℕ
unfolding decimal
refusal_line number side row = field "refused " number ++ field " side " side ++ field " row " row ++ line_end
