-- Request c, a permission list in bytes: "version byte 1, 16-bit count of bytes after byte 2, then for each of the N configurations eight bytes,
-- big-endian, the set of moves it permits". Version and count stand where those of a table stand.
-- Assumes nothing: past the end of the bytes stands 0.
use Rattle.std.specs.Prelude.{ℕ, zero, suc, ◌+◌, ◌*◌, ◌<◌, Bool, not, ◌||◌, List, length, T, eqb, ltb, None}
use Rattle.lists.specs.Masks.{has_bit}
use Rattle.format.specs.Format.{byte, version_in, length_in}
use Rattle.format.specs.Verdicts.{Check, when}
use Rattle.rules.specs.declared.Conf.{Conf}
use Rattle.rules.specs.declared.Pair.{Pair}
use Rattle.rules.specs.Configurations.{place, move_of}
use Rattle.format.specs.declared.Fault.TheVariants.{UntrueList}

-- the number that n bytes write from `at` on, big-endian
abbrev pub big_endian : List ℕ → ℕ → ℕ → ℕ
big_endian bs at zero = 0
big_endian bs at (suc n) = 256 * big_endian bs at n + byte bs (at + n)

-- the set of moves that the list permits at the place p: bit 8x + y, as in ask
unfoldable pub set_at : List ℕ → ℕ → ℕ
set_at list p = big_endian list (3 + 8 * p) 8

-- the list permits the move x.y at c
pub record Permits (X : Pair) (list : List ℕ) (c : Conf) (x y : ℕ) : Type 0 where
  pub writer_letter : x < 8
  pub reader_letter : y < 8
  pub in_set : T (has_bit (set_at list (place X c)) (move_of x y))

-- "list's version not 1, list shorter than three bytes, or its length not true or not 8 × N", where n is N
abbrev pub list_wrong : ℕ → List ℕ → Bool
list_wrong n list =
    not (eqb (version_in list) 1)
    || (ltb (length list) 3
    || (not (eqb (length_in list + 3) (length list))
    || not (eqb (length_in list) (8 * n))))

abbrev pub list_check : ℕ → List ℕ → Check
list_check n list = when UntrueList None 0 (list_wrong n list)
