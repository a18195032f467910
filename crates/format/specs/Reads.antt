-- Document 01, the table of refusals, 1 to 8, and what reading gives. Assumes nothing.
use Rattle.std.specs.Prelude.{ℕ, ◌+◌, ◌-◌, ◌*◌, Bool, cond, not, ◌&&◌, ◌||◌, List, [], ◌∷◌, ◌++◌, length, ltb, leb, eqb, Some, Err}
use Rattle.lists.specs.Search.{seek, first, some}
use Rattle.format.specs.Verdicts.{side_number, Refusal, Fine, Check, CheckOf, when, verdict_of, given}
use Rattle.format.specs.Format.{known, row_size, most_items, version_in, length_in, role_in, states_in, start_in, finish_in, letters_in, rows_in}
use Rattle.format.specs.Format.{row_at, no_rows, rows_of, table_of, zero_table}
use Rattle.format.specs.declared.Row.{Row}
use Rattle.format.specs.declared.Side.{Side}
use Rattle.format.specs.declared.Reading.{Reading}
use Rattle.format.specs.declared.Fault.TheVariants.{Short, UnknownVersion, UntrueLength, WrongRole, OutOfRange, NoSuchEnd, BadField, NotRising}

abbrev pub not_in : ℕ → ℕ → ℕ → Bool
not_in low high x = ltb x low || ltb high x

-- ---- rows

-- state and next are below n, drive below d, answer below 16, item at most m
unfoldable pub row_fits : ℕ → ℕ → ℕ → Row → Bool
row_fits n d m r =
    ltb r.state n && (ltb r.drive d && (ltb r.answer 16 && (leb r.item m && ltb r.next n)))

-- the row b rises above the row a: by state, then drive, then answer
unfoldable pub rises : Row → Row → Bool
rises a b =
    cond (eqb a.state b.state)
    (cond (eqb a.drive b.drive) (ltb a.answer b.answer) (ltb a.drive b.drive))
    (ltb a.state b.state)

-- row i has a field out of range
unfoldable pub bad_row : List ℕ → ℕ → Bool
unfolding row_fits
bad_row bs i = not (row_fits (states_in bs) (letters_in bs) (most_items (version_in bs)) (row_at bs i))

-- row i is the later row of a pair that does not rise
unfoldable pub fall_row : List ℕ → ℕ → Bool
unfolding rises
fall_row bs i = ltb 0 i && not (rises (row_at bs (i - 1)) (row_at bs i))

-- ---- the table of refusals, for a table of a side: s is its role byte, and `side` is what it is called in a refusal

-- length field not (bytes - 3), or not 6 + 5 × rows
unfoldable pub length_wrong : List ℕ → Bool
length_wrong bs =
    not (eqb (length_in bs) (length bs - 3)) || not (eqb (length_in bs) (6 + row_size (version_in bs) * rows_in bs))

-- states, letters or rows outside their range: 1 to 16, 1 to 8, 0 to 64
unfoldable pub range_wrong : List ℕ → Bool
range_wrong bs = not_in 1 16 (states_in bs) || (not_in 1 8 (letters_in bs) || not_in 0 64 (rows_in bs))

-- start or finish not below n
unfoldable pub end_wrong : List ℕ → Bool
end_wrong bs = leb (states_in bs) (start_in bs) || leb (states_in bs) (finish_in bs)

unfoldable pub header_checks : {S : Type 0} → List ℕ → ℕ → S → List (CheckOf S)
unfolding length_wrong range_wrong end_wrong
header_checks bs s side =
    when Short (Some side) 0 (ltb (length bs) 9)
    ∷ when UnknownVersion (Some side) 0 (not (known (version_in bs)))
    ∷ when UntrueLength (Some side) 0 (length_wrong bs)
    ∷ when WrongRole (Some side) 0 (not (eqb (role_in bs) s))
    ∷ when OutOfRange (Some side) 0 (range_wrong bs)
    ∷ when NoSuchEnd (Some side) 0 (end_wrong bs)
    ∷ []

-- a row field out of range: the first such row
abbrev pub field_check : {S : Type 0} → List ℕ → S → CheckOf S
field_check bs side = when BadField (Some side) (first (bad_row bs) (rows_in bs)) (some (bad_row bs) 0 (rows_in bs))

-- rows do not rise: the later row of the first bad pair
abbrev pub order_check : {S : Type 0} → List ℕ → S → CheckOf S
order_check bs side = when NotRising (Some side) (first (fall_row bs) (rows_in bs)) (some (fall_row bs) 0 (rows_in bs))

-- 7 is tried over a whole table before 8
unfoldable pub row_checks : {S : Type 0} → List ℕ → S → List (CheckOf S)
unfolding seek bad_row fall_row
row_checks bs side = field_check bs side ∷ order_check bs side ∷ []

abbrev pub checks_of : {S : Type 0} → List ℕ → ℕ → S → List (CheckOf S)
checks_of bs s side = header_checks bs s side ++ row_checks bs side

abbrev pub checks : List ℕ → Side → List Check
checks bs side = checks_of bs (side_number side) side

-- ---- reading

-- all zero beside number, side and row
abbrev pub refused_as : Refusal → Reading
refused_as r = record { table = zero_table; verdict = Err r }

-- the table of the bytes
abbrev pub read_as : List ℕ → Reading
read_as bs = record { table = table_of bs; verdict = Fine }

unfoldable pub read_of : List ℕ → Side → Reading
unfolding header_checks row_checks rows_of no_rows
read_of bs side = given (verdict_of (checks bs side)) refused_as (read_as bs)
