-- Document 01, "A protocol table, in bytes": what stands where, and the table in hand.
-- Assumes nothing: past the end of the bytes stands 0.
use Rattle.std.specs.Prelude.{ℕ, ◌+◌, ◌-◌, ◌*◌, Bool, List, ◌++◌, get_or, replicate, eqb}
use Rattle.lists.specs.Lists.{tab_from, tab}
use Rattle.format.specs.declared.Row.{Row}
use Rattle.format.specs.declared.Table.{Table}

-- ---- what a version fixes

-- the versions that are read
abbrev pub known : ℕ → Bool
known version = eqb version 1

-- the bytes of a row
abbrev pub row_size : ℕ → ℕ
row_size version = 5

-- the most items that a row moves
abbrev pub most_items : ℕ → ℕ
most_items version = 1

-- ---- the byte table

abbrev pub byte : List ℕ → ℕ → ℕ
byte bs i = get_or bs i 0

-- byte 0
abbrev pub version_in : List ℕ → ℕ
version_in bs = byte bs 0

-- bytes 1-2, big-endian: the count of the bytes after byte 2
abbrev pub length_in : List ℕ → ℕ
length_in bs = 256 * byte bs 1 + byte bs 2

-- byte 3: 1 writing side, 2 reading side
abbrev pub role_in : List ℕ → ℕ
role_in bs = byte bs 3

-- byte 4: states n
abbrev pub states_in : List ℕ → ℕ
states_in bs = byte bs 4

-- bytes 5 and 6
abbrev pub start_in : List ℕ → ℕ
start_in bs = byte bs 5

abbrev pub finish_in : List ℕ → ℕ
finish_in bs = byte bs 6

-- byte 7: drive letters d
abbrev pub letters_in : List ℕ → ℕ
letters_in bs = byte bs 7

-- byte 8: the count of rows
abbrev pub rows_in : List ℕ → ℕ
rows_in bs = byte bs 8

-- the first byte of row i
abbrev pub row_byte : List ℕ → ℕ → ℕ
row_byte bs i = 9 + row_size (version_in bs) * i

-- row i: state, drive, answer, item, next state
abbrev pub row_at : List ℕ → ℕ → Row
row_at bs i =
    record {
      state = byte bs (row_byte bs i);
      drive = byte bs (row_byte bs i + 1);
      answer = byte bs (row_byte bs i + 2);
      item = byte bs (row_byte bs i + 3);
      next = byte bs (row_byte bs i + 4);
    }

-- ---- the table in hand

abbrev pub zero_row : Row
zero_row = record { state = 0; drive = 0; answer = 0; item = 0; next = 0 }

unfoldable pub no_rows : List Row
no_rows = replicate 64 zero_row

-- the rows of the bytes, and unused rows zero, 64 in all
unfoldable pub rows_of : List ℕ → List Row
unfolding tab_from
rows_of bs = tab (row_at bs) (rows_in bs) ++ replicate (64 - rows_in bs) zero_row

abbrev pub table_of : List ℕ → Table
table_of bs =
    record {
      version = version_in bs;
      role = role_in bs;
      states = states_in bs;
      start = start_in bs;
      finish = finish_in bs;
      letters = letters_in bs;
      count = rows_in bs;
      rows = rows_of bs;
    }

abbrev pub zero_table : Table
zero_table =
    record {
      version = 0;
      role = 0;
      states = 0;
      start = 0;
      finish = 0;
      letters = 0;
      count = 0;
      rows = no_rows;
    }
