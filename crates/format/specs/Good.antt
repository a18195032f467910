-- What the layers above know of a table in hand: document 01's ranges, rows that rise, unused rows zero.
-- Assumes nothing. (That a fine reading's table is so is proved: proofs/Good.antt.)
use Rattle.std.specs.Prelude.{ℕ, ◌+◌, ◌≤◌, ◌<◌, ◌≡◌, true, T, length, get_or}
use Rattle.format.specs.Format.{known, most_items, zero_row}
use Rattle.format.specs.Reads.{rises}
use Rattle.format.specs.declared.Row.{Row}
use Rattle.format.specs.declared.Table.{Table}

-- row i of a table in hand
abbrev pub row : Table → ℕ → Row
row t i = get_or t.rows i zero_row

pub record GoodRow (t : Table) (r : Row) : Type 0 where
  pub state : r.state < t.states
  pub drive : r.drive < t.letters
  pub answer : r.answer < 16
  pub item : r.item ≤ most_items t.version
  pub next : r.next < t.states

pub record Good (t : Table) : Type 0 where
  pub version : T (known t.version)
  pub role : (1 ≤ t.role) × (t.role ≤ 2)
  pub states : (1 ≤ t.states) × (t.states ≤ 16)
  pub start : t.start < t.states
  pub finish : t.finish < t.states
  pub letters : (1 ≤ t.letters) × (t.letters ≤ 8)
  pub count : t.count ≤ 64
  pub long : length t.rows ≡ 64
  pub used : (i : ℕ) → i < t.count → GoodRow t (row t i)
  pub rise : (i : ℕ) → i + 1 < t.count → rises (row t i) (row t (i + 1)) ≡ true
  pub unused : (i : ℕ) → t.count ≤ i → row t i ≡ zero_row
