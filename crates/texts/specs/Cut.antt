-- Document 01, "The listing", as request a amends it: how the program's input is cut into writer table, reader table, bound
-- and rule. Assumes nothing.
use Rattle.std.specs.Prelude.{ℕ, ◌+◌, ◌*◌, ◌≤◌, min, ◌≡◌, cond, List, [], ◌∷◌, length, get_or, drop, ltb}
use Rattle.texts.specs.declared.Cut.{Cut}

-- bytes 1 and 2, big-endian, whatever byte 0 says
abbrev pub length_field : List ℕ → ℕ
length_field bs = 256 * get_or bs 1 0 + get_or bs 2 0

-- a table that starts with bs gets 3 + its length field bytes, or all there are if fewer or if no length field is there
unfoldable pub table_bytes : List ℕ → ℕ
table_bytes bs = cond (ltb (length bs) 3) (length bs) (min (3 + length_field bs) (length bs))

-- where the writer's table ends, and the reader's, which follows it and is cut like it; then a bound and a rule byte, 0 and 1
-- if missing; later bytes are ignored
unfoldable pub cut_of : List ℕ → Cut
unfolding table_bytes
cut_of bs =
    let writer = table_bytes bs in
    let reader = writer + table_bytes (drop writer bs) in
    let rest = drop reader bs in
    record { writer = writer; reader = reader; bound = get_or rest 0 0; rule = get_or rest 1 1 }

-- behind the tables stands nothing, or a bound, or a bound, a rule and any bytes
abbrev pub Behind : List ℕ → ℕ → ℕ → Type 0
Behind [] bound rule = (bound ≡ 0) × (rule ≡ 1)
Behind (b ∷ []) bound rule = (bound ≡ b) × (rule ≡ 1)
Behind (b ∷ r ∷ later) bound rule = (bound ≡ b) × (rule ≡ r)

-- what the cut keeps; `in_order` (proofs/Cuts.antt) says so of `cut_of bs`
pub record InOrder (bs : List ℕ) (c : Cut) : Type 0 where
  pub low : c.writer ≤ c.reader
  pub high : c.reader ≤ length bs
  pub behind : Behind (drop c.reader bs) c.bound c.rule
