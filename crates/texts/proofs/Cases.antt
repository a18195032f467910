-- Document 01's listing of pair A at bound 1 and rule 0, a line without moves, a refusal, a long number and cuts, computed
-- from the definitions. Assumes nothing.
use Prim.Native.Nat.{ℕ}
use mathlib.Core.Path.{◌≡◌, refl}
use mathlib.Core.List.{List, [], ◌∷◌, ◌++◌}
use Rattle.texts.specs.Text.{ascii, decimal, first_line, conf_line, refusal_line}
use Rattle.texts.specs.Cut.{cut_of}

-- a text is its bytes
pub bytes_of : ascii " of=\n" ≡ 32 ∷ 111 ∷ 102 ∷ 61 ∷ 10 ∷ []
bytes_of = refl

-- "Bound 1 prints, whole", with request a's rule: the sets are those of case 8
pub pair_A :
    first_line 3 8 2 1 0 ++ conf_line 0 0 0 257 ++ conf_line 1 0 1 3 ++ conf_line 1 1 0 1
    ≡ ascii "converter kept=3 of=8 rounds=2 bound=1 rule=0\n0 0 0 moves 0.0 1.0\n1 0 1 moves 0.0 0.1\n1 1 0 moves 0.0\n"
unfolding first_line conf_line
pair_A = refl

-- "With no moves the line ends after `moves`"
pub without_moves : conf_line 1 0 0 0 ≡ ascii "1 0 0 moves\n"
unfolding conf_line
without_moves = refl

pub refusal_11 : refusal_line 11 0 0 ≡ ascii "refused 11 side 0 row 0\n"
unfolding refusal_line
refusal_11 = refl

-- the most configurations
pub most : decimal 4096 ≡ ascii "4096"
unfolding decimal
most = refl

-- ---- the cut

-- a writer's table of four bytes and a reader's of three
abbrev tables : List ℕ
tables = 1 ∷ 0 ∷ 1 ∷ 7 ∷ 1 ∷ 0 ∷ 0 ∷ []

pub no_bound : cut_of tables ≡ record { writer = 4; reader = 7; bound = 0; rule = 1 }
unfolding cut_of
no_bound = refl

pub no_rule : cut_of (tables ++ (5 ∷ [])) ≡ record { writer = 4; reader = 7; bound = 5; rule = 1 }
unfolding cut_of
no_rule = refl

pub bound_and_rule : cut_of (tables ++ (5 ∷ 0 ∷ [])) ≡ record { writer = 4; reader = 7; bound = 5; rule = 0 }
unfolding cut_of
bound_and_rule = refl

pub later_bytes : cut_of (tables ++ (5 ∷ 0 ∷ 8 ∷ 9 ∷ [])) ≡ record { writer = 4; reader = 7; bound = 5; rule = 0 }
unfolding cut_of
later_bytes = refl

-- the reader's length field says 9 and three bytes follow
pub short_reader : cut_of (1 ∷ 0 ∷ 0 ∷ 1 ∷ 0 ∷ 9 ∷ 5 ∷ 0 ∷ 0 ∷ []) ≡ record { writer = 3; reader = 9; bound = 0; rule = 1 }
unfolding cut_of
short_reader = refl

-- a single byte after the writer's table is the reader's
pub one_byte_more : cut_of (9 ∷ 0 ∷ 1 ∷ 7 ∷ 5 ∷ []) ≡ record { writer = 4; reader = 5; bound = 0; rule = 1 }
unfolding cut_of
one_byte_more = refl

-- nothing after the writer's table: the reader's is empty
pub no_reader : cut_of (9 ∷ 0 ∷ 1 ∷ 7 ∷ []) ≡ record { writer = 4; reader = 4; bound = 0; rule = 1 }
unfolding cut_of
no_reader = refl
