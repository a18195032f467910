-- Document 01, ask: "the allowed moves at a configuration as a 64-bit set, bit 8x + y, with their count and the lowest set bit's number (64 if
-- none); over the 0/1 bytes the caller lends, built by us or not. A refusal returns set 0, count 0, lowest 64."
-- `allowed_test` is the test of a move that computes; that it says `AllowedIn` is proved: ask_bit in proofs/AskSays.antt.
-- Assumes nothing.
use Rattle.std.specs.Prelude.{ℕ, ◌/◌, ◌%◌, Bool, List, [], ◌∷◌, ◌++◌, Err}
use Rattle.std.specs.Int.Count.{ones, count_trailing_zeros}
use Rattle.lists.specs.Bits.{number}
use Rattle.format.specs.Verdicts.{Refusal, Fine, Check, verdict_of, given}
use Rattle.rules.specs.declared.Conf.{Conf}
use Rattle.rules.specs.declared.Pair.{Pair}
use Rattle.rules.specs.Configurations.{size}
use Rattle.rules.specs.Tools.Computed.{allowed_test}
use Rattle.calls.specs.declared.Asked.{Asked}
use Rattle.calls.specs.Call.{Call, pair_of}
use Rattle.calls.specs.Refusals.{enter_checks, lent_checks, conf_check}

-- the move 8x + y is allowed at c in the set that the bytes keep
abbrev pub is_allowed : Pair → List ℕ → Conf → ℕ → Bool
is_allowed X bytes c m = allowed_test X bytes c (m / 8) (m % 8)

-- the set: its binary bit m is 1 exactly if the move m is allowed
unfoldable pub move_set : Pair → List ℕ → Conf → ℕ
unfolding number allowed_test
move_set X bytes c = number (is_allowed X bytes c) 64

-- a set with its count and its lowest set bit
abbrev pub answered : ℕ → Asked
answered set = record { verdict = Fine; set = set; count = ones set; lowest = count_trailing_zeros 64 set }

abbrev pub unanswered : Refusal → Asked
unanswered refusal = record { verdict = Err refusal; set = 0; count = 0; lowest = 64 }

-- past 9 and 17: 10, 12, 13
abbrev pub asks_checks : Pair → List ℕ → Conf → List Check
asks_checks X bytes c = lent_checks (size X) bytes ++ (conf_check X c ∷ [])

abbrev pub ask_checks : Call → List ℕ → Conf → List Check
ask_checks k bytes c = enter_checks k ++ asks_checks (pair_of k) bytes c

unfoldable pub ask_of : Call → List ℕ → Conf → Asked
unfolding move_set
ask_of k bytes c = given (verdict_of (ask_checks k bytes c)) unanswered (answered (move_set (pair_of k) bytes c))
