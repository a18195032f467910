-- Document 01's table of refusals from 9 on, and request a's 17, as far as calls share them: each line by its number, its side and row (0 unless said)
-- and when it applies.
-- "The lowest number that applies is given, except that the writer's 1 to 8 come before the reader's"; 17 stands
-- "directly after 9" (request a).
-- Assumes nothing.
use Rattle.std.specs.Prelude.{ℕ, Bool, not, ◌&&◌, List, [], ◌∷◌, ◌++◌, length, ltb, leb, None, Some}
use Rattle.lists.specs.Search.{some}
use Rattle.format.specs.declared.Side.TheVariants.{Writer, Reader}
use Rattle.format.specs.declared.Table.{Table}
use Rattle.format.specs.Verdicts.{Check, CheckOf, when}
use Rattle.format.specs.Format.{byte}
use Rattle.format.specs.Reads.{checks}
use Rattle.rules.specs.declared.Conf.{Conf}
use Rattle.rules.specs.declared.Pair.{Pair}
use Rattle.calls.specs.Call.{Call}
use Rattle.format.specs.declared.Fault.TheVariants.{BoundTooLarge, NoRoom, KeptByte, NoConfiguration, NoLetter, UnknownRule}

-- B above 15
abbrev pub bound_check : ℕ → Check
bound_check bound = when BoundTooLarge None 0 (ltb 15 bound)

-- rule above 1
abbrev pub rule_check : ℕ → Check
rule_check rule = when UnknownRule None 0 (ltb 1 rule)

-- begin: the writer's 1 to 8, the reader's 1 to 8, then 9
abbrev pub begin_checks : Call → List Check
begin_checks k = checks k.writer Writer ++ (checks k.reader Reader ++ (bound_check k.bound ∷ []))

-- every other call: "17, rule above 1, directly after 9"
abbrev pub enter_checks : Call → List Check
enter_checks k = begin_checks k ++ (rule_check k.rule ∷ [])

-- lent buffer under N bytes, where n is N
abbrev pub room_check : ℕ → List ℕ → Check
room_check n bytes = when NoRoom None 0 (ltb (length bytes) n)

-- one of the first N bytes is neither 0 nor 1
abbrev pub is_other : List ℕ → ℕ → Bool
is_other bytes p = ltb 1 (byte bytes p)

abbrev pub bytes_check : ℕ → List ℕ → Check
bytes_check n bytes = when KeptByte None 0 (some (is_other bytes) 0 n)

-- kept bytes that are lent (ask, why, step): 10, 12
abbrev pub lent_checks : ℕ → List ℕ → List Check
lent_checks n bytes = room_check n bytes ∷ bytes_check n bytes ∷ []

-- configuration out of range
abbrev pub in_range : Pair → Conf → Bool
in_range X c = ltb c.writer X.writer.states && (ltb c.reader X.reader.states && leb c.level X.bound)

abbrev pub conf_check : Pair → Conf → Check
conf_check X c = when NoConfiguration None 0 (not (in_range X c))

-- letter not below d (why, step): "In 14 and 16 the writer comes first"
abbrev pub letter_check : {S : Type 0} → Table → S → ℕ → CheckOf S
letter_check t side letter = when NoLetter (Some side) 0 (leb t.letters letter)

abbrev pub letter_checks : Pair → ℕ → ℕ → List Check
letter_checks X x y = letter_check X.writer Writer x ∷ letter_check X.reader Reader y ∷ []
