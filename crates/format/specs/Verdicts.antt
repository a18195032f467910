-- The numbers that document 01 gives to a side and to a refusal, and how a list of checks becomes a verdict.
-- Assumes nothing.
use Rattle.std.specs.Prelude.{ℕ, Bool, cond, List, [], ◌∷◌, Option, None, Some, Result, Ok, Err}
use Rattle.format.specs.declared.Side.{Side}
use Rattle.format.specs.declared.Side.TheVariants.{Writer, Reader}
use Rattle.format.specs.declared.Fault.{Fault}
use Rattle.format.specs.declared.Fault.TheVariants.{Short, UnknownVersion, UntrueLength, WrongRole, OutOfRange, NoSuchEnd, BadField, NotRising, BoundTooLarge, NoRoom}
use Rattle.format.specs.declared.Fault.TheVariants.{StartDropped, KeptByte, NoConfiguration, NoLetter, NotAllowed, NoRow, UnknownRule, UntrueList, BadMovePermitted, NoWayToFinish}
use Rattle.format.specs.declared.RefusalOf.{RefusalOf}

-- side 1 writes, 2 reads
abbrev pub side_number : Side → ℕ
side_number Writer = 1
side_number Reader = 2

-- the table of refusals: 1 to 16 of document 01, 17 of request a, 18 to 20 of request c
abbrev pub fault_number : Fault → ℕ
fault_number Short = 1
fault_number UnknownVersion = 2
fault_number UntrueLength = 3
fault_number WrongRole = 4
fault_number OutOfRange = 5
fault_number NoSuchEnd = 6
fault_number BadField = 7
fault_number NotRising = 8
fault_number BoundTooLarge = 9
fault_number NoRoom = 10
fault_number StartDropped = 11
fault_number KeptByte = 12
fault_number NoConfiguration = 13
fault_number NoLetter = 14
fault_number NotAllowed = 15
fault_number NoRow = 16
fault_number UnknownRule = 17
fault_number UntrueList = 18
fault_number BadMovePermitted = 19
fault_number NoWayToFinish = 20

-- fine, or refused with number, side and row. S is what names a side: a `Side` in every call, and in the tests of a table whatever their caller has
abbrev pub VerdictOf : Type 0 → Type 0
VerdictOf S = Result (Unit {0}) (RefusalOf S)

abbrev pub Refusal : Type 0
Refusal = RefusalOf Side

abbrev pub Verdict : Type 0
Verdict = VerdictOf Side

abbrev pub Fine : {S : Type 0} → VerdictOf S
Fine = Ok tt

abbrev pub refusal : {S : Type 0} → Fault → Option S → ℕ → RefusalOf S
refusal fault side row = record { fault = fault; side = side; row = row }

abbrev pub Refused : {S : Type 0} → Fault → Option S → ℕ → VerdictOf S
Refused fault side row = Err (refusal fault side row)

-- of no side and no row
abbrev pub unsided : Fault → Refusal
unsided fault = refusal fault None 0

-- number, side and row of a verdict: 0, 0, 0 where it is done, and side 0 where the refusal names none
abbrev pub number_of : Verdict → ℕ
number_of (Ok _) = 0
number_of (Err r) = fault_number r.fault

abbrev pub named : {S : Type 0} → (S → ℕ) → Option S → ℕ
named number None = 0
named number (Some side) = number side

abbrev pub named_side : Option Side → ℕ
named_side side = named side_number side

abbrev pub side_of : Verdict → ℕ
side_of (Ok _) = 0
side_of (Err r) = named_side r.side

abbrev pub row_of : Verdict → ℕ
row_of (Ok _) = 0
row_of (Err r) = r.row

-- a line of the table of refusals: its refusal, and when it applies
pub record CheckOf (S : Type 0) : Type 0 where
  pub refuses : RefusalOf S
  pub applies : Bool

abbrev pub Check : Type 0
Check = CheckOf Side

abbrev pub when : {S : Type 0} → Fault → Option S → ℕ → Bool → CheckOf S
when fault side row applies = record { refuses = refusal fault side row; applies = applies }

-- the lowest number that applies is given: the lines stand in their order, and the first that applies refuses
abbrev pub verdict_of : {S : Type 0} → List (CheckOf S) → VerdictOf S
verdict_of [] = Fine
verdict_of (c ∷ cs) = cond c.applies (Err c.refuses) (verdict_of cs)

-- the second verdict where the first is fine
abbrev pub and_then : {S : Type 0} → VerdictOf S → VerdictOf S → VerdictOf S
and_then (Ok _) v = v
and_then (Err r) v = Err r

-- what a call gives: what it does where its checks are silent, else what its refusal returns
abbrev pub given {ℓ} : {A : Type ℓ} → Verdict → (Refusal → A) → A → A
given (Ok _) refuse done = done
given (Err r) refuse done = refuse r

-- what a call gives that either has this to give or hands the refusal on
abbrev pub unless : {A : Type 0} → Verdict → A → Result A Refusal
unless (Ok _) done = Ok done
unless (Err r) done = Err r
