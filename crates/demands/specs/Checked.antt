-- Request c, "Check a bridge we did not build", over what the call check takes and returns: k is what a call takes, `list` the permission list. Whether it
-- accepts, and which place it names, is given as a caller reads it: off the verdict (`of_verdict`), or, as the generator does, off the packed number
-- (`of_number`).
-- Assumes nothing. That every result of check that satisfies its contract is so is proved: proofs/Checked.antt.
use Rattle.std.specs.Prelude.{ℕ, ◌/◌, ◌%◌, ◌^◌, ◌≡◌, ◌↔◌, ◌⊎◌, List, None}
use Rattle.format.specs.Verdicts.{Verdict, Fine, Refused, verdict_of}
use Rattle.rules.specs.declared.Conf.{Conf}
use Rattle.rules.specs.declared.Pair.{Pair}
use Rattle.rules.specs.Configurations.{place}
use Rattle.rules.specs.Ways.{Moves}
use Rattle.rules.specs.Bridges.{OtherBridge, deciding}
use Rattle.rules.specs.Permissions.{Reached, HasWay, PermitsBad, Faulty, LowestFaulty}
use Rattle.calls.specs.Call.{Call, pair_of}
use Rattle.calls.specs.declared.Built.{Built}
use Rattle.calls.specs.Build.{BuildSays}
use Rattle.calls.specs.Lists.{Permits}
use Rattle.calls.specs.Check.{check_checks}
use Rattle.demands.specs.Demands.{asks_bit}
use Rattle.format.specs.declared.Fault.TheVariants.{StartDropped, BadMovePermitted, NoWayToFinish}

-- what a caller reads of a check: that it accepts, that it names a bad move at a place, that it names a place with no way to finish
pub record ReadCheck : Type 1 where
  pub Accepts : Type 0
  pub BadMoveAt : ℕ → Type 0
  pub NoWayAt : ℕ → Type 0

abbrev pub of_verdict : Verdict → ReadCheck
of_verdict v = record { Accepts = v ≡ Fine; BadMoveAt = λ p. v ≡ Refused BadMovePermitted None p; NoWayAt = λ p. v ≡ Refused NoWayToFinish None p }

-- its lowest 8 bits are the number, 16 bits from 2^16 on the place
abbrev pub of_number : ℕ → ReadCheck
of_number z =
    record {
      Accepts = z % 2 ^ 8 ≡ 0;
      BadMoveAt = λ p. (z % 2 ^ 8 ≡ 19) × (z / 2 ^ 16 % 2 ^ 16 ≡ p);
      NoWayAt = λ p. (z % 2 ^ 8 ≡ 20) × (z / 2 ^ 16 % 2 ^ 16 ≡ p);
    }

module _ (k : Call) (list : List ℕ) where
  abbrev X : Pair
  X = pair_of k

  -- what the list permits
  abbrev pub Its : Moves
  Its = Permits X list

  -- the list is a bridge in the sense of demand 3: after a record it permits what stands in it where the record leads
  abbrev pub IsBridge : Type 0
  IsBridge = OtherBridge X (deciding X Its)

  -- c is the lowest faulty configuration, at the place p
  pub record LowestAt (p : ℕ) (c : Conf) : Type 0 where
    pub lowest : LowestFaulty X Its c
    pub is_place : place X c ≡ p

  pub record RequestC (r : ReadCheck) : Type 1 where
    -- of well-formed input: "Accept exactly the lists with no faulty place"
    pub faultless : verdict_of (check_checks k list) ≡ Fine → r.Accepts ↔ ((c : Conf) → ¬ Faulty X Its c)
    -- and these are the bridges in the sense of demand 3
    pub accepts : verdict_of (check_checks k list) ≡ Fine → r.Accepts ↔ IsBridge
    -- "else give the lowest; if it has both faults, the bad move is named"
    pub bad_move : verdict_of (check_checks k list) ≡ Fine → (p : ℕ) → r.BadMoveAt p ↔ ((c : Conf) × LowestAt p c × PermitsBad X Its c)
    pub no_way : verdict_of (check_checks k list) ≡ Fine → (p : ℕ)
        → r.NoWayAt p ↔ ((c : Conf) × LowestAt p c × (¬ PermitsBad X Its c) × (¬ HasWay X Its c))
    -- a list with such a place is no bridge
    pub no_bridge : (p : ℕ) → r.BadMoveAt p ⊎ r.NoWayAt p → ¬ IsBridge
    -- an accepted list permits, wherever it comes, only moves that ours permits
    pub ours : r.Accepts → (before after : List ℕ) (b : Built) → BuildSays k before after b → b.verdict ≡ Fine
        → (c : Conf) (x y : ℕ) → Reached X Its c → Its c x y → asks_bit k after c x y
    -- and where a list is accepted build does not say "no converter"
    pub converter : r.Accepts → (before after : List ℕ) (b : Built) → BuildSays k before after b → ¬ (b.verdict ≡ Refused StartDropped None 0)
