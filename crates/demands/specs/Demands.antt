-- The customer's demands 2 and 3, over what the calls take and return: k is what a call takes, `before` and `after` the lent buffer of a build.
-- Whether the build is done, whether it says "no converter", its kept count and its rounds are given as a caller reads them: off the result
-- (`of_built`), or, as the generator does, off the packed number (`of_packed`).
-- Request a reads both with the rule named: it is a field of k, and so of the pair; another bridge is one for the same tables, bound and rule.
-- (Demand 1 is each call's own contract, which has no `requires`: docs/PROMISES.md.)
-- Assumes nothing. That every result of build that satisfies its contract meets the demands is proved: proofs/Demand2.antt, Demand3.antt.
use Rattle.std.specs.Prelude.{ℕ, ◌/◌, ◌%◌, ◌^◌, ◌≤◌, ◌<◌, ◌≡◌, ◌↔◌, List, take, None}
use Rattle.format.specs.Verdicts.{Fine, Refused, verdict_of}
use Rattle.rules.specs.declared.Conf.{Conf}
use Rattle.rules.specs.declared.Pair.{Pair}
use Rattle.rules.specs.Configurations.{Within, start, size, move_of}
use Rattle.rules.specs.Sets.{AllowedIn, LargestSet, RoundsAre}
use Rattle.rules.specs.Kept.{KeptAt, IsKept, kept_count}
use Rattle.rules.specs.Bridges.{Seen, Bridge, Meets, OtherBridge}
use Rattle.calls.specs.Call.{Call, pair_of}
use Rattle.calls.specs.Ask.{ask_of}
use Rattle.calls.specs.declared.Built.{Built}
use Rattle.calls.specs.Build.{build_checks}
use Rattle.calls.specs.declared.Cycle.{Cycle}
use Rattle.calls.specs.Begin.{begin_of}
use Rattle.calls.specs.Walks.{walk}
use Rattle.calls.specs.Points.{Point}
use Rattle.format.specs.declared.Fault.TheVariants.{StartDropped}

-- what a caller reads of a build
pub record Read : Type 1 where
  pub Done : Type 0
  pub NoConverter : Type 0
  pub kept : ℕ
  pub rounds : ℕ

-- off the result: number 0 and number 11 are these verdicts (proved: build_numbered, crates/calls/proofs/Codes.antt)
abbrev pub of_built : Built → Read
of_built b = record { Done = b.verdict ≡ Fine; NoConverter = b.verdict ≡ Refused StartDropped None 0; kept = b.kept; rounds = b.rounds }

-- off the packed number: its lowest 8 bits are the number, 16 bits from 2^32 on the kept count, and what is above 2^48 the rounds
abbrev pub of_packed : ℕ → Read
of_packed z = record { Done = z % 2 ^ 8 ≡ 0; NoConverter = z % 2 ^ 8 ≡ 11; kept = z / 2 ^ 32 % 2 ^ 16; rounds = z / 2 ^ 48 }

module _ (k : Call) where
  abbrev pub pair : Pair
  pair = pair_of k

  -- ask over these bytes at c has the bit of the move x.y
  abbrev pub asks_bit : List ℕ → Conf → ℕ → ℕ → Type 0
  asks_bit bytes c x y = (ask_of k bytes c).set / 2 ^ move_of x y % 2 ≡ 1

  -- rounds as document 01 counts them, between 1 and N
  pub record RoundsTrue (rounds : ℕ) : Type 0 where
    pub are_rounds : RoundsAre pair rounds
    pub positive : 1 ≤ rounds
    pub few : rounds ≤ size pair

  -- "The answer is the largest correct set of configurations .. all that belongs is kept, and nothing else. The moves allowed at each
  -- configuration are exactly those it permits."
  pub record Demand2 (after : List ℕ) (b : Read) : Type 1 where
    -- the first N bytes are those of the largest correct set, the start is in it, and the counts are true
    pub kept_bytes : b.Done → IsKept pair (take (size pair) after)
    pub start_in : b.Done → KeptAt pair after (start pair)
    pub kept_count_is : b.Done → b.kept ≡ kept_count (take (size pair) after)
    -- refusal 11 is said only where the start is outside every largest correct set
    pub start_out : b.NoConverter → (S : Conf → Type 0) → LargestSet pair S → ¬ S (start pair)
    -- ask's bits over the answer are the moves that the largest correct set permits
    pub moves : b.Done → (S : Conf → Type 0) → LargestSet pair S → (c : Conf) → Within pair c → (x y : ℕ) → x < 8 → y < 8
        → asks_bit after c x y ↔ AllowedIn pair S c x y
    -- accepted or refused with 11, the rounds are those of document 01, between 1 and N
    pub rounds_done : b.Done → RoundsTrue b.rounds
    pub rounds_none : b.NoConverter → RoundsTrue b.rounds

  pub record Demand3 (before after : List ℕ) (b : Read) : Type 1 where
    -- "Take a run from the start under an accepted answer, each side answering by its own table": at each point of it, whatever the cycles.
    -- Request b's reason stands in Point too: there a move that is not allowed is refused with 15 and its reason, and the run stands
    pub runs : b.Done → (cs : List Cycle) → Point k after (walk k after cs (begin_of k).run)
    -- "Any other bridge for the same tables and bound, deciding even from its whole record, that permits only moves with rows on both sides,
    -- never breaks the buffer tests and can always still finish, permits at each point it meets only moves ours permits"
    pub others : b.Done → (Permits : Bridge) → OtherBridge pair Permits
        → (h : List Seen) (c : Conf) (x y : ℕ) → Meets pair Permits h c → Permits h x y → asks_bit after c x y
    -- ""No converter" is said of well-formed input with room for the answer exactly when no such bridge exists"
    pub none : verdict_of (build_checks k before) ≡ Fine → b.NoConverter ↔ ((Permits : Bridge) → ¬ OtherBridge pair Permits)
