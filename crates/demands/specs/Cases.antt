-- Document 01, "Pairs at their limits": the ten cases, which are registered, and those of request a, which are not, one table. Tables are bytes, read by
-- the definition of the reader. Assumes nothing.
use Rattle.std.specs.Prelude.{ℕ, zero, suc, ◌≤◌, ◌≡◌, ◌⊎◌, List, [], ◌∷◌, ◌++◌, eqb, length, drop, replicate}
use Rattle.lists.specs.Lists.{any, tab_from, tab}
use Rattle.lists.specs.Bits.{bit}
use Rattle.format.specs.Verdicts.{Fine, Refused, number_of}
use Rattle.std.specs.Prelude.{None}
use Rattle.format.specs.declared.Fault.TheVariants.{StartDropped}
use Rattle.rules.specs.declared.Conf.{Conf}
use Rattle.rules.specs.declared.Pair.{Pair}
use Rattle.rules.specs.Configurations.{GoodPair, start, size, conf_with}
use Rattle.rules.specs.Sets.{RoundsAre}
use Rattle.rules.specs.Kept.{KeptAt, IsKept}
use Rattle.calls.specs.Call.{Call, call_of, pair_of}
use Rattle.calls.specs.Ask.{answered, ask_of}
use Rattle.calls.specs.declared.Built.{Built}
use Rattle.calls.specs.declared.Run.{Run}
use Rattle.calls.specs.declared.Cycle.{Cycle}
use Rattle.calls.specs.declared.Stepped.{Stepped}
use Rattle.calls.specs.Build.{BuildSays}
use Rattle.calls.specs.Step.{step_of}
use Rattle.calls.specs.Runs.{run_at}
use Rattle.calls.specs.Begin.{begin_of}
use Rattle.calls.specs.Walks.{Walked, walk}

-- ---- the tables

abbrev A_writer : List ℕ
A_writer = 1 ∷ 0 ∷ 21 ∷ 1 ∷ 2 ∷ 0 ∷ 1 ∷ 2 ∷ 3 ∷ 0 ∷ 0 ∷ 0 ∷ 0 ∷ 0 ∷ 0 ∷ 1 ∷ 1 ∷ 1 ∷ 1 ∷ 1 ∷ 0 ∷ 0 ∷ 0 ∷ 1 ∷ []

-- "The reader differs in role 2 only"
abbrev A_reader : List ℕ
A_reader = 1 ∷ 0 ∷ 21 ∷ 2 ∷ 2 ∷ 0 ∷ 1 ∷ 2 ∷ 3 ∷ 0 ∷ 0 ∷ 0 ∷ 0 ∷ 0 ∷ 0 ∷ 1 ∷ 1 ∷ 1 ∷ 1 ∷ 1 ∷ 0 ∷ 0 ∷ 0 ∷ 1 ∷ []

abbrev C_writer : List ℕ
C_writer =
    1 ∷ 0 ∷ 31 ∷ 1 ∷ 3 ∷ 0 ∷ 1 ∷ 2 ∷ 5
    ∷ 0 ∷ 0 ∷ 0 ∷ 0 ∷ 0
    ∷ 0 ∷ 1 ∷ 1 ∷ 1 ∷ 1
    ∷ 0 ∷ 1 ∷ 2 ∷ 1 ∷ 2
    ∷ 1 ∷ 0 ∷ 0 ∷ 0 ∷ 1
    ∷ 2 ∷ 0 ∷ 3 ∷ 1 ∷ 1
    ∷ []

abbrev C_reader : List ℕ
C_reader = 1 ∷ 0 ∷ 16 ∷ 2 ∷ 1 ∷ 0 ∷ 0 ∷ 2 ∷ 2 ∷ 0 ∷ 0 ∷ 0 ∷ 0 ∷ 0 ∷ 0 ∷ 1 ∷ 1 ∷ 1 ∷ 0 ∷ []

-- "One state a side, no rows"
abbrev bare_writer : List ℕ
bare_writer = 1 ∷ 0 ∷ 6 ∷ 1 ∷ 1 ∷ 0 ∷ 0 ∷ 1 ∷ 0 ∷ []

abbrev bare_reader : List ℕ
bare_reader = 1 ∷ 0 ∷ 6 ∷ 2 ∷ 1 ∷ 0 ∷ 0 ∷ 1 ∷ 0 ∷ []

-- ---- what a case claims

pub data Claim : Type 0 where
  -- the number, 0 or 11; the rounds; N; the places of the largest K
  built : ℕ → ℕ → ℕ → List ℕ → Claim
  -- ask's set at the configuration
  asked : Conf → ℕ → Claim
  -- the cycles, whatever the number is that no row takes up; item and mark of each step; where the run ends, with nothing held; the items
  -- accepted and delivered
  ran : (ℕ → List Cycle) → List (ℕ × ℕ) → Conf → List ℕ → List ℕ → Claim

pub record Case : Type 0 where
  pub call : Call
  pub claims : List Claim

abbrev pub pair_in : Case → Pair
pair_in c = pair_of c.call

-- N bytes, 1 at the places listed
abbrev pub is_listed : List ℕ → ℕ → ℕ
is_listed places p = bit (any (eqb p) places)

unfoldable pub marks : ℕ → List ℕ → List ℕ
unfolding tab_from
marks n places = tab (is_listed places) n

-- ---- what the claim means, in the rules' own terms

pub record BuiltSays (X : Pair) (number rounds n : ℕ) (places : List ℕ) : Type 1 where
  pub good : GoodPair X
  pub size_is : size X ≡ n
  pub kept : IsKept X (marks n places)
  pub are_rounds : RoundsAre X rounds
  pub verdict : ((number ≡ 0) × KeptAt X (marks n places) (start X)) ⊎ ((number ≡ 11) × (¬ KeptAt X (marks n places) (start X)))

-- ---- and of the calls: any result that satisfies a call's contract

-- 0 is done, with the kept places in the buffer; 11 has no converter, and zero bytes. (No other number stands in the table: `number_is` below,
-- and `verdict` of `BuiltSays`, allow none.)
abbrev pub result_of : ℕ → ℕ → List ℕ → Built
result_of zero rounds places = record { verdict = Fine; kept = length places; rounds = rounds }
result_of (suc number) rounds places = record { verdict = Refused StartDropped None 0; kept = 0; rounds = rounds }

abbrev pub bytes_of : ℕ → ℕ → List ℕ → List ℕ
bytes_of zero n places = marks n places
bytes_of (suc number) n places = replicate n 0

pub record BuildGives (k : Call) (number rounds n : ℕ) (places : List ℕ) (before after : List ℕ) (b : Built) : Type 0 where
  pub number_is : number_of b.verdict ≡ number
  pub result : b ≡ result_of number rounds places
  pub bytes : after ≡ bytes_of number n places ++ drop n before

-- item and mark of each step of a walk
unfoldable pub returned : Call → List ℕ → List Cycle → Run → List (ℕ × ℕ)
unfolding step_of
returned k bytes [] u = []
returned k bytes (c ∷ cs) u =
    let s : Stepped = step_of k bytes u c in
    (s.item, s.mark) ∷ returned k bytes cs s.run

abbrev pub ended : List Cycle → Conf → List ℕ → List ℕ → Walked
ended cs c accepted delivered = record { verdict = Fine; run = run_at c []; cycles = length cs; accepted = accepted; delivered = delivered }

abbrev pub Says : Case → Claim → Type 1
Says k (built number rounds n places) =
    BuiltSays (pair_in k) number rounds n places
    × ((before after : List ℕ) (b : Built) → n ≤ length before → BuildSays k.call before after b
    → BuildGives k.call number rounds n places before after b)
Says k (asked c set) = (bytes : List ℕ) → IsKept (pair_in k) bytes → ask_of k.call bytes c ≡ answered set
Says k (ran cs outs c accepted delivered) =
    (bytes : List ℕ) (number : ℕ) → IsKept (pair_in k) bytes
    → (walk k.call bytes (cs number) (begin_of k.call).run ≡ ended (cs number) c accepted delivered)
    × (returned k.call bytes (cs number) (begin_of k.call).run ≡ outs)

-- ---- the table

abbrev cycle : ℕ → ℕ → ℕ → ℕ → ℕ → Cycle
cycle x y a b incoming =
    record { writer_letter = x; reader_letter = y; writer_answer = a; reader_answer = b; incoming = incoming }

-- the rules by their numbers
abbrev registered : ℕ
registered = 0

abbrev flow_through : ℕ
flow_through = 1

abbrev A : ℕ → ℕ → List Claim → Case
A bound rule claims = record { call = call_of A_writer A_reader bound rule; claims = claims }

abbrev C : ℕ → ℕ → List Claim → Case
C bound rule claims = record { call = call_of C_writer C_reader bound rule; claims = claims }

abbrev bare : ℕ → ℕ → List Claim → Case
bare bound rule claims = record { call = call_of bare_writer bare_reader bound rule; claims = claims }

abbrev pub cases : List Case
cases =
    -- 1
    A 0 registered (built 11 2 4 (3 ∷ []) ∷ [])
    -- 2
    ∷ A 1 registered (built 0 2 8 (0 ∷ 5 ∷ 6 ∷ []) ∷ [])
    -- 3
    ∷ A 2 registered (built 0 2 12 (0 ∷ 7 ∷ 9 ∷ []) ∷ [])
    -- 4
    ∷ C 1 registered (built 11 3 6 (2 ∷ 3 ∷ 4 ∷ []) ∷ [])
    -- 5
    ∷ C 2 registered (built 0 2 9 (0 ∷ 1 ∷ 2 ∷ 3 ∷ 4 ∷ 5 ∷ 6 ∷ 7 ∷ []) ∷ [])
    -- 6
    ∷ bare 0 registered (built 0 1 1 (0 ∷ []) ∷ asked (conf_with 0 0 0) 0 ∷ [])
    -- 7
    ∷ bare 15 registered (built 0 2 16 (0 ∷ []) ∷ [])
    -- 8
    ∷ A 1 registered (asked (conf_with 0 0 0) 257 ∷ asked (conf_with 1 0 1) 3 ∷ asked (conf_with 1 1 0) 1 ∷ [])
    -- 9
    ∷ C 2 registered (asked (conf_with 0 0 1) 515 ∷ [])
    -- 10
    ∷ A 1 registered (ran (λ any. cycle 1 0 1 0 7 ∷ cycle 0 1 0 1 any ∷ []) ((0, 0) ∷ (7, 1) ∷ []) (conf_with 1 1 0) (7 ∷ []) (7 ∷ []) ∷ [])
    -- request a: "Pair C at bound 1 then keeps all 6, rounds 1"
    ∷ C 1 flow_through (built 0 1 6 (0 ∷ 1 ∷ 2 ∷ 3 ∷ 4 ∷ 5 ∷ []) ∷ [])
    -- at level 0 an item passes "in the cycle it is written"
    ∷ C 1 flow_through (ran (λ any. cycle 1 1 1 1 7 ∷ []) ((7, 1) ∷ []) (conf_with 1 0 0) (7 ∷ []) (7 ∷ []) ∷ [])
    -- and "a full buffer" takes "one while giving one", in the second cycle
    ∷ C 1 flow_through (ran (λ any. cycle 1 0 2 0 5 ∷ cycle 0 1 3 1 9 ∷ cycle 0 1 0 1 any ∷ []) ((0, 0) ∷ (5, 1) ∷ (9, 1) ∷ [])
    (conf_with 1 0 0) (5 ∷ 9 ∷ []) (5 ∷ 9 ∷ []) ∷ [])
    -- pair A needs no buffer then
    ∷ A 0 flow_through (built 0 2 4 (0 ∷ 3 ∷ []) ∷ asked (conf_with 0 0 0) 513 ∷ [])
    ∷ []
