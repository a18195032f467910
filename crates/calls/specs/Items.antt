-- Document 01, "a run with real items": the items that a step moves, over lists, for any number of units.
-- Assumes nothing.
use Rattle.std.specs.Prelude.{ℕ, zero, suc, ◌-◌, List, [], ◌∷◌, ◌++◌, length, take, drop, replicate}

-- the first n of the items that wait, 0 for one that is not there; those past n are ignored
abbrev pub firsts : ℕ → List ℕ → List ℕ
firsts zero l = []
firsts (suc n) [] = 0 ∷ firsts n []
firsts (suc n) (i ∷ l) = i ∷ firsts n l

-- "the incoming one goes behind the last": as many as the writer's row writes
abbrev pub queued : List ℕ → ℕ → List ℕ → List ℕ
queued held written incoming = held ++ firsts written incoming

-- "the front leaves and is returned": as many as the reader's row takes. "The incoming item is appended first, then the front leaves" (request a):
-- what is taken is taken from held-then-incoming
abbrev pub delivered : List ℕ → ℕ → ℕ → List ℕ → List ℕ
delivered held written taken incoming = take taken (queued held written incoming)

abbrev pub held_after : List ℕ → ℕ → ℕ → List ℕ → List ℕ
held_after held written taken incoming = drop taken (queued held written incoming)

-- the 16 places of a run that holds these items: "places from the level to 15 are zero"
unfoldable pub padded : List ℕ → List ℕ
padded held = held ++ replicate (16 - length held) 0
