-- The sweep lemma: marks that all reach the finish, that hold the finish and that are closed under one step back, are exactly what a round keeps.
-- It says nothing of the order in which a loop marks. Assumes nothing.
use mathlib.Core.Path.{sym, subst}
use mathlib.Core.Logic.{◌↔◌}
use mathlib.Core.List.{Memᴰ}
use Prim.Native.Nat.{ℕ}
use Rattle.arena.specs.Arena.{Arena, Allowed, StepsIn, done, step, Next}

module _ (A : Arena) where
  pub sweep_lemma :
      (K M : ℕ → Type 0)
      → ((p : ℕ) → M p → Next A K p)
      → (K A.finish → M A.finish)
      → ((p m q : ℕ) → Allowed A K p m → Memᴰ q (A.lands p m) → M q → M p)
      → (p : ℕ) → M p ↔ Next A K p
  sweep_lemma K M sound finish closed p = (sound p, λ n. all_marked n.was n.reaches.1)
    where
      all_marked : {k p : ℕ} → K p → StepsIn A K k p → M p
      all_marked h (done e) = subst M (sym e) (finish (subst K e h))
      all_marked h (step {p = p} {m} {q} a l r) = closed p m q a l (all_marked (a.lands q l) r)
