-- The builder's test of a move is the definition of an allowed move, and its list of steps has the outcomes of the allowed moves. Assumes nothing.
use mathlib.Core.Path.{subst}
use mathlib.Core.Bool.{Bool, ◌&&◌}
use mathlib.Core.List.{List, Memᴰ}
use Prim.Native.Nat.{ℕ, ◌<◌}
use lib.Dec.{T}
use Rattle.lists.specs.Lists.{all, tab, In}
use Rattle.lists.specs.Search.{itself}
use Rattle.lists.proofs.Bools.{and_in, and_left, and_right}
use Rattle.lists.proofs.Members.{all_at, all_of}
use Rattle.lists.proofs.Joined.{join_some, join_in, tab_some, tab_in, test_some, test_in}
use Rattle.arena.specs.Arena.{Arena, Allowed}
use Rattle.arena.specs.Builder.{has, allowed, steps_by, steps_of}

-- ---- the test of a move

module _ (A : Arena) (K : List Bool) (p m : ℕ) where
  inside : Bool
  inside = all (has K) (A.lands p m)

  pub allowed_of : m < A.moves → T (allowed A K p m) → Allowed A (In K) p m
  unfolding allowed inside
  allowed_of h t =
      let u : T (A.safe p m && inside) = and_right (has K p) (A.safe p m && inside) t in
      record {
        member = and_left (has K p) (A.safe p m && inside) t;
        move = h;
        safe = and_left (A.safe p m) inside u;
        lands = λ q. all_at (has K) (A.lands p m) (and_right (A.safe p m) inside u);
      }

  pub allowed_true : Allowed A (In K) p m → T (allowed A K p m)
  unfolding allowed inside
  allowed_true a =
      and_in (has K p) (A.safe p m && inside) a.member
      (and_in (A.safe p m) inside a.safe (all_of (has K) (A.lands p m) a.lands))

-- ---- the list of steps: its members are the outcomes of allowed moves

module _ (A : Arena) (K : List Bool) (p : ℕ) where
  moves : List ℕ
  moves = tab itself A.moves

  pub steps_some : (q : ℕ) → Memᴰ q (steps_of A K p) → (m : ℕ) × Allowed A (In K) p m × Memᴰ q (A.lands p m)
  unfolding steps_of steps_by moves
  steps_some q v =
      let s = join_some (steps_by A K p) moves v in
      let m : ℕ = s.0 in
      let i = tab_some itself A.moves s.1 in
      let t = test_some (allowed A K p m) (A.lands p m) s.2 in
      (m, allowed_of A K p m (subst (λ (k : ℕ). k < A.moves) i.2 i.1) t.0, t.1)

  pub some_steps : (m q : ℕ) → Allowed A (In K) p m → Memᴰ q (A.lands p m) → Memᴰ q (steps_of A K p)
  unfolding steps_of steps_by moves
  some_steps m q a l =
      join_in (steps_by A K p) moves (tab_in itself A.moves m a.move) (test_in (allowed A K p m) (A.lands p m) (allowed_true A K p m a) l)
