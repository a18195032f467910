-- Pieces put one behind the other, and the whole line that they make. Assumes nothing.
use Prim.Native.Nat.{ℕ, suc, ◌+◌, ◌-◌, ◌≤◌}
use native.Mathlib.Nat.{add-zero, le_refl}
use native.Mathlib.Omega.{arith}
use mathlib.Core.Path.{◌≡◌, refl, sym, ap, subst, ◌∙◌}
use mathlib.Core.List.{List, [], ◌∷◌, ◌++◌}
use lib.ListN.{length, set, length-append, length-take}
use lib.Seq.{sets, sets-eq, length-sets, take_all}
use borrow.Rule.Slice.PartMut.{put_mid}
use Rattle.std.proofs.lemmas.Slice.{put_mid-paste}
use Rattle.texts.specs.Written.{Written}
use Rattle.put.specs.Piece.{Put}

-- a run of stores in two parts
sets_append : (l : List ℕ) (i : ℕ) (a b : List ℕ) → sets (sets l i a) (i + length a) b ≡ sets l i (a ++ b)
sets_append l i [] b = rw (add-zero i)
sets_append l i (x ∷ a) b =
    let e : i + suc (length a) ≡ suc i + length a = omega arith in
    rw e (sets_append (set l i x) (suc i) a b)

pub put_nothing : (l : List ℕ) (at : ℕ) → Put [] at l at l
put_nothing l at = record { next = omega arith; stored = refl }

pub then : {a b : List ℕ} {at s r : ℕ} {l m n : List ℕ} → Put a at l s m → Put b s m r n → Put (a ++ b) at l r n
then {a} {b} {at} {s} {r} {l} {m} {n} p q =
    record {
      next = simp length-append (omega (arith, p.next, q.next));
      stored = q.stored ∙ rw (p.stored, p.next) (sets_append l at a b);
    }

-- the same piece by another name
pub reads_as : {a b : List ℕ} {at r : ℕ} {l m : List ℕ} → a ≡ b → Put b at l r m → Put a at l r m
reads_as {a} {b} {at} {r} {l} {m} e p = subst (λ (t : List ℕ). Put t at l r m) (sym e) p

-- ---- a piece that is copied

pub copied :
    (piece : List ℕ) (at : ℕ) {l m : List ℕ} → at + length piece ≤ length l → m ≡ piece
    → Put piece at l (at + length piece) (put_mid at (at + length piece - at) l m)
copied piece at {l} {m} h e =
    let n = length piece in
    record {
      next = refl;
      stored = put_mid-paste at (at + n - at) l m piece n e (omega arith) refl ∙ rw (take_all n piece (le_refl n)) (sym (sets-eq piece l at h));
    }

-- ---- the whole line

pub whole : {t l m : List ℕ} {r : ℕ} → Put t 0 l r m → r ≤ length l → Written t l r m
whole {t} {l} {m} {r} p h =
    let n : r ≡ length t = omega (arith, p.next) in
    let z : 0 + length t ≡ length t = omega arith in
    let s : 0 + length t ≤ length l = omega arith in
    let k : length m ≡ length l = ap length p.stored ∙ length-sets l 0 t in
    record {
      count = n;
      bytes = p.stored ∙ sets-eq t l 0 s ∙ rw z;
      inside = omega arith;
      lent = simp length-take (omega arith);
    }
