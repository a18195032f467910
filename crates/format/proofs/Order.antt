-- Rows rise by one number, so state, drive and answer fix the row. Assumes nothing.
use Prim.Native.Nat.{ℕ, zero, suc, ◌+◌, ◌-◌, ◌<◌}
use native.Mathlib.Omega.{arith}
use native.Mathlib.Nat.{add-zero}
use mathlib.Core.Path.{◌≡◌}
use Rattle.format.specs.Good.{row, Good}
use Rattle.format.specs.declared.Table.{Table}
use Rattle.format.proofs.RowTests.{key, rises_key}

module _ (t : Table) (g : Good t) where
  key_next : (i : ℕ) → i + 1 < t.count → key (row t i) < key (row t (i + 1))
  key_next i l =
      let r = g.used i (omega arith) in
      rises_key (row t i) (row t (i + 1)) (g.rise i l) (omega (arith, r.drive, g.letters)) r.answer

  key_far : (i k : ℕ) → i + 1 + k < t.count → key (row t i) < key (row t (i + 1 + k))
  key_far i zero l = rw add-zero (key_next i (omega arith))
  key_far i (suc k) l =
      let e : i + 1 + suc k ≡ i + 1 + k + 1 = omega arith in
      rw e (omega (arith, key_far i k (omega arith), key_next (i + 1 + k) (omega arith)))

  pub key_rises : (i j : ℕ) → i < j → j < t.count → key (row t i) < key (row t j)
  key_rises i j h l =
      let e : j ≡ i + 1 + (j - (i + 1)) = omega arith in
      rw e (key_far i (j - (i + 1)) (omega arith))

  pub row_fixed :
      (i j : ℕ) → i < t.count → j < t.count
      → (row t i).state ≡ (row t j).state → (row t i).drive ≡ (row t j).drive → (row t i).answer ≡ (row t j).answer
      → i ≡ j
  row_fixed i j hi hj s d a =
      let up : i < j → ⊥ = λ h. omega (arith, key_rises i j h hj) in
      let down : j < i → ⊥ = λ h. omega (arith, key_rises j i h hi) in
      omega arith
