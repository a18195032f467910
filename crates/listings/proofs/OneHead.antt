-- Two results that satisfy `HeadSays` are equal: the count, the line and what is left in the lent bytes. Assumes nothing.
use Prim.Native.Nat.{ℕ}
use mathlib.Core.Path.{◌≡◌, sym, ap}
use mathlib.Core.List.{List}
use Rattle.calls.specs.Call.{Call}
use Rattle.calls.proofs.Largest.{one_result}
use Rattle.texts.proofs.Written.{only_one}
use Rattle.listings.specs.Pages.{head_text, HeadSays}
use Rattle.listings.proofs.Texts.{instead}

pub one_head : (k : Call) (before out : List ℕ) {kept₁ kept₂ line₁ line₂ : List ℕ} {r s : ℕ}
    → HeadSays k before kept₁ out r line₁ → HeadSays k before kept₂ out s line₂
    → (kept₁ ≡ kept₂) × ((r ≡ s) × (line₁ ≡ line₂))
one_head k before out {kept₁} {kept₂} p q =
    let one : (p.built ≡ q.built) × (kept₁ ≡ kept₂) = one_result k before kept₁ kept₂ p.built q.built p.says q.says in
    (one.1, only_one p.line (instead (ap (head_text k) (sym one.0)) q.line))
