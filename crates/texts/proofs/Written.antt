-- What `Written` says, part by part, and that it leaves one result. Assumes nothing.
use Prim.Native.Nat.{ℕ}
use mathlib.Core.Path.{◌≡◌, sym, ◌∙◌}
use mathlib.Core.List.{List}
use lib.ListN.{take, drop}
use lib.Seq.{take-append_seam, drop-append_seam}
use Rattle.texts.specs.Written.{Written}

module _ {t l m : List ℕ} {r : ℕ} (w : Written t l r m) where
  -- the first r bytes are the text
  pub text_first : take r m ≡ t
  text_first = rw (w.bytes, w.count) (take-append_seam t _)

  -- and the others stand as before
  pub rest_stands : drop r m ≡ drop r l
  rest_stands = rw (w.bytes, w.count) (drop-append_seam t _)

-- the contract of a line leaves one result and one content of the buffer
pub only_one : {t l m n : List ℕ} {r s : ℕ} → Written t l r m → Written t l s n → (r ≡ s) × (m ≡ n)
only_one p q = (p.count ∙ sym q.count, p.bytes ∙ sym q.bytes)
