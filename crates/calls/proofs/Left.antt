-- What build returns and leaves in the lent buffer, case by case, as document 01 says it. Assumes nothing.
use Prim.Native.Nat.{ℕ}
use mathlib.Core.Path.{◌≡◌, ap, ◌∙◌}
use mathlib.Core.Logic.{inl, inr}
use mathlib.Core.List.{List}
use lib.ListN.{take, drop, replicate, length-replicate}
use lib.Seq.{take_at, drop_at}
use Rattle.rules.specs.declared.Pair.{Pair}
use Rattle.rules.specs.Configurations.{size}
use Rattle.calls.specs.declared.Built.{Built}
use Rattle.calls.specs.Call.{Call, pair_of}
use Rattle.calls.specs.Build.{NoConverter, Made, BuildSays}
use Rattle.calls.proofs.Largest.{build_cases}

module _ (k : Call) (before after : List ℕ) (b : Built) (says : BuildSays k before after b) where
  abbrev n : ℕ
  n = size (pair_of k)

  -- "the rest stand as before", in every case
  pub build_rest : drop n after ≡ drop n before
  build_rest = build_cases k before after b (drop n after ≡ drop n before) says (λ fine made. rest made) (λ r e u. ap (drop n) u.1)
    where
      rest : Made (pair_of k) before after b → drop n after ≡ drop n before
      rest (inl a) = ap (drop n) a.buffer ∙ drop_at a.bytes (drop n before) n a.answer.long
      rest (inr a) = ap (drop n) a.buffer ∙ drop_at (replicate n 0) (drop n before) n (length-replicate n 0)

-- "first N bytes 0": a pair that has no converter
pub none_zero : (X : Pair) (before after : List ℕ) (b : Built) → NoConverter X before after b → take (size X) after ≡ replicate (size X) 0
none_zero X before after b a =
    ap (take (size X)) a.buffer ∙ take_at (replicate (size X) 0) (drop (size X) before) (size X) (length-replicate (size X) 0)
