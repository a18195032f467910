-- Laws over sets of configurations that need no tool. Assumes nothing.
use mathlib.Core.Logic.{◌↔◌}
use Prim.Native.Nat.{ℕ}
use Rattle.rules.specs.declared.Conf.{Conf}
use Rattle.rules.specs.declared.Pair.{Pair}
use Rattle.rules.specs.Sets.{AllowedIn, LargestSet}

-- more configurations allow more
pub allowed_mono : (X : Pair) {S R : Conf → Type 0} → ((c : Conf) → S c → R c) → {c : Conf} {x y : ℕ} → AllowedIn X S c x y → AllowedIn X R c x y
allowed_mono X s {c} a = record { member = s c a.member; safe = a.safe; lands = λ w r o. s _ (a.lands w r o) }

-- ---- there is one largest set

pub one_largest : (X : Pair) (S R : Conf → Type 0) → LargestSet X S → LargestSet X R → (c : Conf) → S c ↔ R c
one_largest X S R s r c = (r.largest S s.correct c, s.largest R r.correct c)
