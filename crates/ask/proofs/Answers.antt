-- The refusals of ask in their order. Assumes nothing.
use mathlib.Core.Path.{◌≡◌, refl, sym, ◌∙◌}
use mathlib.Core.Bool.{Bool, true, false, not, cond}
use mathlib.Core.List.{List, [], ◌∷◌}
use Prim.Native.Nat.{ℕ}
use Rattle.std.specs.Option.{ok_or}
use Rattle.std.specs.Prelude.{Some, None, Err}
use Rattle.format.specs.declared.Fault.TheVariants.{NoConfiguration}
use Rattle.format.specs.Verdicts.{Refusal, Verdict, Fine, unsided, verdict_of, unless}
use Rattle.format.proofs.Verdicts.{unless_front, unless_goes_on}
use Rattle.rules.specs.declared.Pair.{Pair}
use Rattle.rules.specs.declared.Conf.{Conf}
use Rattle.rules.specs.Configurations.{size}
use Rattle.calls.specs.Refusals.{lent_checks, in_range, conf_check}
use Rattle.calls.specs.Ask.{asks_checks}

found_or : (t : Bool) (c : Conf) (r : Refusal) → ok_or (cond t (Some c) None) r ≡ unless (cond (not t) (Err r) Fine) c
found_or true c r = refl
found_or false c r = refl

module _ (X : Pair) (bytes : List ℕ) (c : Conf) {b : Verdict} (told : b ≡ verdict_of (lent_checks (size X) bytes)) where
  -- 10 and 12
  pub bytes_refused : {r : Refusal} → b ≡ Err r → Err r ≡ unless (verdict_of (asks_checks X bytes c)) c
  bytes_refused e = unless_front c (lent_checks (size X) bytes) (conf_check X c ∷ []) (sym told ∙ e)

  -- then 13
  pub conf_told : b ≡ Fine → {t : Bool} → t ≡ in_range X c
      → ok_or (cond t (Some c) None) (unsided NoConfiguration) ≡ unless (verdict_of (asks_checks X bytes c)) c
  conf_told fine {t} range =
      found_or t c (unsided NoConfiguration)
      ∙ rw range (unless_goes_on c (lent_checks (size X) bytes) (conf_check X c ∷ []) (sym told ∙ fine))
