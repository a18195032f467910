-- The verdict of a list of checks: where it is fine none applies, and a refusal by the first checks stands. Assumes nothing.
use mathlib.Core.Path.{◌≡◌, refl, sym, ap, ◌∙◌}
use mathlib.Core.Bool.{Bool, true, false, cond}
use mathlib.Core.List.{List, [], ◌∷◌, ◌++◌}
use Rattle.format.specs.declared.RefusalOf.{RefusalOf}
use Rattle.std.specs.Prelude.{Result, Ok, Err, IsErr, IsErrAnd}
use Rattle.format.specs.Verdicts.{Refusal, VerdictOf, Verdict, Fine, Check, CheckOf, verdict_of, and_then, given, unless}

pub refused_not_fine : {S : Type 0} {r : RefusalOf S} → ◌≡◌ {A = VerdictOf S} (Err r) Fine → ⊥
refused_not_fine e = cc

-- no check of the list applies
abbrev pub Silent : {S : Type 0} → List (CheckOf S) → Type 0
Silent [] = Unit {0}
Silent (c ∷ cs) = (c.applies ≡ false) × Silent cs

silent_by : {S : Type 0} (t : Bool) (r : RefusalOf S) (v : VerdictOf S) → cond t (Err r) v ≡ Fine → (t ≡ false) × (v ≡ Fine)
silent_by true r v e = absurd (refused_not_fine e)
silent_by false r v e = (refl, e)

pub fine_silent : {S : Type 0} (cs : List (CheckOf S)) → verdict_of cs ≡ Fine → Silent cs
fine_silent [] e = tt
fine_silent (c ∷ cs) e = let h = silent_by c.applies c.refuses (verdict_of cs) e in (h.0, fine_silent cs h.1)

-- a refusal that `?` hands on
pub handed_on : {A : Type 0} (r : Result A Refusal) {x : Refusal} → IsErr r × IsErrAnd r (λ y. y ≡ x) → r ≡ Err x
handed_on (Ok _) h = absurd h.1
handed_on (Err _) h = ap Err h.1

-- ---- checks that are followed by others

pub verdict_append : {S : Type 0} (cs ds : List (CheckOf S)) → verdict_of (cs ++ ds) ≡ and_then (verdict_of cs) (verdict_of ds)
verdict_append [] ds = refl
verdict_append {S} (c ∷ cs) ds = go (verdict_append cs ds) c.applies
  where
    it : VerdictOf S
    it = Err c.refuses

    go : verdict_of (cs ++ ds) ≡ and_then (verdict_of cs) (verdict_of ds)
        → (t : Bool) → cond t it (verdict_of (cs ++ ds)) ≡ and_then (cond t it (verdict_of cs)) (verdict_of ds)
    go later true = refl
    go later false = later

pub then_fine : {S : Type 0} (v w : VerdictOf S) → and_then v w ≡ Fine → (v ≡ Fine) × (w ≡ Fine)
then_fine (Ok _) w e = (refl, e)
then_fine (Err r) w e = absurd (refused_not_fine e)

pub then_none : {S : Type 0} (v : VerdictOf S) → and_then v Fine ≡ v
then_none (Ok _) = refl
then_none (Err r) = refl

pub then_refused : {S : Type 0} {v : VerdictOf S} {r : RefusalOf S} (w : VerdictOf S) → v ≡ Err r → v ≡ and_then v w
then_refused w e = rw e

module _ {S : Type 0} (cs ds : List (CheckOf S)) where
  pub fine_front : verdict_of (cs ++ ds) ≡ Fine → verdict_of cs ≡ Fine
  fine_front e = (then_fine (verdict_of cs) (verdict_of ds) (sym (verdict_append cs ds) ∙ e)).0

  pub fine_goes_on : verdict_of cs ≡ Fine → verdict_of ds ≡ verdict_of (cs ++ ds)
  fine_goes_on e = sym (verdict_append cs ds ∙ rw e)

  pub refused_stays : {r : RefusalOf S} → verdict_of cs ≡ Err r → verdict_of cs ≡ verdict_of (cs ++ ds)
  refused_stays e = then_refused (verdict_of ds) e ∙ sym (verdict_append cs ds)

-- ---- what a call gives, by its verdict

module _ {ℓ} {A : Type ℓ} (refuse : Refusal → A) (done : A) where
  pub given_refused : {v : Verdict} {r : Refusal} → v ≡ Err r → refuse r ≡ given v refuse done
  given_refused e = rw e

  pub given_fine : {v : Verdict} → v ≡ Fine → done ≡ given v refuse done
  given_fine e = rw e

  -- every call has checks that it makes first and others after them: a refusal by the first is the call's
  pub first_refuses : (cs ds : List Check) {v : Verdict} {r : Refusal} → v ≡ verdict_of cs → v ≡ Err r
      → refuse r ≡ given (verdict_of (cs ++ ds)) refuse done
  first_refuses cs ds told e = given_refused e ∙ ap (λ (z : Verdict). given z refuse done) (told ∙ refused_stays cs ds (sym told ∙ e))

  -- and where they are silent the others decide
  pub then_decides : (cs ds : List Check) → verdict_of cs ≡ Fine → given (verdict_of ds) refuse done ≡ given (verdict_of (cs ++ ds)) refuse done
  then_decides cs ds fine = ap (λ (z : Verdict). given z refuse done) (fine_goes_on cs ds fine)

-- the verdict of a result that carries it
pub given_verdict : {A : Type 0} (verdict : A → Verdict) (refuse : Refusal → A) (done : A) → ((r : Refusal) → verdict (refuse r) ≡ Err r) → verdict done ≡ Fine
    → (v : Verdict) → verdict (given v refuse done) ≡ v
given_verdict verdict refuse done refused fine (Ok _) = fine
given_verdict verdict refuse done refused fine (Err r) = refused r

-- ---- a result that has something to give unless there is a refusal

module _ {A : Type 0} (v : Verdict) (a : A) {out : Result A Refusal} (is : out ≡ unless v a) where
  known : {x : A} → out ≡ Ok x → (v ≡ Fine) × (a ≡ x)
  known {x} e = go v (sym is ∙ e)
    where
      go : (w : Verdict) → unless w a ≡ Ok x → (w ≡ Fine) × (a ≡ x)
      go (Ok _) e = (refl, cc)
      go (Err r) e = cc

  pub known_fine : {x : A} → out ≡ Ok x → v ≡ Fine
  known_fine e = (known e).0

  pub known_value : {x : A} → out ≡ Ok x → a ≡ x
  known_value e = (known e).1

  pub known_refused : {r : Refusal} → out ≡ Err r → v ≡ Err r
  known_refused {r} e = go v (sym is ∙ e)
    where
      go : (w : Verdict) → unless w a ≡ Err r → w ≡ Err r
      go (Ok _) e = cc
      go (Err s) e = let same : s ≡ r = cc in ap Err same

  -- what a call returns, by such a result
  module _ {B : Type 0} (refuse : Refusal → B) (done : A → B) where
    pub returned_done : {x : A} → out ≡ Ok x → done x ≡ given v refuse (done a)
    returned_done e = ap done (sym (known_value e)) ∙ given_fine refuse (done a) (known_fine e)

    pub returned_refused : {r : Refusal} → out ≡ Err r → refuse r ≡ given v refuse (done a)
    returned_refused e = given_refused refuse (done a) (known_refused e)

module _ {A : Type 0} (a : A) where
  pub unless_fine : {v : Verdict} → v ≡ Fine → Ok a ≡ unless v a
  unless_fine e = rw e

  pub unless_refused : {v : Verdict} {r : Refusal} → v ≡ Err r → Err r ≡ unless v a
  unless_refused e = rw e

  -- checks that are made first, and others after them
  module _ (cs ds : List Check) where
    pub unless_front : {r : Refusal} → verdict_of cs ≡ Err r → Err r ≡ unless (verdict_of (cs ++ ds)) a
    unless_front e = unless_refused (sym (refused_stays cs ds e) ∙ e)

    pub unless_goes_on : verdict_of cs ≡ Fine → unless (verdict_of ds) a ≡ unless (verdict_of (cs ++ ds)) a
    unless_goes_on e = ap (λ (v : Verdict). unless v a) (fine_goes_on cs ds e)
