-- What was written in two steps, as one, and what was read, as what the reader held. Assumes nothing.
use Rattle.std.proofs.Common.{◌≡◌, ◌≢◌, ◌≤◌, ℕ, List, [], ◌∷◌, ◌++◌, length, take, replicate, Option, None, Some, IfSome, Result, Ok, Err, OnOk, refl, sym, ap, ◌∙◌, subst, length-take-le}
use Rattle.std.specs.Io.KnownBytes.{Appends}
use Rattle.std.proofs.KnownBytes.{Appends-trans}
use Rattle.calls.specs.Call.{Call, call_of}
use Rattle.worked.specs.declared.TheConstants.{A_WRITER, A_READER, A_BOUNDS, C_WRITER, C_READER, C_BOUNDS, REGISTERED}
use Rattle.listing.specs.Printed.{places_text, PrintsHead, Prints, PrintsEach, PrintsWorked, PrintsInput, call_in}

-- a first line and the places behind it
pub whole : {E : Type 0} (k : Call) (kept : List ℕ) (before between after : Option (List ℕ)) (r : Result (Unit {0}) E)
    → PrintsHead k (replicate 4096 0) kept before between → length kept ≡ 4096
    → OnOk r (Appends between after (places_text k kept (length kept))) → OnOk r (Prints k before after)
whole k kept before between after (Ok u) h n t =
    record {
      built = h.built;
      kept = kept;
      says = h.says;
      text = Appends-trans before between after _ _ h.line (subst (λ (z : ℕ). Appends between after (places_text k kept z)) n t);
    }
whole k kept before between after (Err e) h n t = tt

-- one bound more
pub each_more : (w r : List ℕ) (rule : ℕ) (bounds : List ℕ) (bound : ℕ) (before between after : Option (List ℕ))
    → PrintsEach w r rule bounds before between → Prints (call_of w r bound rule) between after → PrintsEach w r rule (bounds ++ bound ∷ []) before after
each_more w r rule [] bound before between after e p = (after, subst (λ (z : Option (List ℕ)). Prints (call_of w r bound rule) z after) e p, refl)
each_more w r rule (b ∷ bs) bound before between after e p = (e.0, e.1, each_more w r rule bs bound e.0 between after e.2 p)

-- pair A and then pair C
pub both : {E : Type 0} (before between after : Option (List ℕ)) (r : Result (Unit {0}) E)
    → PrintsEach A_WRITER A_READER REGISTERED A_BOUNDS before between
    → OnOk r (PrintsEach C_WRITER C_READER REGISTERED C_BOUNDS between after) → OnOk r (PrintsWorked before after)
both before between after (Ok u) a c = (between, a, c)
both before between after (Err e) a c = tt

module _ {E : Type 0} (before after : Option (List ℕ)) (bytes : List ℕ) (n : ℕ) where
  -- nothing was read: the reader held nothing
  pub no_input : (rest : Option (List ℕ)) (r : Result (Unit {0}) E) → n ≡ 0 → IfSome rest (λ all. take n bytes ≡ take 1024 all)
      → OnOk r (PrintsWorked before after) → OnOk r (IfSome rest (λ all. PrintsInput all before after))
  no_input rest (Err e) z f p = tt
  no_input None (Ok u) z f p = tt
  no_input (Some []) (Ok u) z f p = p
  no_input (Some (b ∷ bs)) (Ok u) z f p = let nothing : [] ≡ b ∷ take 1023 bs = ap (λ (m : ℕ). take m bytes) (sym z) ∙ f in absurd (cc)

  -- what was read is what the reader held first
  pub some_input : (rest : Option (List ℕ)) (r : Result (Unit {0}) E) → n ≢ 0 → n ≤ length bytes → IfSome rest (λ all. take n bytes ≡ take 1024 all)
      → OnOk r (Prints (call_in (take n bytes)) before after) → OnOk r (IfSome rest (λ all. PrintsInput all before after))
  some_input rest (Err e) z within f p = tt
  some_input None (Ok u) z within f p = tt
  some_input (Some []) (Ok u) z within f p = absurd (z (sym (length-take-le n bytes within) ∙ ap length f))
  some_input (Some (b ∷ bs)) (Ok u) z within f p = subst (λ (l : List ℕ). Prints (call_in l) before after) f p
