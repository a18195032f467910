-- `read_full`: what was read stands at the start of the bytes. Assumes nothing.
use Rattle.std.proofs.Common.{◌≡◌, ℕ, ◌+◌, ◌-◌, ◌≤◌, List, ◌++◌, rules, length, take, drop, sym, ap, ◌∙◌, subst, le_refl, drop_at, length-take-le}
use Rattle.std.proofs.lemmas.Slice.{take-put_mid_below}
use Rattle.std.specs.Io.KnownBytes.{Consumes}
use Rattle.std.proofs.KnownBytes.{Consumes-trans}
use borrow.Rule.Slice.PartMut.{put_mid, post_of}
use lib.Seq.{take-add, take-append-le}
use Rattle.listing.proofs.read_full.Goals as goal

-- the first a + n after a write at a: the first a of xs, then the first n of what was written
take_more : (a k n : ℕ) (xs ys : List ℕ) → a ≤ length xs → n ≤ length ys → take (a + n) (put_mid a k xs ys) ≡ take a xs ++ take n ys
take_more a k n xs ys within fits =
    let after = post_of a k xs in
    let written = put_mid a k xs ys in
    take-add a n written
    ∙ ap (λ l. l ++ take n (drop a written)) (take-put_mid_below a k xs ys a (le_refl a) within)
    ∙ ap (λ l. take a xs ++ take n l) (drop_at (take a xs) (ys ++ after) a (length-take-le a xs within))
    ∙ ap (λ l. take a xs ++ l) (take-append-le n ys after fits)

pub loop-done-preserved : goal.loop-done-preserved
loop-done-preserved g c =
    let at = c.loop-done.done in
    let bytes = c.loop-done.bytes in
    let more : take (at + c.in_ok-n.n) (put_mid at (length bytes - at) bytes c.read.new.buf) ≡ take at bytes ++ take c.in_ok-n.n c.read.new.buf =
    take_more _ _ _ _ _ c.loop-done.invariant.within c.in_ok-n.ensures.bound.0 in
    record {
      within = search rules;
      consumed = subst (Consumes _ _) (sym more) (Consumes-trans _ _ _ _ _ c.loop-done.invariant.consumed c.in_ok-n.ensures.bytes.0);
    }
