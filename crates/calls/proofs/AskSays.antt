-- What ask returns, over the rules: bit 8x + y of its set says whether the move x.y is allowed with respect to the set of bytes that are 1, its
-- count is the number of such moves, and its lowest is the first of them. Assumes nothing.
use Prim.Native.Nat.{ℕ, ◌/◌, ◌%◌, ◌^◌, ◌<◌}
use mathlib.Core.Path.{◌≡◌, refl, sym, ap, ◌∙◌, subst}
use mathlib.Core.Logic.{◌↔◌}
use mathlib.Core.Bool.{Bool}
use mathlib.Core.List.{List}
use lib.Dec.{T}
use lib.Count.{ones, count_trailing_zeros}
use Rattle.lists.specs.Lists.{tab, count}
use Rattle.lists.specs.Search.{first}
use Rattle.lists.proofs.Bools.{is_true, true_is, same_test}
use Rattle.lists.specs.Bits.{number}
use Rattle.lists.proofs.Bits.{number_same, number_ones, number_lowest}
use Rattle.format.specs.Verdicts.{Fine, verdict_of}
use Rattle.format.proofs.Verdicts.{fine_front, fine_goes_on, given_verdict}
use Rattle.rules.specs.declared.Pair.{Pair}
use Rattle.rules.specs.declared.Conf.{Conf}
use Rattle.rules.specs.Configurations.{move_of}
use Rattle.rules.specs.Sets.{AllowedIn}
use Rattle.rules.specs.Kept.{KeptAt}
use Rattle.rules.proofs.Tools.Reasoned.{allowed_test_lem}
use Rattle.calls.specs.declared.Asked.{Asked}
use Rattle.calls.specs.Call.{Call, pair_of}
use Rattle.calls.specs.Refusals.{enter_checks}
use Rattle.calls.specs.Ask.{is_allowed, move_set, answered, unanswered, asks_checks, ask_checks, ask_of}
use Rattle.calls.specs.Past.{Askable}
use Rattle.calls.proofs.Silent.{enter_known, ask_known}
use Rattle.calls.proofs.Asking.{set_bit, set_below, ask_done}

module _ (k : Call) (bytes : List ℕ) (c : Conf) (done : (ask_of k bytes c).verdict ≡ Fine) where
  abbrev X : Pair
  X = pair_of k

  all_fine : verdict_of (ask_checks k bytes c) ≡ Fine
  unfolding ask_of
  all_fine = sym (given_verdict (λ (a : Asked). a.verdict) unanswered (answered (move_set X bytes c)) (λ v. refl) refl (verdict_of (ask_checks k bytes c))) ∙ done

  enter_fine : verdict_of (enter_checks k) ≡ Fine
  enter_fine = fine_front (enter_checks k) (asks_checks X bytes c) all_fine

  able : Askable X bytes c
  able = ask_known X bytes c (enter_known k enter_fine) (fine_goes_on (enter_checks k) (asks_checks X bytes c) enter_fine ∙ all_fine)

  set_is : answered (move_set X bytes c) ≡ ask_of k bytes c
  set_is = ask_done k bytes c enter_fine able

  -- "the allowed moves at a configuration as a 64-bit set, bit 8x + y"
  pub ask_bit : (x y : ℕ) → x < 8 → y < 8 → ((ask_of k bytes c).set / 2 ^ move_of x y % 2 ≡ 1) ↔ AllowedIn X (KeptAt X bytes) c x y
  ask_bit x y hx hy =
      subst (λ (a : Asked). (a.set / 2 ^ move_of x y % 2 ≡ 1) ↔ AllowedIn X (KeptAt X bytes) c x y) set_is
      (set_bit X able.good bytes able.within x y hx hy)

  pub ask_below : (ask_of k bytes c).set < 2 ^ 64
  ask_below = subst (λ (a : Asked). a.set < 2 ^ 64) set_is (set_below X bytes c)

  -- f says of each move 8x + y whether it is allowed
  abbrev pub Decides : (ℕ → Bool) → Type 0
  Decides f = (m : ℕ) → m < 64 → T (f m) ↔ AllowedIn X (KeptAt X bytes) c (m / 8) (m % 8)

  module _ (f : ℕ → Bool) (decides : Decides f) where
    same_set : number (is_allowed X bytes c) 64 ≡ number f 64
    same_set = number_same (is_allowed X bytes c) f 64 (λ m h.
        let a = allowed_test_lem X able.good able.within (m / 8) (m % 8) bytes in
        same_test _ _
        (λ t. is_true (f m) ((decides m h).1 (a.0 (true_is _ t))))
        (λ t. is_true _ (a.1 ((decides m h).0 (true_is (f m) t)))))

    -- "with their count"
    pub ask_count : (ask_of k bytes c).count ≡ count (tab f 64)
    unfolding move_set
    ask_count = sym (ap (λ (a : Asked). a.count) set_is) ∙ ap ones same_set ∙ number_ones f 64

    -- "and the lowest set bit's number (64 if none)"
    pub ask_lowest : (ask_of k bytes c).lowest ≡ first f 64
    unfolding move_set
    ask_lowest = sym (ap (λ (a : Asked). a.lowest) set_is) ∙ ap (count_trailing_zeros 64) same_set ∙ number_lowest f 64
