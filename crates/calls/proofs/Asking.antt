-- The set of moves over the rules: its bits are the allowed moves. Assumes nothing.
use Prim.Native.Nat.{ℕ, ◌/◌, ◌%◌, ◌^◌, ◌<◌}
use native.Mathlib.Omega.{arith}
use mathlib.Core.Path.{◌≡◌, sym, ◌∙◌, subst}
use mathlib.Core.Logic.{◌↔◌}
use mathlib.Core.List.{List}
use lib.Dec.{T}
use lib.Count.{ones, count_trailing_zeros}
use Rattle.lists.specs.Lists.{tab, count}
use Rattle.lists.specs.Search.{first}
use Rattle.lists.proofs.Bits.{number_bit, number_below, number_ones, number_lowest}
use Rattle.format.specs.Verdicts.{Fine, verdict_of}
use Rattle.format.proofs.Verdicts.{then_decides, given_fine}
use Rattle.rules.specs.declared.Pair.{Pair}
use Rattle.rules.specs.declared.Conf.{Conf}
use Rattle.rules.specs.Configurations.{GoodPair, Within, move_of}
use Rattle.rules.specs.Sets.{AllowedIn}
use Rattle.rules.specs.Kept.{KeptAt}
use Rattle.rules.specs.Tools.Computed.{allowed_test}
use Rattle.rules.proofs.Places.{move_x, move_y}
use Rattle.rules.proofs.Tools.Reasoned.{allowed_test_lem}
use Rattle.calls.specs.Call.{Call, pair_of}
use Rattle.calls.specs.Refusals.{enter_checks}
use Rattle.calls.specs.Ask.{is_allowed, move_set, answered, unanswered, asks_checks, ask_of}
use Rattle.calls.specs.Past.{Askable}
use Rattle.calls.proofs.Silent.{ask_silent}

-- ---- what the set says

module _ (X : Pair) (g : GoodPair X) (k : List ℕ) {c : Conf} (i : Within X c) where
  -- bit 8x + y is set exactly if the move is allowed with respect to the set of bytes that are 1
  pub set_bit : (x y : ℕ) → x < 8 → y < 8 → (move_set X k c / 2 ^ move_of x y % 2 ≡ 1) ↔ AllowedIn X (KeptAt X k) c x y
  unfolding move_set
  set_bit x y hx hy =
      let d = number_bit (is_allowed X k c) 64 (move_of x y) (omega arith) in
      let e : is_allowed X k c (move_of x y) ≡ allowed_test X k c x y = rw (sym (move_x x hy), sym (move_y x hy)) in
      let a = allowed_test_lem X g i x y k in
      (λ q. a.0 (subst T e (d.0 q)), λ q. d.1 (subst T (sym e) (a.1 q)))

-- it has no other bits, its ones are as many as there are allowed moves, and its lowest bit is the first allowed move
module _ (X : Pair) (k : List ℕ) (c : Conf) where
  pub set_below : move_set X k c < 2 ^ 64
  unfolding move_set
  set_below = number_below (is_allowed X k c) 64

  pub set_ones : ones (move_set X k c) ≡ count (tab (is_allowed X k c) 64)
  unfolding move_set
  set_ones = number_ones (is_allowed X k c) 64

  pub set_lowest : count_trailing_zeros 64 (move_set X k c) ≡ first (is_allowed X k c) 64
  unfolding move_set
  set_lowest = number_lowest (is_allowed X k c) 64

-- ---- a call that nothing refuses

pub ask_done : (k : Call) (bytes : List ℕ) (c : Conf) → verdict_of (enter_checks k) ≡ Fine → Askable (pair_of k) bytes c
    → answered (move_set (pair_of k) bytes c) ≡ ask_of k bytes c
unfolding ask_of
ask_done k bytes c fine able =
    let X : Pair = pair_of k in
    let set = answered (move_set X bytes c) in
    given_fine unanswered set (ask_silent X bytes c able) ∙ then_decides unanswered set (enter_checks k) (asks_checks X bytes c) fine
