-- Request b, "Say why a move is not allowed": "The move test shall give a reason", with respect to a set K of configurations.
-- Assumes nothing. Proved: where a move is allowed none of the six reasons against it applies, and no two reasons are the lowest (allowed_none,
-- one_reason, proofs/Reasons.antt); where none of the six applies it is allowed, and there is always a reason (none_allowed, some_reason,
-- proofs/Tools/Reasoned.antt, of sets of which a test says who is a member).
use Rattle.std.specs.Prelude.{Bool, not, ℕ, ◌<◌, T}
use Rattle.format.specs.declared.Row.{Row}
use Rattle.rules.specs.declared.Conf.{Conf}
use Rattle.rules.specs.declared.Pair.{Pair}
use Rattle.rules.specs.declared.Reason.{Reason}
use Rattle.rules.specs.declared.Reason.TheVariants.{Allowed, NotKept, NoWriterRow, NoReaderRow, Overflows, Underflows, LandsOutside}
use Rattle.rules.specs.Numbers.{reason_number}
use Rattle.rules.specs.Configurations.{May, has_room, has_stock, after, Outcome}
use Rattle.rules.specs.Sets.{AllowedIn}

-- an outcome overflows if there is no room for what is written, and underflows if what is taken is not there, by the rule of the pair
module _ (X : Pair) (level : ℕ) (w r : Row) where
  abbrev pub overflows : Bool
  overflows = not (has_room X.rule X.bound level w.item r.item)

  abbrev pub underflows : Bool
  underflows = not (has_stock X.rule level w.item r.item)

-- the move x.y has an outcome that fails so, whichever of its outcomes it is
pub record SomeOutcome (X : Pair) (c : Conf) (x y : ℕ) (Fails : Row → Row → Type 0) : Type 0 where
  pub w : Row
  pub r : Row
  pub outcome : Outcome X c x y w r
  pub fails : Fails w r

module _ (X : Pair) (K : Conf → Type 0) (c : Conf) (x y : ℕ) where
  abbrev pub Applies : Reason → Type 0
  Applies Allowed = AllowedIn X K c x y
  Applies NotKept = ¬ K c
  Applies NoWriterRow = ¬ ((w : Row) × May X.writer c.writer x w)
  Applies NoReaderRow = ¬ ((r : Row) × May X.reader c.reader y r)
  Applies Overflows = SomeOutcome X c x y (λ w r. T (overflows X c.level w r))
  Applies Underflows = SomeOutcome X c x y (λ w r. T (underflows X c.level w r))
  -- (where an outcome underflows, and `after` means nothing, 5 comes first)
  Applies LandsOutside = SomeOutcome X c x y (λ w r. ¬ K (after c w r))

  -- "the lowest that applies"
  pub record ReasonIs (reason : Reason) : Type 0 where
    pub applies : Applies reason
    pub lowest : (lower : Reason) → reason_number lower < reason_number reason → ¬ Applies lower
