-- `lines::put_moves` meets its contract: with m bits looked at, the moves of the bits below m stand there. Assumes nothing.
use mathlib.Core.Path.{◌≡◌}
use lib.ListN.{length}
use Rattle.texts.specs.Text.{moves_below}
use Rattle.put.specs.Piece.{Put}
use Rattle.lines.proofs.put_moves.Given as goal

abbrev pub invariant-loop-m : goal.invariant-loop-m
invariant-loop-m l =
    (length l.out ≡ length l.initial.out) × Put (moves_below l.set l.m) l.at l.initial.out l.next l.out
