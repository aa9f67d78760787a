use Rattle.std.proofs.Common.{◌≡◌, ◌*◌, ◌^◌, ◌≤◌, pos, length}
use Rattle.plane.specs.Square.{bits_plane}
use Rattle.plane.specs.Window.{cells_in}
use Rattle.viewport.proofs.block_spans.count_in_leaf.Given as goal

abbrev pub invariant-loop-step : goal.invariant-loop-step
invariant-loop-step l =
    (l.sum ≡ length (cells_in (pos (l.column * 2 ^ l.exponent)) (pos (l.row * 2 ^ l.exponent)) (2 ^ l.exponent) l.step (bits_plane l.word))) × (l.sum ≤ 64 * l.step)
