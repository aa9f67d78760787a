use Rattle.std.proofs.Common.{◌≡◌}
use Rattle.std.specs.List.{flat_map}
use Rattle.plane.specs.Centred.{centred}
use Rattle.squares.specs.Book.{Keeps}
use Rattle.pattern_picture.specs.Shades.{row_shades}
use Rattle.viewport.specs.Picture.{coordinates}
use Rattle.viewport.specs.Population.{AreCounts}
use Rattle.pattern_picture.proofs.shades.block_shades.Given as goal

abbrev pub invariant-loop-step : goal.invariant-loop-step
invariant-loop-step g l =
    (l.shades.items ≡ flat_map (row_shades (centred l.sq.level ((g.L.Look.book l.look).cells l.sq)) l.blocks) (coordinates l.blocks.top l.step))
    × Keeps (g.L.Look.book l.look) (g.L.Look.book l.from.0.now)
    × AreCounts (g.L.Look.book l.from.0.now) l.counts
