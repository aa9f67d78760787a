use Rattle.std.proofs.Common.{◌≡◌}
use Rattle.std.specs.Io.KnownBytes.{Appends}
use Rattle.std.specs.List.{flat_map}
use Rattle.plane.specs.Centred.{centred}
use Rattle.viewport.specs.Picture.{coordinates, row_text}
use Rattle.viewport.proofs.pictures.picture.Given as goal

abbrev pub invariant-loop-row : goal.invariant-loop-row
invariant-loop-row g l =
    (g.W.Sink.failure_count l.sink ≡ g.W.Sink.failure_count l.fn.sink)
    × Appends (g.W.Sink.taken l.fn.sink) (g.W.Sink.taken l.sink)
    (flat_map (λ z. row_text (centred l.sq.level ((g.B.Look.book l.book).cells l.sq)) z l.window.x l.window.width) (coordinates l.window.y l.row))
