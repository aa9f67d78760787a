use Rattle.std.proofs.Common.{◌≡◌, pos, ◌+ℤ◌, take}
use Rattle.std.specs.List.{flat_map}
use Rattle.plane.specs.Centred.{centred}
use Rattle.viewport.specs.Picture.{coordinates, mark_of}
use Rattle.viewport.proofs.pictures.draw_row.Given as goal

abbrev pub invariant-loop-column : goal.invariant-loop-column
invariant-loop-column g l =
    take l.column l.line ≡ flat_map (λ z. mark_of (centred l.sq.level ((g.B.Look.book l.book).cells l.sq) z (l.window.y +ℤ pos l.row))) (coordinates l.window.x l.column)
