use Rattle.std.proofs.Common.{◌-◌, ◌^◌, pos, ◌+ℤ◌, sym, ap, ◌∙◌, w64, SFits}
use Rattle.std.proofs.lemmas.Int.{to_z-of_z}
use Rattle.viewport.proofs.Quarters.{dead_column, dead_row, known_square}
use Rattle.viewport.proofs.pictures.is_live.Goals as goal

pub returns-in_default : goal.returns-in_default
returns-in_default g c =
    let book = g.B.Look.book c.args.book.now in
    let x : SFits w64 c.args.x = c.ranges.x in
    let square = known_square book c.args.sq.level c.args.sq (g.met.B.Look.is_book c.args.book.now) c.requires.known in
    sym (dead_column (2 ^ c.args.sq.level) (book.cells c.args.sq) square _ _ (simp to_z-of_z at c.in_default.ensures))

pub returns-in_default-offset_in : goal.returns-in_default-offset_in
returns-in_default-offset_in g c =
    let book = g.B.Look.book c.args.book.now in
    let y : SFits w64 c.args.y = c.ranges.y in
    let square = known_square book c.args.sq.level c.args.sq (g.met.B.Look.is_book c.args.book.now) c.requires.known in
    sym (dead_row (2 ^ c.args.sq.level) (book.cells c.args.sq) square _ _ (simp to_z-of_z at c.in_default-offset_in.ensures))

pub returns : goal.returns
returns g c =
    let book = g.B.Look.book c.args.book.now in
    let x : SFits w64 c.args.x = c.ranges.x in
    let y : SFits w64 c.args.y = c.ranges.y in
    let column = simp to_z-of_z at c.in-Some.ensures.0 in
    let row = simp to_z-of_z at c.in-Some-offset_in.ensures.0 in
    c.has_cell.ensures ∙ ap (λ z. book.cells c.args.sq z (pos c.in-Some-offset_in.row)) column ∙ ap (book.cells c.args.sq (c.args.x +ℤ pos (2 ^ (c.args.sq.level - 1)))) row
