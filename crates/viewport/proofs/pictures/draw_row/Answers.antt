use Rattle.std.proofs.Common.{◌≡◌, ℤ, List, [], ◌∷◌, ℕ, pos, ◌+ℤ◌, sym, slice_set, ap, ◌∙◌, arith, rules, w64, SFits}
use Rattle.std.proofs.lemmas.Int.{to_z-of_z}
use Rattle.plane.specs.Centred.{centred}
use Rattle.plane.specs.Plane.{Plane}
use Rattle.viewport.specs.Picture.{mark_of}
use Rattle.viewport.proofs.PictureLines.{ended, marked, none_drawn}
use Rattle.viewport.proofs.pictures.draw_row.Goals as goal

pub loop-column-init : goal.loop-column-init
loop-column-init g c = sym (none_drawn _ _)

pub loop-column-preserved : goal.loop-column-preserved
loop-column-preserved g c =
    let plane : Plane = centred c.args.sq.level ((g.B.Look.book c.args.book.now).cells c.args.sq) in
    let window = c.args.window.now in
    let n = c.loop-column.column in
    let draw : ℤ → List ℕ = λ z. mark_of (plane z (window.y +ℤ pos c.args.row)) in
    let left : SFits w64 c.x.result = search rules in
    let on : SFits w64 c.from-in-loop-column.result = search rules in
    let top : SFits w64 c.y.result = search rules in
    let down : SFits w64 c.from.result = search rules in
    let x : SFits w64 (c.x.result +ℤ c.from-in-loop-column.result) = search rules in
    let y : SFits w64 (c.y.result +ℤ c.from.result) = search rules in
    let seen = simp (c.x.ensures.value, c.from-in-loop-column.ensures, c.y.ensures.value, c.from.ensures) at (simp to_z-of_z at c.is_live.ensures) in
    let mark_is : c.mark.result ∷ [] ≡ draw (window.x +ℤ pos n) = c.mark.ensures ∙ ap mark_of seen in
    marked draw window.x c.loop-column.line n c.mark.result (omega (arith, c.loop-column.auto.line)) c.loop-column.invariant mark_is

pub returns : goal.returns
returns g c =
    let width : c.width.result ≡ c.args.window.now.width = c.width.ensures.value in
    let all : c.loop-column.column ≡ c.width.result = omega arith in
    ap (λ n. slice_set c.loop-column.line n 10) width
    ∙ ended c.loop-column.line _ c.args.window.now.width 10 (omega (arith, c.loop-column.auto.line)) (rw (all ∙ width) at c.loop-column.invariant)
