use Rattle.std.proofs.Common.{sym, ◌∙◌}
use Rattle.std.proofs.lemmas.Bool.{false≢true}
use Rattle.squares.specs.Book.{nth}
use Rattle.pattern_writers.proofs.RootParts.{bordered_holds, holds_bordered, inner_root, parts_of}
use Rattle.pattern_writers.proofs.mc_text.root.Root.inner.Goals as goal

pub returns-then-not-has_empty_border-clause-none : goal.returns-then-not-has_empty_border-clause-none
returns-then-not-has_empty_border-clause-none g c =
    let book = g.B.Look.book c.args.book.now in
    let laws = g.met.B.Look.is_book c.args.book.now in
    λ plane has held.
    let in_a = parts_of book laws _ _ (nth c.args.self.quarters 0) c.parts-nw.result has.quarters.nw c.parts-nw.ensures in
    let in_b = parts_of book laws _ _ (nth c.args.self.quarters 1) c.parts-ne.result has.quarters.ne c.parts-ne.ensures in
    let in_c = parts_of book laws _ _ (nth c.args.self.quarters 2) c.parts-sw.result has.quarters.sw c.parts-sw.ensures in
    let in_d = parts_of book laws _ _ (nth c.args.self.quarters 3) c.parts-se.result has.quarters.se c.parts-se.ensures in
    false≢true (sym c.if-not-has_empty_border.true
    ∙ c.has_empty_border.ensures.1 (holds_bordered book laws plane c.args.self c.parts-nw.result c.parts-ne.result c.parts-sw.result c.parts-se.result c.requires.level has in_a in_b in_c in_d held))

pub returns-clause-inner : goal.returns-clause-inner
returns-clause-inner g c =
    let book = g.B.Look.book c.args.book.now in
    let laws = g.met.B.Look.is_book c.args.book.now in
    λ plane has.
    let in_a = parts_of book laws _ _ (nth c.args.self.quarters 0) c.parts-nw.result has.quarters.nw c.parts-nw.ensures in
    let in_b = parts_of book laws _ _ (nth c.args.self.quarters 1) c.parts-ne.result has.quarters.ne c.parts-ne.ensures in
    let in_c = parts_of book laws _ _ (nth c.args.self.quarters 2) c.parts-sw.result has.quarters.sw c.parts-sw.ensures in
    let in_d = parts_of book laws _ _ (nth c.args.self.quarters 3) c.parts-se.result has.quarters.se c.parts-se.ensures in
    inner_root book laws plane c.args.self c.parts-nw.result c.parts-ne.result c.parts-sw.result c.parts-se.result c.requires.level has in_a in_b in_c in_d
    (bordered_holds book laws plane c.args.self c.parts-nw.result c.parts-ne.result c.parts-sw.result c.parts-se.result c.requires.level has in_a in_b in_c in_d (c.has_empty_border.ensures.0 c.if-not-has_empty_border.false))
