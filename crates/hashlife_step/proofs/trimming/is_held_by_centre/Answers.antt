use Rattle.squares.proofs.Kept.{adds_trans, keeps_trans, same_later}
use Rattle.hashlife_step.proofs.EmptyBorders.{bordered_holds, holds_bordered, quarters_as}
use Rattle.hashlife_step.proofs.trimming.is_held_by_centre.Goals as goal

pub returns-clause-value : goal.returns-clause-value
returns-clause-value g c =
    let book = g.S.Squares.book in
    let law = g.met.S.Squares.is_book in
    let sq = c.args.sq in
    let plane = (book c.args.book.now).cells sq in
    let square = (law c.args.book.now).square sq c.requires.known.known in
    let parts = c.read_parts.ensures.value in
    let k2 = c.read_parts-nw.ensures.adds.keeps in let k3 = c.read_parts-ne.ensures.adds.keeps in let k4 = c.read_parts-sw.ensures.adds.keeps in
    let in_a = quarters_as (book c.read_parts-nw.new.self) _ _ _ _ c.read_parts-nw.result parts.nw.known.at_level parts.nw.cells c.read_parts-nw.ensures.value in
    let in_b = quarters_as (book c.read_parts-ne.new.self) _ _ _ _ c.read_parts-ne.result parts.ne.known.at_level (same_later k2 parts.ne) c.read_parts-ne.ensures.value in
    let in_c = quarters_as (book c.read_parts-sw.new.self) _ _ _ _ c.read_parts-sw.result parts.sw.known.at_level (same_later (keeps_trans k2 k3) parts.sw) c.read_parts-sw.ensures.value in
    let in_d = quarters_as (book c.read_parts-se.new.self) _ _ _ _ c.read_parts-se.result parts.se.known.at_level (same_later (keeps_trans k2 (keeps_trans k3 k4)) parts.se) c.read_parts-se.ensures.value in
    let to = bordered_holds sq.level plane _ _ _ _ _ _ _ _ c.requires.low square (law c.read_parts-nw.new.self) (law c.read_parts-ne.new.self) (law c.read_parts-sw.new.self) (law c.read_parts-se.new.self) in_a in_b in_c in_d in
    let from = holds_bordered sq.level plane _ _ _ _ _ _ _ _ c.requires.low square (law c.read_parts-nw.new.self) (law c.read_parts-ne.new.self) (law c.read_parts-sw.new.self) (law c.read_parts-se.new.self) in_a in_b in_c in_d in
    (λ yes. to (c.has_empty_border.ensures.0 yes), λ held. c.has_empty_border.ensures.1 (from held))

pub returns-clause-adds : goal.returns-clause-adds
returns-clause-adds g c =
    adds_trans c.read_parts.ensures.adds (adds_trans c.read_parts-nw.ensures.adds (adds_trans c.read_parts-ne.ensures.adds (adds_trans c.read_parts-sw.ensures.adds c.read_parts-se.ensures.adds)))
