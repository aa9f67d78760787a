use Rattle.std.proofs.Common.{rules, w64, SFits}
use Rattle.std.proofs.lemmas.Int.{to_z-of_z}
use Rattle.plane.proofs.cell.Bounds.union.Goals as goal

pub returns : goal.returns
returns c =
    let left : SFits w64 c.min.result = search rules in
    let top : SFits w64 c.min-2.result = search rules in
    let right : SFits w64 c.max.result = search rules in
    let bottom : SFits w64 c.max-2.result = search rules in
    let own_left : SFits w64 c.args.self.left = search rules in
    let own_top : SFits w64 c.args.self.top = search rules in
    let own_right : SFits w64 c.args.self.right = search rules in
    let own_bottom : SFits w64 c.args.self.bottom = search rules in
    let other_left : SFits w64 c.args.other.left = search rules in
    let other_top : SFits w64 c.args.other.top = search rules in
    let other_right : SFits w64 c.args.other.right = search rules in
    let other_bottom : SFits w64 c.args.other.bottom = search rules in
    let left_is = simp to_z-of_z at c.min.ensures.value in
    let top_is = simp to_z-of_z at c.min-2.ensures.value in
    let right_is = simp to_z-of_z at c.max.ensures.value in
    let bottom_is = simp to_z-of_z at c.max-2.ensures.value in
    simp to_z-of_z (cc (left_is, top_is, right_is, bottom_is))
