use Rattle.std.proofs.Common.{◌+ℤ◌, rules, w64, SFits}
use Rattle.std.proofs.lemmas.Int.{to_z-of_z}
use Rattle.viewport.specs.BoundingBox.{FitsMoved}
use Rattle.viewport.proofs.boxes.shift.Goals as goal

pub returns : goal.returns
returns c =
    let room : FitsMoved c.args.right c.args.down c.in_ok-bounds.bounds = c.requires c.in_ok-bounds.bounds c.in_ok-bounds.was in
    let left : SFits w64 (c.in_ok-bounds.bounds.left +ℤ c.args.right) = room.at_left in
    let top : SFits w64 (c.in_ok-bounds.bounds.top +ℤ c.args.down) = room.at_top in
    let right : SFits w64 (c.in_ok-bounds.bounds.right +ℤ c.args.right) = room.at_right in
    let bottom : SFits w64 (c.in_ok-bounds.bounds.bottom +ℤ c.args.down) = room.at_bottom in
    let b_left : SFits w64 c.in_ok-bounds.bounds.left = search rules in
    let b_top : SFits w64 c.in_ok-bounds.bounds.top = search rules in
    let b_right : SFits w64 c.in_ok-bounds.bounds.right = search rules in
    let b_bottom : SFits w64 c.in_ok-bounds.bounds.bottom = search rules in
    let r : SFits w64 c.args.right = search rules in
    let d : SFits w64 c.args.down = search rules in
    rw c.in_ok-bounds.was (simp to_z-of_z)

pub overflow_add-result : goal.overflow_add-result
overflow_add-result c =
    let room : FitsMoved c.args.right c.args.down c.in_ok-bounds.bounds = c.requires c.in_ok-bounds.bounds c.in_ok-bounds.was in
    let b : SFits w64 c.in_ok-bounds.bounds.left = search rules in
    let far : SFits w64 c.args.right = search rules in
    simp to_z-of_z room.at_left

pub overflow_add-result-2 : goal.overflow_add-result-2
overflow_add-result-2 c =
    let room : FitsMoved c.args.right c.args.down c.in_ok-bounds.bounds = c.requires c.in_ok-bounds.bounds c.in_ok-bounds.was in
    let b : SFits w64 c.in_ok-bounds.bounds.top = search rules in
    let far : SFits w64 c.args.down = search rules in
    simp to_z-of_z room.at_top

pub overflow_add-result-3 : goal.overflow_add-result-3
overflow_add-result-3 c =
    let room : FitsMoved c.args.right c.args.down c.in_ok-bounds.bounds = c.requires c.in_ok-bounds.bounds c.in_ok-bounds.was in
    let b : SFits w64 c.in_ok-bounds.bounds.right = search rules in
    let far : SFits w64 c.args.right = search rules in
    simp to_z-of_z room.at_right

pub overflow_add-result-4 : goal.overflow_add-result-4
overflow_add-result-4 c =
    let room : FitsMoved c.args.right c.args.down c.in_ok-bounds.bounds = c.requires c.in_ok-bounds.bounds c.in_ok-bounds.was in
    let b : SFits w64 c.in_ok-bounds.bounds.bottom = search rules in
    let far : SFits w64 c.args.down = search rules in
    simp to_z-of_z room.at_bottom
