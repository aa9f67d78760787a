use Rattle.std.proofs.Common.{pos, ◌+ℤ◌, ◌-ℤ◌, arith, rules, w64, SFits}
use Rattle.std.proofs.lemmas.Int.{to_z-of_z, ints}
use Rattle.viewport.proofs.Beside.{beside_by}
use Rattle.viewport.proofs.blocks.columns_beside.Goals as goal

pub returns : goal.returns
returns c =
    let left : SFits w64 c.args.left = search rules in
    let half : SFits w64 c.args.half = search rules in
    let wide : SFits w64 c.from.result = search rules in
    let back : SFits w64 (pos 0 -ℤ c.args.half) = omega (arith, ints) in
    let end : SFits w64 (c.args.left +ℤ c.from.result) = omega (arith, ints) in
    let a : SFits w64 c.min.result = search rules in
    let b : SFits w64 c.min-2.result = search rules in
    let d : SFits w64 c.clamp.result = search rules in
    let e : SFits w64 c.clamp-2.result = search rules in
    let f : SFits w64 c.max.result = search rules in
    let g : SFits w64 c.max-2.result = search rules in
    beside_by c.args.left c.args.width c.args.half _ _ _ _ _ _ _ _ _ _ c.requires.low
    (simp to_z-of_z at c.min.ensures.value) (simp c.from.ensures at (simp to_z-of_z at c.min-2.ensures.value))
    (simp to_z-of_z at c.clamp.ensures.value) (simp c.from.ensures at (simp to_z-of_z at c.clamp-2.ensures.value))
    (simp to_z-of_z at c.max.ensures.value) (simp c.from.ensures at (simp to_z-of_z at c.max-2.ensures.value))
    (simp to_z-of_z at c.abs_diff.ensures) (simp to_z-of_z at c.abs_diff-2.ensures) (simp to_z-of_z at c.abs_diff-3.ensures) (simp to_z-of_z at c.abs_diff-4.ensures)
