use Rattle.std.proofs.Common.{◌≡◌, ℕ, ◌+◌, ◌*◌, ◌^◌, ◌<◌, ◌≤◌, pos, length, pow_mono, sym, ap, ◌∙◌, arith}
use Rattle.std.proofs.lemmas.Nat.{one_shl, pow_pos}
use Rattle.plane.specs.Square.{bits_plane}
use Rattle.plane.specs.Window.{cells_in}
use Rattle.viewport.proofs.BlocksOfPlanes.{block_at}
use Rattle.viewport.proofs.LeafBlocks.{block_fits, masked_few, no_rows, row_more}
use Rattle.viewport.proofs.block_spans.count_in_leaf.Goals as goal

small : (e : ℕ) → e < 3 → 2 ^ e < 64
small e low = let most : 2 ^ e ≤ 2 ^ 2 = pow_mono {i = e} {j = 2} (omega arith) in omega (arith, most)

pub overflow_shl-mask : goal.overflow_shl-mask
overflow_shl-mask c = let side = c.side-side.ensures in let few = small c.args.exponent c.requires.exponent in omega (arith, side, few)

pub overflow_sub-mask : goal.overflow_sub-mask
overflow_sub-mask c =
    let side = c.side-side.ensures in let few = small c.args.exponent c.requires.exponent in
    let shift = one_shl c.side-side.result 64 (omega (arith, side, few)) in
    let some = pow_pos c.side-side.result in omega (arith, shift, some)

pub loop-step-init : goal.loop-step-init
loop-step-init c = (no_rows c.args.word (c.args.column * 2 ^ c.args.exponent) (c.args.row * 2 ^ c.args.exponent) (2 ^ c.args.exponent), omega arith)

pub overflow_shr-sum : goal.overflow_shr-sum
overflow_shr-sum c =
    let side = c.side-side.ensures in
    let row = block_fits c.args.exponent c.args.row c.requires.exponent c.requires.row in
    let column = block_fits c.args.exponent c.args.column c.requires.exponent c.requires.column in
    let step : c.loop-step.step < 2 ^ c.args.exponent = omega (arith, side) in
    rw side (omega (arith, row, column, step))

pub loop-step-preserved : goal.loop-step-preserved
loop-step-preserved c =
    let side = c.side-side.ensures in let few = small c.args.exponent c.requires.exponent in
    let shift = one_shl c.side-side.result 64 (omega (arith, side, few)) in
    let row = block_fits c.args.exponent c.args.row c.requires.exponent c.requires.row in
    let column = block_fits c.args.exponent c.args.column c.requires.exponent c.requires.column in
    let step : c.loop-step.step < 2 ^ c.args.exponent = omega (arith, side) in
    let most = masked_few c.args.word (8 * (c.args.row * 2 ^ c.args.exponent + c.loop-step.step) + c.args.column * 2 ^ c.args.exponent) (2 ^ c.args.exponent) in
    let before = c.loop-step.invariant.1 in (
      rw (shift, side) (row_more c.args.word (c.args.column * 2 ^ c.args.exponent) (c.args.row * 2 ^ c.args.exponent) (2 ^ c.args.exponent) c.loop-step.step c.loop-step.sum
          (omega (arith, column)) (omega (arith, row, step)) c.loop-step.invariant.0),
      rw (shift, side) (omega (arith, most, before, few)),
    )

pub returns : goal.returns
returns c =
    let side = c.side-side.ensures in
    let all : c.loop-step.step ≡ 2 ^ c.args.exponent = omega (arith, side) in
    c.loop-step.invariant.0
    ∙ ap (λ n. length (cells_in (pos (c.args.column * 2 ^ c.args.exponent)) (pos (c.args.row * 2 ^ c.args.exponent)) (2 ^ c.args.exponent) n (bits_plane c.args.word))) all
    ∙ sym (block_at (bits_plane c.args.word) c.args.exponent c.args.column c.args.row)
