use Rattle.std.proofs.Common.{◌+◌, ◌*◌, ◌<◌, refl, ap, ◌∙◌, arith, w8}
use Rattle.std.proofs.lemmas.Simd.{get_or_wider, below_from_Fits, Each1-chunk, length-chunk, get_or-chunk}
use lib.Lanes.{chunk}
use Rattle.plane.specs.Square.{bit}
use Rattle.plane.proofs.WordBytes.{bit-number}
use Rattle.leaf_kernels.proofs.leaves.words_of_bytes.Goals as goal

pub returns : goal.returns
returns c column place row g h k =
    let small = below_from_Fits w8 c.args.bytes c.fits-bytes.1 in
    let long = length-chunk (8 * row) 8 c.args.bytes (omega arith) in
    ap (λ n. bit n (8 * column + place)) (get_or_wider 256 8 18446744073709551616 8 c.args.bytes row refl small k)
    ∙ bit-number (chunk (8 * row) 8 c.args.bytes) column place (Each1-chunk (λ x. x < 256) (8 * row) 8 c.args.bytes small) (omega arith) h
    ∙ ap (λ n. bit n place) (get_or-chunk (8 * row) 8 c.args.bytes column 0 g)
