use Rattle.std.proofs.Common.{ℕ, ◌∙◌, ap, arith, bit_and, get_or, replicate, Fits, w16, w64}
use Rattle.std.proofs.lemmas.List.{get_or-map, length-replicate}
use Rattle.std.proofs.lemmas.Nat.{and_le_r}
use Rattle.std.proofs.lemmas.Simd.{Each1-all, Each1-zip2, Each2-splat}
use lib.Lanes.{zip2}
use Rattle.plane.specs.Square.{bit}
use Rattle.leaf_kernels.proofs.Lanes.{zip_length}
use Rattle.leaf_kernels.proofs.Moves.{with_each}
use Rattle.leaf_kernels.proofs.SixteenRows.{first_bits}
use Rattle.leaf_kernels.proofs.sixteen_rows.first_cells.Goals as goal

-- the first sixteen bits are a number of sixteen bits
few : (word : ℕ) → Fits w16 (bit_and word 65535)
few word = let least = and_le_r word 65535 in record { fits = omega arith }

pub overflow_cast-result : goal.overflow_cast-result
overflow_cast-result c =
    Each1-zip2 bit_and (Fits w16) c.args.rows (replicate 16 65535)
    (Each2-splat (λ word mask. Fits w16 (bit_and word mask)) c.args.rows 16 65535 (Each1-all (λ word. Fits w16 (bit_and word 65535)) few c.args.rows))

pub returns : goal.returns
returns c column row h k =
    let long = zip_length w64 16 bit_and c.args.rows (replicate 16 65535) c.fits-rows.0 (length-replicate {A = ℕ} 16 65535) in
    ap (λ n. bit n column) (get_or-map (λ n. n) (zip2 bit_and c.args.rows (replicate 16 65535)) row 0 0 (omega arith) ∙ with_each w64 16 bit_and c.args.rows 65535 row c.fits-rows.0 k)
    ∙ first_bits (get_or c.args.rows row 0) column h
