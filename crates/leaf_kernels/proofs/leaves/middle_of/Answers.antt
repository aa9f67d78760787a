use Rattle.std.proofs.Common.{ℕ, ◌+◌, List, [], ◌∷◌, get_or, refl, arith}
use Rattle.plane.proofs.WordBytes.{each_of_eight}
use Rattle.leaf_kernels.proofs.Squares.{band_of, four_of, middle_of_rows, quarter_leaves}
use Rattle.leaf_kernels.proofs.leaves.middle_of.Goals as goal

-- eight of sixteen vectors, from one on
abbrev eight_from : List (List ℕ) → ℕ → List (List ℕ)
eight_from v n = get_or v (n + 0) [] ∷ get_or v (n + 1) [] ∷ get_or v (n + 2) [] ∷ get_or v (n + 3) [] ∷ get_or v (n + 4) [] ∷ get_or v (n + 5) [] ∷ get_or v (n + 6) [] ∷ get_or v (n + 7) [] ∷ []

pub returns : goal.returns
returns c =
    let rows = c.args.rows in
    let in_low = λ (lane : ℕ). each_of_eight (λ n. get_or (get_or (eight_from rows 0) n []) lane 0) (λ n. get_or (get_or rows (0 + n) []) lane 0) refl refl refl refl refl refl refl refl in
    let in_high = λ (lane : ℕ). each_of_eight (λ n. get_or (get_or (eight_from rows 8) n []) lane 0) (λ n. get_or (get_or rows (8 + n) []) lane 0) refl refl refl refl refl refl refl refl in
    let first = band_of rows (eight_from rows 0) c.middle_lanes.result c.transpose.result 0 0 16 refl (omega arith) (omega arith) (in_low 1) c.middle_lanes.ensures c.transpose.ensures in
    let second = band_of rows (eight_from rows 8) c.middle_lanes-2.result c.transpose-2.result 8 0 24 refl (omega arith) (omega arith) (in_high 1) c.middle_lanes-2.ensures c.transpose-2.ensures in
    let third = band_of rows (eight_from rows 0) c.middle_lanes.result c.transpose-3.result 0 1 32 refl (omega arith) (omega arith) (in_low 2) c.middle_lanes.ensures c.transpose-3.ensures in
    let fourth = band_of rows (eight_from rows 8) c.middle_lanes-2.result c.transpose-4.result 8 1 40 refl (omega arith) (omega arith) (in_high 2) c.middle_lanes-2.ensures c.transpose-4.ensures in
    middle_of_rows rows (four_of c.transpose.result c.transpose-2.result 2 ∷ four_of c.transpose.result c.transpose-2.result 4 ∷ four_of c.transpose-3.result c.transpose-4.result 2 ∷ four_of c.transpose-3.result c.transpose-4.result 4 ∷ [])
    (quarter_leaves rows c.transpose.result c.transpose-2.result 16 2 (omega arith) first second)
    (quarter_leaves rows c.transpose.result c.transpose-2.result 16 4 (omega arith) first second)
    (quarter_leaves rows c.transpose-3.result c.transpose-4.result 32 2 (omega arith) third fourth)
    (quarter_leaves rows c.transpose-3.result c.transpose-4.result 32 4 (omega arith) third fourth)
