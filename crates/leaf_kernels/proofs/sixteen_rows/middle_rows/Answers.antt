use Rattle.std.proofs.Common.{ℕ, ◌+◌, ◌∙◌, List, [], ◌∷◌, get_or, refl, arith}
use Rattle.plane.proofs.WordBytes.{each_of_eight}
use Rattle.leaf_kernels.proofs.SixteenRows.{middle_of_sixty_four}
use Rattle.leaf_kernels.proofs.sixteen_rows.middle_rows.Goals as goal

-- eight of sixteen vectors, from one on
abbrev eight_from : List (List ℕ) → ℕ → List (List ℕ)
eight_from v n = get_or v (n + 0) [] ∷ get_or v (n + 1) [] ∷ get_or v (n + 2) [] ∷ get_or v (n + 3) [] ∷ get_or v (n + 4) [] ∷ get_or v (n + 5) [] ∷ get_or v (n + 6) [] ∷ get_or v (n + 7) [] ∷ []

pub returns : goal.returns
returns c =
    let rows = c.args.rows in
    let upper = each_of_eight (λ n. get_or (get_or (eight_from rows 8) n []) 1 0) (λ n. get_or (get_or rows (8 + n) []) 1 0) refl refl refl refl refl refl refl refl in
    let lower = each_of_eight (λ n. get_or (get_or (eight_from rows 0) n []) 2 0) (λ n. get_or (get_or rows n []) 2 0) refl refl refl refl refl refl refl refl in
    middle_of_sixty_four rows c.stacked.result c.first_cells.result (omega arith)
    (λ row h. c.stacked.ensures.upper row h ∙ c.middle_lanes.ensures row 0 h (omega arith) ∙ upper row h)
    (λ row h. c.stacked.ensures.lower row h ∙ c.middle_lanes-2.ensures row 1 h (omega arith) ∙ lower row h)
    c.first_cells.ensures
