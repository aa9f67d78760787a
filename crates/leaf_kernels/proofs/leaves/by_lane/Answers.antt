use Rattle.std.proofs.Common.{ℕ, List, [], ◌∷◌, get_or, refl}
use Rattle.plane.proofs.WordBytes.{each_of_eight, each_of_four}
use Rattle.leaf_kernels.proofs.leaves.by_lane.Goals as goal

-- one lane of each of four vectors
abbrev lanes : List (List ℕ) → ℕ → List ℕ
lanes bands n = get_or (get_or bands 0 []) n 0 ∷ get_or (get_or bands 1 []) n 0 ∷ get_or (get_or bands 2 []) n 0 ∷ get_or (get_or bands 3 []) n 0 ∷ []

-- lane `y` of vector `x` is lane `x` of vector `y`
abbrev transposed : List (List ℕ) → List (List ℕ)
transposed bands = lanes bands 0 ∷ lanes bands 1 ∷ lanes bands 2 ∷ lanes bands 3 ∷ lanes bands 4 ∷ lanes bands 5 ∷ lanes bands 6 ∷ lanes bands 7 ∷ []

pub returns : goal.returns
returns c row lane h k =
    each_of_four (λ n. get_or (get_or (transposed c.args.bands) row []) n 0) (λ n. get_or (get_or c.args.bands n []) row 0)
    (each_of_eight (λ n. get_or (get_or (transposed c.args.bands) n []) 0 0) (λ n. get_or (get_or c.args.bands 0 []) n 0) refl refl refl refl refl refl refl refl row h)
    (each_of_eight (λ n. get_or (get_or (transposed c.args.bands) n []) 1 0) (λ n. get_or (get_or c.args.bands 1 []) n 0) refl refl refl refl refl refl refl refl row h)
    (each_of_eight (λ n. get_or (get_or (transposed c.args.bands) n []) 2 0) (λ n. get_or (get_or c.args.bands 2 []) n 0) refl refl refl refl refl refl refl refl row h)
    (each_of_eight (λ n. get_or (get_or (transposed c.args.bands) n []) 3 0) (λ n. get_or (get_or c.args.bands 3 []) n 0) refl refl refl refl refl refl refl refl row h)
    lane k
