use Rattle.std.proofs.Common.{ℕ, ◌+◌, List, [], ◌∷◌, get_or, refl}
use Rattle.plane.proofs.WordBytes.{each_of_eight}
use Rattle.leaf_kernels.proofs.sixteen_rows.stacked.Goals as goal

pub returns-clause-lower : goal.returns-clause-lower
returns-clause-lower c row h =
    let u = c.args.upper in
    let l = c.args.lower in
    let both : List ℕ = get_or u 0 0 ∷ get_or u 1 0 ∷ get_or u 2 0 ∷ get_or u 3 0 ∷ get_or u 4 0 ∷ get_or u 5 0 ∷ get_or u 6 0 ∷ get_or u 7 0
    ∷ get_or l 0 0 ∷ get_or l 1 0 ∷ get_or l 2 0 ∷ get_or l 3 0 ∷ get_or l 4 0 ∷ get_or l 5 0 ∷ get_or l 6 0 ∷ get_or l 7 0 ∷ [] in
    each_of_eight (λ n. get_or both (8 + n) 0) (λ n. get_or l n 0) refl refl refl refl refl refl refl refl row h
