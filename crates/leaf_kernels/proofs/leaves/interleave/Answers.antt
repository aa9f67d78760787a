use Rattle.std.proofs.Common.{ℕ, ◌≡◌, ◌+◌, ◌*◌, List, [], ◌∷◌, ◌++◌, length, get_or, refl, ap, ◌∙◌}
use Rattle.std.proofs.lemmas.Simd.{pick_l_left}
use lib.Lanes.{pick_l}
use Rattle.plane.proofs.WordBytes.{each_of_eight}
use Rattle.leaf_kernels.proofs.leaves.interleave.Goals as goal

abbrev order : List ℕ
order = 0 ∷ 8 ∷ 16 ∷ 24 ∷ 32 ∷ 40 ∷ 48 ∷ 56 ∷ 1 ∷ 9 ∷ 17 ∷ 25 ∷ 33 ∷ 41 ∷ 49 ∷ 57 ∷ 2 ∷ 10 ∷ 18 ∷ 26 ∷ 34 ∷ 42 ∷ 50 ∷ 58 ∷ 3 ∷ 11 ∷ 19 ∷ 27 ∷ 35 ∷ 43 ∷ 51 ∷ 59 ∷ 4 ∷ 12 ∷ 20 ∷ 28 ∷ 36 ∷ 44 ∷ 52 ∷ 60 ∷ 5 ∷ 13 ∷ 21 ∷ 29 ∷ 37 ∷ 45 ∷ 53 ∷ 61 ∷ 6 ∷ 14 ∷ 22 ∷ 30 ∷ 38 ∷ 46 ∷ 54 ∷ 62 ∷ 7 ∷ 15 ∷ 23 ∷ 31 ∷ 39 ∷ 47 ∷ 55 ∷ 63 ∷ []

picked : (bytes : List ℕ) → length bytes ≡ 64 → pick_l 0 (bytes ++ bytes) order ≡ pick_l 0 bytes order
picked bytes long = pick_l_left 0 bytes bytes 64 order long tt

pub returns : goal.returns
returns c word place h k =
    ap (λ l. get_or l (8 * place + word) 0) (picked c.args.bytes c.fits-bytes.0)
    ∙ each_of_eight (λ m. get_or (pick_l 0 c.args.bytes order) (8 * place + m) 0) (λ m. get_or c.args.bytes (8 * m + place) 0)
    (each_of_eight (λ n. get_or (pick_l 0 c.args.bytes order) (8 * n + 0) 0) (λ n. get_or c.args.bytes (8 * 0 + n) 0) refl refl refl refl refl refl refl refl place k)
    (each_of_eight (λ n. get_or (pick_l 0 c.args.bytes order) (8 * n + 1) 0) (λ n. get_or c.args.bytes (8 * 1 + n) 0) refl refl refl refl refl refl refl refl place k)
    (each_of_eight (λ n. get_or (pick_l 0 c.args.bytes order) (8 * n + 2) 0) (λ n. get_or c.args.bytes (8 * 2 + n) 0) refl refl refl refl refl refl refl refl place k)
    (each_of_eight (λ n. get_or (pick_l 0 c.args.bytes order) (8 * n + 3) 0) (λ n. get_or c.args.bytes (8 * 3 + n) 0) refl refl refl refl refl refl refl refl place k)
    (each_of_eight (λ n. get_or (pick_l 0 c.args.bytes order) (8 * n + 4) 0) (λ n. get_or c.args.bytes (8 * 4 + n) 0) refl refl refl refl refl refl refl refl place k)
    (each_of_eight (λ n. get_or (pick_l 0 c.args.bytes order) (8 * n + 5) 0) (λ n. get_or c.args.bytes (8 * 5 + n) 0) refl refl refl refl refl refl refl refl place k)
    (each_of_eight (λ n. get_or (pick_l 0 c.args.bytes order) (8 * n + 6) 0) (λ n. get_or c.args.bytes (8 * 6 + n) 0) refl refl refl refl refl refl refl refl place k)
    (each_of_eight (λ n. get_or (pick_l 0 c.args.bytes order) (8 * n + 7) 0) (λ n. get_or c.args.bytes (8 * 7 + n) 0) refl refl refl refl refl refl refl refl place k)
    word h
