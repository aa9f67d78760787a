-- A leaf in the middle of a square of level 4, whose quarters are the centres of four leaves each.
use Rattle.std.proofs.Common.{◌≡◌, ℕ, ◌+◌, ◌*◌, Bool, true, false, [], ◌∷◌, sym, ap, subst, arith, refl}
use Rattle.std.specs.Prelude.{◌==◌, ◌&&◌, unsigned_abs}
use Rattle.std.proofs.lemmas.Nat.Bits.{bit_at-zero}
use Rattle.plane.specs.Leaves.{leaves_plane}
use Rattle.plane.specs.Centred.{centred}
use Rattle.plane.specs.Plane.{Plane}
use Rattle.plane.specs.Square.{IsSame, IsSquare, bit, bits_plane, centre_of, cut, empty, joined, spans}
use Rattle.plane.proofs.Cuts.{centre_joined, cut_empty, cut_same, joined_nw, joined_ne, joined_sw, joined_se}
use Rattle.plane.proofs.Middles.{surrounded_centred}
use Rattle.plane.proofs.Same.{same_trans, same_sym, same_refl}
use Rattle.squares.specs.Book.{Book, Keeps, Shows, joined_squares}
use Rattle.squares.specs.declared.sq.Sq.{Sq}
use Rattle.squares.proofs.Kept.{keeps_trans, same_later}
use Rattle.hashlife_step.specs.ShowsCentred.{ShowsCentred}
use Rattle.squares.proofs.FourKnown.{joined_as}
use Rattle.hashlife_step.proofs.Grown.{centred_same, shows_centred}

leaf_square : (word : ℕ) → IsSquare 8 (bits_plane word)
leaf_square word = record { dead = λ x y e. ap (λ b. b && bit word (8 * unsigned_abs y + unsigned_abs x)) e }

and_none : (a b : Bool) → b ≡ false → false ≡ (a && b)
and_none true b e = sym e
and_none false b e = refl

-- no bit is set in 0
none_live : IsSame empty (bits_plane 0)
none_live = record { same = λ x y. and_none (spans 8 x && spans 8 y) _ (ap (λ n. n == 1) (bit_at-zero (8 * unsigned_abs y + unsigned_abs x))) }

-- a piece of no cells
none_cut : (left top : ℕ) → IsSame empty (cut 4 left top (bits_plane 0))
none_cut left top = same_trans (same_sym (cut_empty 4 left top)) (cut_same 4 left top empty (bits_plane 0) none_live)

-- the middle of four leaves: the inner quarter of each
middle_of : (a b c d : ℕ) (nw ne sw se : Plane) →
    IsSame nw (cut 4 4 4 (bits_plane a)) → IsSame ne (cut 4 0 4 (bits_plane b)) → IsSame sw (cut 4 4 0 (bits_plane c)) → IsSame se (cut 4 0 0 (bits_plane d)) →
    IsSame (centre_of 4 (leaves_plane (a ∷ b ∷ c ∷ d ∷ []))) (joined 4 nw ne sw se)
middle_of a b c d nw ne sw se is_nw is_ne is_sw is_se =
    let sq_a = leaf_square a in let sq_b = leaf_square b in let sq_c = leaf_square c in let sq_d = leaf_square d in
    same_sym (centre_joined 8 4 (joined 8 (bits_plane a) (bits_plane b) (bits_plane c) (bits_plane d)) _ _ _ _ nw ne sw se refl
    (joined_nw 8 _ _ _ _ sq_a sq_b sq_c sq_d) (joined_ne 8 _ _ _ _ sq_a sq_b sq_c sq_d) (joined_sw 8 _ _ _ _ sq_a sq_b sq_c sq_d) (joined_se 8 _ _ _ _ sq_a sq_b sq_c sq_d)
    is_nw is_ne is_sw is_se)

-- the four centres, joined, show the leaf around (0,0)
pub leaf_surrounded : (level word a b c d : ℕ) (plane : Plane) (b1 b2 b3 b4 b5 : Book) (nw ne sw se whole : Sq) → level ≡ 3 → IsSame plane (bits_plane word) →
    IsSame (bits_plane a) (centre_of 4 (leaves_plane (0 ∷ 0 ∷ 0 ∷ word ∷ []))) → IsSame (bits_plane b) (centre_of 4 (leaves_plane (0 ∷ 0 ∷ word ∷ 0 ∷ []))) →
    IsSame (bits_plane c) (centre_of 4 (leaves_plane (0 ∷ word ∷ 0 ∷ 0 ∷ []))) → IsSame (bits_plane d) (centre_of 4 (leaves_plane (word ∷ 0 ∷ 0 ∷ 0 ∷ []))) →
    Keeps b1 b2 → Keeps b2 b3 → Keeps b3 b4 →
    Shows b1 3 (bits_plane a) nw → Shows b2 3 (bits_plane b) ne → Shows b3 3 (bits_plane c) sw → Shows b4 3 (bits_plane d) se →
    Shows b5 (nw.level + 1) (joined_squares b4 nw.level (nw ∷ ne ∷ sw ∷ se ∷ [])) whole →
    ShowsCentred b5 (centred level plane) whole
leaf_surrounded level word a b c d plane b1 b2 b3 b4 b5 nw ne sw se whole e same is_a is_b is_c is_d k2 k3 k4 s1 s2 s3 s4 s =
    let leaf_plane : Plane = bits_plane word in
    let in_nw = middle_of 0 0 0 word empty empty empty (cut 4 0 0 leaf_plane) (none_cut 4 4) (none_cut 0 4) (none_cut 4 0) (same_refl _) in
    let in_ne = middle_of 0 0 word 0 empty empty (cut 4 4 0 leaf_plane) empty (none_cut 4 4) (none_cut 0 4) (same_refl _) (none_cut 0 0) in
    let in_sw = middle_of 0 word 0 0 empty (cut 4 0 4 leaf_plane) empty empty (none_cut 4 4) (same_refl _) (none_cut 4 0) (none_cut 0 0) in
    let in_se = middle_of word 0 0 0 (cut 4 4 4 leaf_plane) empty empty empty (same_refl _) (none_cut 0 4) (none_cut 4 0) (none_cut 0 0) in
    let shown = joined_as b4 b5 3 (nw ∷ ne ∷ sw ∷ se ∷ []) _ _ _ _ whole s1.known.at_level
    (same_trans (same_later (keeps_trans k2 (keeps_trans k3 k4)) s1) (same_trans is_a in_nw))
    (same_trans (same_later (keeps_trans k3 k4) s2) (same_trans is_b in_ne))
    (same_trans (same_later k4 s3) (same_trans is_c in_sw))
    (same_trans s4.cells (same_trans is_d in_se)) s in
    let at_centre = surrounded_centred 3 leaf_plane _ _ _ _ (omega arith) (leaf_square word) (same_refl _) (same_refl _) (same_refl _) (same_refl _) in
    let at_level : ShowsCentred b5 (centred 3 plane) whole = shows_centred b5 (3 + 1) _ (centred 3 plane) whole shown (same_trans at_centre (centred_same 3 _ _ (same_sym same))) in
    subst (λ n. ShowsCentred b5 (centred n plane) whole) (sym e) at_level
