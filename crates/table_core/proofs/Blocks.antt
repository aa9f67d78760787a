-- What numbers show.
use Rattle.std.proofs.Common.{◌≡◌, ◌≢◌, ℕ, zero, suc, ◌+◌, ◌*◌, ◌/◌, ◌%◌, ◌^◌, ◌⊎◌, pos, Bool, true, false, cond, sym, ◌∙◌, ap, subst, arith, refl, inl, inr, ⊎_elim}
use Rattle.std.specs.Prelude.{◌==◌, ◌&&◌, unsigned_abs, int_lt}
use Rattle.std.proofs.lemmas.Bool.{eqb-true, false≢true}
use Rattle.std.proofs.lemmas.Bool.Decides.{eqb_tells}
use Rattle.std.proofs.Math.Nat.{pow-suc}
use Rattle.plane.specs.Plane.{Plane}
use Rattle.plane.specs.Square.{IsSame, empty, bits_plane, bit, spans}
use Rattle.plane.specs.Block.{IsInside, beside, below}
use Rattle.plane.proofs.Same.{same_sym, same_trans, same_of, plane_equal}
use Rattle.plane.proofs.LeafBits.{bits_same, bits_none}
use Rattle.plane.proofs.Blocks.{empty_inside, beside_inside, below_inside, beside_left, beside_right, below_upper, below_lower}
use Rattle.table_core.specs.declared.shape.Kind.{Kind}
use Rattle.table_core.specs.declared.shape.Kind.TheVariants.{Leaf, Pair}
use Rattle.table_core.specs.Layout.{IsSlot, first_part, second_part}
use Rattle.table_core.specs.Blocks.{Words, width, height, paired, IsBlock, cells_of, ShowsBlock}
use Rattle.table_core.specs.declared.key.Key.{Key}
use Rattle.table_core.specs.Good.{IsGood, KeepsWords}
use Rattle.table_core.proofs.Ways.{one_kind}

some_kind : Kind → Bool
some_kind Leaf = true
some_kind Pair = false

pub leaf_no_pair : (bits i : ℕ) → IsSlot bits Leaf i → IsSlot bits Pair i → ⊥
unfolding some_kind
leaf_no_pair bits i h k = false≢true (sym (ap some_kind (one_kind bits Leaf Pair i h k)))

pub parts_equal : (v w : ℕ) → first_part v ≡ first_part w → second_part v ≡ second_part w → v ≡ w
parts_equal v w h k = omega arith

part_some : (w : ℕ) → w ≢ 0 → (first_part w ≢ 0) ⊎ (second_part w ≢ 0)
part_some w some = ⊎_elim (λ t. inr (λ e. some (parts_equal w 0 t.1 e))) (λ t. inl t.1) (eqb_tells (first_part w) 0)

-- a number other than 0 has one rank
pub one_rank : (bits : ℕ) (words : Words) (r q n : ℕ) → IsBlock bits words r n → IsBlock bits words q n → n ≢ 0 → r ≡ q
one_rank bits words zero zero n h k some = refl
one_rank bits words zero (suc q) zero h k some = absurd (some refl)
one_rank bits words zero (suc q) (suc i) h k some = absurd (leaf_no_pair bits (suc i) h.0 k.0)
one_rank bits words (suc r) zero zero h k some = absurd (some refl)
one_rank bits words (suc r) zero (suc i) h k some = absurd (leaf_no_pair bits (suc i) k.0 h.0)
one_rank bits words (suc r) (suc q) zero h k some = absurd (some refl)
one_rank bits words (suc r) (suc q) (suc i) h k some = ⊎_elim
    (λ t. ap suc (one_rank bits words r q (first_part (words (suc i))) h.2 k.2 t))
    (λ t. ap suc (one_rank bits words r q (second_part (words (suc i))) h.3 k.3 t)) (part_some (words (suc i)) h.1)

-- sides
twice : (k : ℕ) (n : ℕ) → n ≡ suc k → 2 ^ k + 2 ^ k ≡ 2 ^ n
twice k n e = let two : 2 ^ suc k ≡ 2 ^ k * 2 = pow-suc 2 k in let s : 2 ^ k + 2 ^ k ≡ 2 ^ suc k = omega (arith, two) in s ∙ ap (λ m. 2 ^ m) (sym e)

inside_as : (w w' t t' : ℕ) (plane : Plane) → w ≡ w' → t ≡ t' → IsInside w t plane → IsInside w' t' plane
inside_as w w' t t' plane ew et h = subst (λ n. IsInside w' n plane) et (subst (λ n. IsInside n t plane) ew h)

odd : (r : ℕ) → (r % 2 == 0) ≡ false → r % 2 ≡ 1
odd r e = ⊎_elim (λ t. absurd (false≢true (sym e ∙ t.0))) (λ t. let n = t.1 in omega arith) (eqb_tells (r % 2) 0)

paired_in : (r : ℕ) (a b : Plane) (even : Bool) → (r % 2 == 0) ≡ even → IsInside (width r) (height r) a → IsInside (width r) (height r) b →
    IsInside (width (suc r)) (height (suc r)) (cond even (beside (width r) a b) (below (height r) a b))
paired_in r a b true e ha hb =
    let two : r % 2 ≡ 0 = eqb-true (r % 2) 0 e in
    inside_as _ (width (suc r)) _ (height (suc r)) (beside (width r) a b) (twice ((r + 1) / 2 + 3) ((suc r + 1) / 2 + 3) (omega arith)) (ap (λ n. 2 ^ n) (let k : r / 2 + 3 ≡ suc r / 2 + 3 = omega arith in k)) (beside_inside (width r) (height r) a b ha hb)
paired_in r a b false e ha hb =
    let two : r % 2 ≡ 1 = odd r e in
    inside_as _ (width (suc r)) _ (height (suc r)) (below (height r) a b) (ap (λ n. 2 ^ n) (let k : (r + 1) / 2 + 3 ≡ (suc r + 1) / 2 + 3 = omega arith in k)) (twice (r / 2 + 3) (suc r / 2 + 3) (omega arith)) (below_inside (width r) (height r) a b ha hb)

pub paired_inside : (r : ℕ) (a b : Plane) → IsInside (width r) (height r) a → IsInside (width r) (height r) b →
    IsInside (width (suc r)) (height (suc r)) (paired r a b)
paired_inside r a b ha hb = paired_in r a b (r % 2 == 0) refl ha hb

and_no : (b : Bool) → (b && false) ≡ false
and_no true = refl
and_no false = refl

bits_inside : (w : ℕ) → IsInside 8 8 (bits_plane w)
bits_inside w = record {
  columns = λ x y e. ap (λ s. (s && spans 8 y) && bit w (8 * unsigned_abs y + unsigned_abs x)) e;
  rows = λ x y e. ap (λ s. (spans 8 x && s) && bit w (8 * unsigned_abs y + unsigned_abs x)) e ∙ ap (λ s. s && bit w (8 * unsigned_abs y + unsigned_abs x)) (and_no (spans 8 x));
}

pub cells_inside : (words : Words) (r n : ℕ) → IsInside (width r) (height r) (cells_of words r n)
cells_inside words zero zero = empty_inside (width zero) (height zero)
cells_inside words zero (suc i) = bits_inside (words (suc i))
cells_inside words (suc r) zero = empty_inside (width (suc r)) (height (suc r))
cells_inside words (suc r) (suc i) = paired_inside r _ _ (cells_inside words r (first_part (words (suc i)))) (cells_inside words r (second_part (words (suc i))))

-- the parts of what is paired
first_by : (r : ℕ) (a b c d : Plane) (even : Bool) → IsInside (width r) (height r) a → IsInside (width r) (height r) c →
    IsSame (cond even (beside (width r) a b) (below (height r) a b)) (cond even (beside (width r) c d) (below (height r) c d)) → IsSame a c
first_by r a b c d true ha hc h = beside_left (width r) (height r) a b c d ha hc h
first_by r a b c d false ha hc h = below_upper (width r) (height r) a b c d ha hc h

second_by : (r : ℕ) (a b c d : Plane) (even : Bool) → IsInside (width r) (height r) b → IsInside (width r) (height r) d →
    IsSame (cond even (beside (width r) a b) (below (height r) a b)) (cond even (beside (width r) c d) (below (height r) c d)) → IsSame b d
second_by r a b c d true hb hd h = beside_right (width r) (height r) a b c d hb hd h
second_by r a b c d false hb hd h = below_lower (width r) (height r) a b c d hb hd h

pub paired_first : (r : ℕ) (a b c d : Plane) → IsInside (width r) (height r) a → IsInside (width r) (height r) c →
    IsSame (paired r a b) (paired r c d) → IsSame a c
paired_first r a b c d ha hc h = first_by r a b c d (r % 2 == 0) ha hc h

pub paired_second : (r : ℕ) (a b c d : Plane) → IsInside (width r) (height r) b → IsInside (width r) (height r) d →
    IsSame (paired r a b) (paired r c d) → IsSame b d
paired_second r a b c d hb hd h = second_by r a b c d (r % 2 == 0) hb hd h

pub paired_same : (r : ℕ) (a b c d : Plane) → IsSame a c → IsSame b d → IsSame (paired r a b) (paired r c d)
paired_same r a b c d h k = same_of _ _ (λ i. paired r (plane_equal a c h i) (plane_equal b d k i))

both : {A : Type 0} (b : Bool) (u v w : A) → u ≡ w → v ≡ w → cond b u v ≡ w
both true u v w h k = h
both false u v w h k = k

paired_empty : (r : ℕ) → paired r empty empty ≡ empty
paired_empty r = both (r % 2 == 0) (beside (width r) empty empty) (below (height r) empty empty) empty
    (λ i x y. both (int_lt x (pos (width r))) false false false refl refl i) (λ i x y. both (int_lt y (pos (height r))) false false false refl refl i)

pub empty_cells : (words : Words) (r : ℕ) → cells_of words r 0 ≡ empty
empty_cells words zero = refl
empty_cells words (suc r) = refl

pub empty_block : (bits : ℕ) (words : Words) (r : ℕ) → IsBlock bits words r 0
empty_block bits words zero = tt
empty_block bits words (suc r) = tt

-- a number other than 0 shows no empty block
pub not_empty : (key : Key) (words : Words) → IsGood key words → (r n : ℕ) → IsBlock key.shape.bits words r n → IsSame (cells_of words r n) empty →
    n ≡ 0
not_empty key words good zero zero h same = refl
not_empty key words good zero (suc i) h same = absurd (h.1 (bits_none (words (suc i)) (good.fits (suc i)) same))
not_empty key words good (suc r) zero h same = refl
not_empty key words good (suc r) (suc i) h same =
    let p = first_part (words (suc i)) in let q = second_part (words (suc i)) in
    let whole : IsSame (paired r (cells_of words r (first_part (words (suc i)))) (cells_of words r (second_part (words (suc i))))) (paired r empty empty) = same_trans same (same_of empty _ (sym (paired_empty r))) in
    let one = not_empty key words good r p h.2 (paired_first r (cells_of words r p) (cells_of words r q) empty empty (cells_inside words r p) (empty_inside (width r) (height r)) whole) in
    let two = not_empty key words good r q h.3 (paired_second r (cells_of words r p) (cells_of words r q) empty empty (cells_inside words r q) (empty_inside (width r) (height r)) whole) in
    absurd (h.1 (parts_equal (words (suc i)) 0 one two))

-- numbers that show blocks of one rank with the same cells are equal
pub one_number : (key : Key) (words : Words) → IsGood key words → (r n m : ℕ) → IsBlock key.shape.bits words r n →
    IsBlock key.shape.bits words r m → IsSame (cells_of words r n) (cells_of words r m) → n ≡ m
one_number key words good zero zero m h k same = sym (not_empty key words good zero m k (same_sym same))
one_number key words good (suc r) zero m h k same = sym (not_empty key words good (suc r) m k (same_sym same))
one_number key words good zero (suc i) zero h k same = not_empty key words good zero (suc i) h same
one_number key words good (suc r) (suc i) zero h k same = not_empty key words good (suc r) (suc i) h same
one_number key words good zero (suc i) (suc j) h k same =
    good.once Leaf (suc i) (suc j) h.0 k.0 h.1 (bits_same (words (suc i)) (words (suc j)) (good.fits (suc i)) (good.fits (suc j)) same)
one_number key words good (suc r) (suc i) (suc j) h k same =
    let v = words (suc i) in let w = words (suc j) in
    let one = one_number key words good r (first_part v) (first_part w) h.2 k.2 (paired_first r (cells_of words r (first_part v)) (cells_of words r (second_part v)) (cells_of words r (first_part w)) (cells_of words r (second_part w)) (cells_inside words r (first_part v)) (cells_inside words r (first_part w)) same) in
    let two = one_number key words good r (second_part v) (second_part w) h.3 k.3 (paired_second r (cells_of words r (first_part v)) (cells_of words r (second_part v)) (cells_of words r (first_part w)) (cells_of words r (second_part w)) (cells_inside words r (second_part v)) (cells_inside words r (second_part w)) same) in
    good.once Pair (suc i) (suc j) h.0 k.0 h.1 (parts_equal (words (suc i)) (words (suc j)) one two)

-- no nonzero word of a leaf or a pair has changed
pub record KeepsSlots (bits : ℕ) (old new : Words) : Type 0 where
  pub kept : (kind : Kind) (index : ℕ) → IsSlot bits kind index → old index ≢ 0 →
      new index ≡ old index

-- what was shown stays shown, while no nonzero word of a slot changes
pub block_stays : (bits : ℕ) (old new : Words) → KeepsSlots bits old new → (r n : ℕ) → IsBlock bits old r n → IsBlock bits new r n
block_stays bits old new keeps zero zero h = tt
block_stays bits old new keeps zero (suc i) h = (h.0, subst (λ w. w ≢ 0) (sym (keeps.kept Leaf (suc i) h.0 h.1)) h.1)
block_stays bits old new keeps (suc r) zero h = tt
block_stays bits old new keeps (suc r) (suc i) h =
    let all = subst (λ w. (w ≢ 0) × IsBlock bits new r (first_part w) × IsBlock bits new r (second_part w)) (sym (keeps.kept Pair (suc i) h.0 h.1))
    (h.1, block_stays bits old new keeps r (first_part (old (suc i))) h.2, block_stays bits old new keeps r (second_part (old (suc i))) h.3) in
    (h.0, all.0, all.1, all.2)

pub cells_stay : (bits : ℕ) (old new : Words) → KeepsSlots bits old new → (r n : ℕ) → IsBlock bits old r n → cells_of new r n ≡ cells_of old r n
cells_stay bits old new keeps zero zero h = refl
cells_stay bits old new keeps zero (suc i) h = ap bits_plane (keeps.kept Leaf (suc i) h.0 h.1)
cells_stay bits old new keeps (suc r) zero h = refl
cells_stay bits old new keeps (suc r) (suc i) h =
    let w = old (suc i) in
    ap (λ v. paired r (cells_of new r (first_part v)) (cells_of new r (second_part v))) (keeps.kept Pair (suc i) h.0 h.1)
    ∙ ap (λ p. paired r p (cells_of new r (second_part w))) (cells_stay bits old new keeps r (first_part w) h.2)
    ∙ ap (paired r (cells_of old r (first_part w))) (cells_stay bits old new keeps r (second_part w) h.3)

slots_kept : (bits : ℕ) (old new : Words) → KeepsWords old new → KeepsSlots bits old new
slots_kept bits old new keeps = record { kept = λ kind i slot some. keeps.kept i some }

pub block_kept : (bits : ℕ) (old new : Words) → KeepsWords old new → (r n : ℕ) → IsBlock bits old r n → IsBlock bits new r n
block_kept bits old new keeps = block_stays bits old new (slots_kept bits old new keeps)

pub cells_kept : (bits : ℕ) (old new : Words) → KeepsWords old new → (r n : ℕ) → IsBlock bits old r n → cells_of new r n ≡ cells_of old r n
cells_kept bits old new keeps = cells_stay bits old new (slots_kept bits old new keeps)

pub shows_stay : (bits : ℕ) (old new : Words) (r n : ℕ) (plane : Plane) → KeepsSlots bits old new → ShowsBlock bits old r n plane →
    ShowsBlock bits new r n plane
shows_stay bits old new r n plane keeps h = record { stands = block_stays bits old new keeps r n h.stands; cells = same_trans (same_of _ _ (cells_stay bits old new keeps r n h.stands)) h.cells }

pub shows_kept : (bits : ℕ) (old new : Words) (r n : ℕ) (plane : Plane) → KeepsWords old new → ShowsBlock bits old r n plane → ShowsBlock bits new r n plane
shows_kept bits old new r n plane keeps h = shows_stay bits old new r n plane (slots_kept bits old new keeps) h
