-- The rank of what a number shows, by the numbers of its parts.
use Rattle.std.proofs.Common.{◌≡◌, ◌≢◌, ℕ, zero, suc, ◌+◌, ◌-◌, ◌<◌, ◌≤◌, ◌⊎◌, cond, sym, ◌∙◌, ap, subst, arith, refl, ⊎_elim}
use Rattle.std.specs.Prelude.{◌==◌}
use Rattle.std.proofs.lemmas.Bool.{eq-eqb, ne_eqb}
use Rattle.table_core.specs.declared.shape.Kind.TheVariants.{Leaf, Pair}
use Rattle.table_core.specs.Layout.{start, size, first_part, second_part}
use Rattle.table_core.specs.Blocks.{Words, IsBlock}
use Rattle.table_core.specs.declared.rank.TheConstants.{LARGEST_RANK}
use Rattle.table_core.proofs.Blocks.{parts_equal}
use Rattle.table_core.proofs.Comparisons.{same_or_other}
use Rattle.table_core.proofs.Ways.{slot_below}

-- from a number that shows a block one comes to this number by so many parts, each other than 0
pub record Descends (bits : ℕ) (words : Words) (from now steps : ℕ) : Type 0 where
  pub go : (rank : ℕ) → rank ≤ LARGEST_RANK → from ≢ 0 → IsBlock bits words rank from →
      (steps ≤ rank) × (now ≢ 0) × IsBlock bits words (rank - steps) now

block_in : (bits : ℕ) (words : Words) (rank n : ℕ) → n ≢ 0 → IsBlock bits words rank n → n < size bits
block_in bits words zero zero some b = absurd (some refl)
block_in bits words zero (suc i) some b = slot_below bits Leaf (suc i) b.0
block_in bits words (suc rank) zero some b = absurd (some refl)
block_in bits words (suc rank) (suc i) some b = slot_below bits Pair (suc i) b.0

low_block : (bits : ℕ) (words : Words) (rank n : ℕ) → n ≢ 0 → n < start bits Pair → IsBlock bits words rank n → rank ≡ 0
low_block bits words zero n some low b = refl
low_block bits words (suc rank) zero some low b = absurd (some refl)
low_block bits words (suc rank) (suc i) some low b = let from = b.0.from in absurd (omega arith)

-- the parts of a block that is not a leaf
record HasTwo (bits : ℕ) (words : Words) (rank n : ℕ) : Type 0 where
  less : ℕ
  is : rank ≡ suc less
  nonzero : words n ≢ 0
  one : IsBlock bits words less (first_part (words n))
  two : IsBlock bits words less (second_part (words n))

high_block : (bits : ℕ) (words : Words) (rank n : ℕ) → n ≢ 0 → start bits Pair ≤ n → IsBlock bits words rank n → HasTwo bits words rank n
high_block bits words zero zero some high b = absurd (some refl)
high_block bits words zero (suc i) some high b = let below = b.0.below in absurd (omega arith)
high_block bits words (suc rank) zero some high b = absurd (some refl)
high_block bits words (suc rank) (suc i) some high b = record { less = rank; is = refl; nonzero = b.1; one = b.2; two = b.3 }

-- one part is taken, the second where the first is 0
abbrev pub part_taken : ℕ → ℕ
part_taken word = cond (first_part word == 0) (second_part word) (first_part word)

pub taken_zero : (word : ℕ) → first_part word ≡ 0 → part_taken word ≡ second_part word
taken_zero word e = ap (λ b. cond b (second_part word) (first_part word)) (eq-eqb (first_part word) 0 e)

pub taken_some : (word : ℕ) → first_part word ≢ 0 → part_taken word ≡ first_part word
taken_some word n = ap (λ b. cond b (second_part word) (first_part word)) (ne_eqb (first_part word) 0 n)

part_block : (bits : ℕ) (words : Words) (rank n : ℕ) → (t : HasTwo bits words rank n) → (part_taken (words n) ≢ 0) × IsBlock bits words t.less (part_taken (words n))
part_block bits words rank n t = ⊎_elim
    (λ e. ((λ z. t.nonzero (parts_equal (words n) 0 e (sym (taken_zero (words n) e) ∙ z))), subst (IsBlock bits words t.less) (sym (taken_zero (words n) e)) t.two))
    (λ some. ((λ z. some (sym (taken_some (words n) some) ∙ z)), subst (IsBlock bits words t.less) (sym (taken_some (words n) some)) t.one))
    (same_or_other (first_part (words n)) 0)

pub descends_on : (bits : ℕ) (words : Words) (from now steps next : ℕ) → Descends bits words from now steps → start bits Pair ≤ now → next ≡ part_taken (words now) →
    Descends bits words from next (steps + 1)
descends_on bits words from now steps next d high e = record {
  go = λ rank low some block.
      let g = d.go rank low some block in
      let t : HasTwo bits words (rank - steps) now = high_block bits words (rank - steps) now g.1 high g.2 in
      let p = part_block bits words (rank - steps) now t in
      let is = t.is in
      let less : t.less ≡ rank - (steps + 1) = omega arith in
      (omega arith, subst (λ n. n ≢ 0) (sym e) p.0, subst (λ r. IsBlock bits words r next) less (subst (IsBlock bits words t.less) (sym e) p.1));
}

-- where one comes to a leaf, the rank is the number of parts
pub leaf_reached : (bits : ℕ) (words : Words) (from now steps : ℕ) → Descends bits words from now steps → (now < start bits Pair) ⊎ (size bits ≤ now) →
    (rank : ℕ) → rank ≤ LARGEST_RANK → from ≢ 0 → IsBlock bits words rank from → steps ≡ rank
leaf_reached bits words from now steps d end rank low some block =
    let g = d.go rank low some block in
    let before = g.0 in
    ⊎_elim (λ short. let none : rank - steps ≡ 0 = low_block bits words (rank - steps) now g.1 short g.2 in omega arith)
    (λ far. let near = block_in bits words (rank - steps) now g.1 g.2 in absurd (omega arith)) end

pub taken_second : (word first second : ℕ) → first ≡ first_part word → second ≡ second_part word → first ≡ 0 → second ≡ part_taken word
taken_second word first second e f z = f ∙ sym (taken_zero word (sym e ∙ z))

pub taken_first : (word first : ℕ) → first ≡ first_part word → first ≢ 0 → first ≡ part_taken word
taken_first word first e some = e ∙ sym (taken_some word (λ z. some (e ∙ z)))
