use Rattle.std.proofs.Common.{◌≡◌, ◌≢◌, suc, ◌+◌, ◌∙◌, sym, ap, subst, refl, arith, rules, w64, SFits}
use Rattle.std.specs.Prelude.{Option, Some}
use Rattle.std.specs.Int.{bit_at}
use Rattle.std.proofs.lemmas.Int.{to_z-of_z}
use Rattle.std.proofs.lemmas.Nat.Bits.{shr_and_one}
use Rattle.plane.specs.declared.cell.Bounds.{Bounds}
use Rattle.plane.specs.Square.{bits_plane}
use Rattle.viewport.specs.BoundingBox.{box_of_both}
use Rattle.viewport.proofs.BoxesOfPlanes.{BoxMatches, local_from}
use Rattle.viewport.proofs.LeafBoxes.{all_bits, leaf_square, bit_taken, bit_passed, cell_box, point_box, up_to}
use Rattle.viewport.proofs.leaf_boxes.leaf_box.Goals as goal
use Rattle.viewport.proofs.leaf_boxes.leaf_box.Goals.{then-word-place-eq1, else-word-place-eq1}

pub loop-place-preserved : goal.loop-place-preserved
loop-place-preserved c =
    let next : suc c.loop-place.place ≡ c.loop-place.place + 1 = omega arith in
    let is_bit = shr_and_one c.args.word c.loop-place.place in
    elim c.if-word-place-eq1.branch [
      | then-word-place-eq1 w ↦
          let x : SFits w64 w.from-x.result = search rules in
          let y : SFits w64 w.from-y.result = search rules in
          let union_is = simp to_z-of_z at w.union-bounds.ensures in
          let box_is = cell_box w.from-x.result w.from-y.result c.loop-place.place w.from-x.ensures w.from-y.ensures _ refl in
          let all_is : c.if-word-place-eq1.bounds ≡ box_of_both c.loop-place.bounds (Some (point_box c.loop-place.place)) = w.bounds-is ∙ union_is ∙ ap (λ (b : Bounds). box_of_both c.loop-place.bounds (Some b)) box_is in
          subst (λ n. BoxMatches (up_to c.args.word n) c.if-word-place-eq1.bounds) next
          (subst (λ (o : Option Bounds). BoxMatches (up_to c.args.word (suc c.loop-place.place)) o) (sym all_is)
          (bit_taken c.args.word c.loop-place.place c.loop-place.bounds c.loop-place-test.true (sym is_bit ∙ w.if-word-place-eq1.true) c.loop-place.invariant))
      | else-word-place-eq1 w ↦
          let clear : bit_at c.args.word c.loop-place.place ≢ 1 = λ e. w.if-word-place-eq1.false (is_bit ∙ e) in
          subst (λ n. BoxMatches (up_to c.args.word n) c.if-word-place-eq1.bounds) next
          (subst (λ (o : Option Bounds). BoxMatches (up_to c.args.word (suc c.loop-place.place)) o) (sym w.bounds-is)
          (bit_passed c.args.word c.loop-place.place c.loop-place.bounds c.loop-place-test.true clear c.loop-place.invariant))
    ]

pub returns : goal.returns
returns c =
    let all : c.loop-place.place ≡ 64 = omega arith in
    local_from 8 (bits_plane c.args.word) c.loop-place.bounds (record { dead = leaf_square c.args.word })
    (all_bits c.args.word c.loop-place.bounds (subst (λ n. BoxMatches (up_to c.args.word n) c.loop-place.bounds) all c.loop-place.invariant))
