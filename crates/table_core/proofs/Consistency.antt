-- What is true of good words agrees with itself.
use Rattle.std.proofs.Common.{◌≡◌, ◌≢◌, ℕ, zero, suc, ◌<◌, List, [], ◌∷◌, subst, arith, refl}
use Rattle.std.specs.List.{AllByRecursion}
use Rattle.plane.specs.Plane.{Plane}
use Rattle.plane.specs.Square.{IsSame}
use Rattle.plane.specs.Block.{IsInside}
use Rattle.plane.proofs.Same.{same_sym, same_trans}
use Rattle.table_core.specs.declared.key.Key.{Key}
use Rattle.table_core.specs.declared.knowledge.KnownResult.{KnownResult}
use Rattle.table_core.specs.declared.knowledge.Knowledge.{Knowledge}
use Rattle.table_core.specs.declared.shape.Kind.TheVariants.{Leaf, Pair}
use Rattle.table_core.specs.Layout.{IsSlot}
use Rattle.table_core.specs.Blocks.{Words, IsBlock, width, height, largest_rank}
use Rattle.table_core.specs.Good.{IsGood}
use Rattle.table_core.specs.Knowledge.{KnowsBlock, IsTrueResult, KnowsSquareOf, IsTrueOf}
use Rattle.table_core.specs.Laws.{EveryTruthIsConsistent}
use Rattle.table_core.proofs.Ways.{not_head}
use Rattle.table_core.proofs.Blocks.{one_rank}
use Rattle.table_core.proofs.Knowing.{block_true, desks_agree}
use Rattle.table_core.proofs.Showing.{shows_inside}

module _ (bits : ℕ) (words : Words) (known : Knowledge) (h : IsTrueOf bits words known) where
  -- two accounts of one number agree
  pub same_cells : (rank n : ℕ) (p q : Plane) → KnowsBlock known rank n p → KnowsBlock known rank n q → IsSame p q
  same_cells rank n p q a b = same_trans (same_sym (block_true bits words known rank n p h a).cells) (block_true bits words known rank n q h b).cells

  pub known_rank : (r s n : ℕ) (p q : Plane) → n ≢ 0 → KnowsBlock known r n p → KnowsBlock known s n q → r ≡ s
  known_rank r s n p q some a b = one_rank bits words r s n (block_true bits words known r n p h a).stands (block_true bits words known s n q h b).stands some

  pub known_inside : (rank n : ℕ) (plane : Plane) → KnowsBlock known rank n plane → IsInside (width rank) (height rank) plane
  known_inside rank n plane knows = shows_inside bits words rank n plane (block_true bits words known rank n plane h knows)

  one_block : (rank other n : ℕ) (p q : Plane) → n ≢ 0 → KnowsBlock known rank n p → KnowsBlock known other n q → (rank ≡ other) × IsSame p q
  one_block rank other n p q some a b =
      let e : rank ≡ other = known_rank rank other n p q some a b in
      (e, same_cells other n p q (subst (λ r. KnowsBlock known r n p) e a) b)

leaf_slot : (bits : ℕ) (words : Words) (n : ℕ) → n ≢ 0 → IsBlock bits words 0 n → IsSlot bits Leaf n
leaf_slot bits words zero some b = absurd (some refl)
leaf_slot bits words (suc i) some b = b.0

pair_slot : (bits : ℕ) (words : Words) (rank n : ℕ) → n ≢ 0 → IsBlock bits words (suc rank) n → IsSlot bits Pair n × (words n ≢ 0)
pair_slot bits words rank zero some b = absurd (some refl)
pair_slot bits words rank (suc i) some b = (b.0, b.1)

-- a pair that stands in good words is of at most a square of level 65
low_rank : (key : Key) (words : Words) (rank n : ℕ) → IsGood key words → n ≢ 0 → IsBlock key.shape.bits words (suc rank) n →
    IsSlot key.shape.bits Pair n × (rank < largest_rank)
low_rank key words rank n good some b =
    let s = pair_slot key.shape.bits words rank n some b in
    let t = good.blocks n s.0 s.1 in
    let low = t.1 in
    let e : suc rank ≡ suc t.0 = one_rank key.shape.bits words (suc rank) (suc t.0) n b t.2 some in
    (s.0, omega arith)

results_consistent : (bits : ℕ) (words : Words) (known : Knowledge) (results : List KnownResult) →
    AllByRecursion (IsTrueResult bits words) results → AllByRecursion (KnowsSquareOf known) results →
    AllByRecursion (λ result. (3 < result.level) × (result.square ≢ 0) × KnowsSquareOf known result) results
results_consistent bits words known [] h k = tt
results_consistent bits words known (r ∷ rs) h k = ((h.0.above, not_head bits Pair r.square h.0.slot, k.0), results_consistent bits words known rs h.1 k.1)

pub every_truth_is_consistent : EveryTruthIsConsistent
every_truth_is_consistent key words known good h = record {
  one_block = one_block key.shape.bits words known h;
  one_number = λ rank n m plane a b. desks_agree key words known known rank n m plane good h h a b;
  inside = known_inside key.shape.bits words known h;
  leaf = λ n plane some knows. leaf_slot key.shape.bits words n some (block_true key.shape.bits words known 0 n plane h knows).stands;
  pair = λ rank n plane some knows. low_rank key words rank n good some (block_true key.shape.bits words known (suc rank) n plane h knows).stands;
  results = results_consistent key.shape.bits words known known.results h.results h.squares;
  once = h.once;
}
