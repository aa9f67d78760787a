-- Each result has a pair slot of its own, so there are no more results than pair slots.
use Rattle.std.proofs.Common.{◌≡◌, ◌≢◌, ℕ, suc, ◌-◌, ◌^◌, ◌<◌, ◌≤◌, false, eqb, List, [], ◌∷◌, length, subst, arith}
use Rattle.std.specs.Prelude.{map}
use Rattle.std.specs.List.{AllByRecursion, IsDistinct}
use Rattle.std.proofs.lemmas.Bool.{eqb-false, ne_eqb}
use Rattle.std.proofs.lemmas.List.{length-map}
use Rattle.table_core.specs.declared.knowledge.KnownResult.{KnownResult}
use Rattle.table_core.specs.declared.knowledge.Knowledge.{Knowledge}
use Rattle.table_core.specs.declared.shape.Kind.TheVariants.{Pair}
use Rattle.table_core.specs.Layout.{IsSlot, start}
use Rattle.table_core.specs.Blocks.{square_rank}
use Rattle.table_core.specs.Knowledge.{HasEachOnce, IsConsistent, IsTrueResult, KnowsBlock, KnowsSquareOf, has_result}
use Rattle.table_core.specs.Laws.{EveryResultHasItsSlot}
use Rattle.table_core.proofs.Booleans.{or_none}
use Rattle.table_core.proofs.Lists.{all_weaker}
use Rattle.table_core.proofs.Pigeons.{no_more_below}

-- the result's square stands in a pair slot
HasSlot : ℕ → KnownResult → Type 0
HasSlot bits result = IsSlot bits Pair result.square

-- which of the pair slots the result's square stands in
place : ℕ → KnownResult → ℕ
place bits result = result.square - start bits Pair

module _ (bits : ℕ) where
  apart : (first : KnownResult) (rest : List KnownResult) → HasSlot bits first → AllByRecursion (HasSlot bits) rest → has_result rest first.square ≡ false →
      AllByRecursion (λ other. eqb (place bits first) other ≡ false) (map (place bits) rest)
  unfolding HasSlot place
  apart first [] here all none = tt
  apart first (r ∷ rs) here all none =
      let parts = or_none (eqb r.square first.square) (has_result rs first.square) none in
      let other : r.square ≢ first.square = eqb-false r.square first.square parts.0 in
      let one = here.from in
      let two = all.0.from in
      (ne_eqb (place bits first) (place bits r) (λ e. other (omega (arith, e, one, two))), apart first rs here all.1 parts.1)

  distinct : (results : List KnownResult) → AllByRecursion (HasSlot bits) results → HasEachOnce results → IsDistinct eqb (map (place bits) results)
  unfolding IsDistinct
  distinct [] all once = tt
  distinct (r ∷ rs) all once = (apart r rs all.0 all.1 once.0, distinct rs all.1 once.1)

  low : (results : List KnownResult) → AllByRecursion (HasSlot bits) results → AllByRecursion (λ p. p < 2 ^ bits) (map (place bits) results)
  unfolding HasSlot place
  low [] all = tt
  low (r ∷ rs) all = ((let one = all.0.from in let two = all.0.below in omega (arith, one, two)), low rs all.1)

  few : (results : List KnownResult) → AllByRecursion (HasSlot bits) results → HasEachOnce results → length results ≤ 2 ^ bits
  few results all once =
      let most = no_more_below (map (place bits) results) (2 ^ bits) (distinct results all once) (low results all) in
      let long = length-map results (place bits) in
      omega (arith, most, long)

slot_of : (bits : ℕ) (known : Knowledge) → IsConsistent bits known → (r : KnownResult) → (3 < r.level) × (r.square ≢ 0) × KnowsSquareOf known r → HasSlot bits r
unfolding HasSlot
slot_of bits known is r h =
    let above = h.0 in
    let rank = square_rank r.level - 1 in
    let e : square_rank r.level ≡ suc rank = omega (arith, above) in
    (is.pair rank r.square h.2.0 h.1 (subst (λ k. KnowsBlock known k r.square h.2.0) e h.2.1)).0

-- what agrees with itself has no more results than there are pair slots
pub consistent_results_fit : (bits : ℕ) (known : Knowledge) → IsConsistent bits known → length known.results ≤ 2 ^ bits
consistent_results_fit bits known is = few bits known.results (all_weaker _ (HasSlot bits) (slot_of bits known is) known.results is.results) is.once

pub every_result_has_its_slot : EveryResultHasItsSlot
unfolding HasSlot
every_result_has_its_slot bits words known is = few bits known.results (all_weaker (IsTrueResult bits words) (HasSlot bits) (λ r h. h.slot) known.results is.results) is.once
