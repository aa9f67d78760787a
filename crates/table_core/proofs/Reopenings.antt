-- Words that a table begins with.
use Rattle.std.proofs.Common.{◌≡◌, ◌≢◌, ℕ, suc, ◌+◌, ◌-◌, ◌^◌, ◌<◌, ◌≤◌, ◌⊎◌, sym, ◌∙◌, ap, subst, arith, ⊎_elim}
use Rattle.std.specs.Prelude.{min}
use Rattle.plane.specs.Plane.{Plane, after}
use Rattle.plane.specs.Square.{centre_of, future}
use Rattle.rule_text.specs.CountRule.{CountRule}
use Rattle.table_core.specs.declared.key.Key.{Key}
use Rattle.table_core.specs.declared.shape.Shape.{Shape}
use Rattle.table_core.specs.declared.shape.Kind.{Kind}
use Rattle.table_core.specs.declared.shape.Kind.TheVariants.{Pair}
use Rattle.table_core.specs.Layout.{IsSlot, way, result_of}
use Rattle.table_core.specs.Blocks.{Words, IsBlock, cells_of, square_rank, ShowsBlock}
use Rattle.table_core.specs.Good.{IsOnWay, IsFutureOf, IsGood}
use Rattle.table_core.specs.Opening.{KeepsResult, AreOpening, Reopens, EveryFreshTable, EveryReopening}
use Rattle.table_core.proofs.Ways.{not_head, way_is_slot}
use Rattle.table_core.proofs.Comparisons.{same_or_other}
use Rattle.table_core.proofs.Blocks.{KeepsSlots, one_rank, block_stays, cells_stay, shows_stay}

pub every_fresh_table : EveryFreshTable
every_fresh_table key words low fresh = record {
  names = fresh.names;
  fits = λ i. ⊎_elim (λ e. subst (λ w. w < 2 ^ 64) (sym (ap words e ∙ fresh.names)) low) (λ n. subst (λ w. w < 2 ^ 64) (sym (fresh.vacant i n)) (let z : 0 < 2 ^ 64 = omega arith in z)) (same_or_other i 0);
  once = λ kind i j si sj some same. absurd (some (fresh.vacant i (not_head key.shape.bits kind i si)));
  on_way = λ kind i si some. absurd (some (fresh.vacant i (not_head key.shape.bits kind i si)));
  blocks = λ i si some. absurd (some (fresh.vacant i (not_head key.shape.bits Pair i si)));
  results = λ i si some. absurd (some (fresh.vacant (result_of key.shape.bits i) (λ e. not_head key.shape.bits Pair i si (omega arith))));
}

-- the future is the same under both heads, where the result stays
same_time : (e f level : ℕ) → (e ≡ f) ⊎ (level - 2 ≤ min e f) → min e (level - 2) ≡ min f (level - 2)
same_time e f level h = ⊎_elim (λ t. ap (λ n. min n (level - 2)) t) (λ t. omega arith) h

pub same_future : (was key : Key) (level : ℕ) (plane : Plane) → KeepsResult was key level →
    future was.rule was.exponent level plane ≡ future key.rule key.exponent level plane
same_future was key level plane keeps =
    ap (λ (r : CountRule). future r was.exponent level plane) keeps.0
    ∙ ap (λ n. centre_of level (after key.rule plane (2 ^ n))) (same_time was.exponent key.exponent level keeps.1)

module _ (was key : Key) (old new : Words) (good : IsGood was old) (r : Reopens was key old new) where
  keeps : KeepsSlots was.shape.bits old new
  keeps = record { kept = λ kind i slot some. r.slots kind i slot }

  bits : key.shape.bits ≡ was.shape.bits
  bits = ap (λ (s : Shape). s.bits) r.shape

  slot_was : (kind : Kind) (i : ℕ) → IsSlot key.shape.bits kind i → IsSlot was.shape.bits kind i
  slot_was kind i slot = subst (λ b. IsSlot b kind i) bits slot

  old_some : (kind : Kind) (i : ℕ) → IsSlot was.shape.bits kind i → new i ≢ 0 → old i ≢ 0
  old_some kind i slot some z = some (r.slots kind i slot ∙ z)

  -- a result that is still there was there before, and is the same under both heads
  still_there : (i : ℕ) → IsSlot was.shape.bits Pair i → new (result_of was.shape.bits i) ≢ 0 →
      (n : ℕ) × (future_of : IsFutureOf was old i n) × KeepsResult was key future_of.level × (new (result_of was.shape.bits i) ≡ 2 ^ 32 + n)
  still_there i slot some =
      let before = good.results i slot (λ z. some (r.vacant i slot z)) in
      let f : IsFutureOf was old i before.0 = before.2 in
      ⊎_elim (λ t. (before.0, f, t.0, t.1 ∙ before.1)) (λ t. absurd (some t.1)) (r.results i f.level slot f.above f.square)

  way_stays : (kind : Kind) (i : ℕ) → IsSlot was.shape.bits kind i → old i ≢ 0 → IsOnWay was.shape.bits new kind i
  way_stays kind i slot some =
      let h = good.on_way kind i slot some in
      let same = r.slots kind i slot in
      record {
        place = h.place;
        short = h.short;
        here = ap (λ w. way was.shape.bits kind w h.place) same ∙ h.here;
        filled = λ earlier less. subst (λ w. new (way was.shape.bits kind w earlier) ≢ 0) (sym same)
            (λ e. h.filled earlier less (sym (r.slots kind _ (way_is_slot was.shape.bits kind (old i) earlier was.shape.range.0 (let k = was.shape.range.1 in omega arith))) ∙ e));
      }

  still_future : (i n : ℕ) → (f : IsFutureOf was old i n) → KeepsResult was key f.level → IsFutureOf key new i n
  still_future i n f keeps_result =
      let before = cells_of old (square_rank f.level) i in
      let one : ShowsBlock was.shape.bits new (square_rank (f.level - 1)) n (future was.rule was.exponent f.level (cells_of old (square_rank f.level) i)) = shows_stay was.shape.bits old new (square_rank (f.level - 1)) n _ keeps f.shown in
      let two = subst (λ plane. ShowsBlock was.shape.bits new (square_rank (f.level - 1)) n plane) (same_future was key f.level (cells_of old (square_rank f.level) i) keeps_result) one in
      let three = subst (λ plane. ShowsBlock was.shape.bits new (square_rank (f.level - 1)) n (future key.rule key.exponent f.level plane)) (sym (cells_stay was.shape.bits old new keeps (square_rank f.level) i f.square)) two in
      record {
        level = f.level;
        above = f.above;
        square = subst (λ b. IsBlock b new (square_rank f.level) i) (sym bits) (block_stays was.shape.bits old new keeps (square_rank f.level) i f.square);
        shown = subst (λ b. ShowsBlock b new (square_rank (f.level - 1)) n (future key.rule key.exponent f.level (cells_of new (square_rank f.level) i))) (sym bits) three;
      }

  pub reopened_good : IsGood key new
  reopened_good = record {
    names = r.names;
    fits = r.fits;
    once = λ kind i j si sj some same.
        let ti = slot_was kind i si in let tj = slot_was kind j sj in
        good.once kind i j ti tj (old_some kind i ti some) (sym (r.slots kind i ti) ∙ same ∙ r.slots kind j tj);
    on_way = λ kind i si some. subst (λ b. IsOnWay b new kind i) (sym bits) (way_stays kind i (slot_was kind i si) (old_some kind i (slot_was kind i si) some));
    blocks = λ i si some. let t = good.blocks i (slot_was Pair i si) (old_some Pair i (slot_was Pair i si) some) in
        (t.0, t.1, subst (λ b. IsBlock b new (suc t.0) i) (sym bits) (block_stays was.shape.bits old new keeps (suc t.0) i t.2));
    results = λ i si some.
        let t = still_there i (slot_was Pair i si) (λ z. some (ap (λ b. new (result_of b i)) bits ∙ z)) in
        (t.0, ap (λ b. new (result_of b i)) bits ∙ t.3, still_future i t.0 t.1 t.2);
  }

  -- a result that may not stay is gone
  gone : (i : ℕ) → IsSlot key.shape.bits Pair i →
      ((level : ℕ) → 3 < level → IsBlock was.shape.bits old (square_rank level) i → KeepsResult was key level → ⊥) →
      new (result_of key.shape.bits i) ≡ 0
  gone i si none = ⊎_elim (λ z. z)
      (λ some. let t = still_there i (slot_was Pair i si) (λ z. some (ap (λ b. new (result_of b i)) bits ∙ z)) in absurd (none t.1.level t.1.above t.1.square t.2))
      (same_or_other (new (result_of key.shape.bits i)) 0)

  block_was : (rank i : ℕ) → i ≢ 0 → IsBlock key.shape.bits new rank i → (other : ℕ) → IsBlock was.shape.bits old other i → rank ≡ other
  block_was rank i some b other c = one_rank was.shape.bits new rank other i (subst (λ n. IsBlock n new rank i) bits b) (block_stays was.shape.bits old new keeps other i c) some

  reopened : AreOpening was key new
  reopened = record {
    good = reopened_good;
    by_rule = λ other i si. gone i si (λ level above square k. other k.0);
    by_exponent = λ rule other i level si square short. gone i si (λ l above before k. ⊎_elim other
        (λ low.
        let same : square_rank level ≡ square_rank l = block_was (square_rank level) i (not_head key.shape.bits Pair i si) square (square_rank l) before in
        let levels : l - 2 ≡ level - 2 = omega arith in omega arith) k.1);
  }

pub every_reopening : EveryReopening
every_reopening was key old new good r = reopened was key old new good r
