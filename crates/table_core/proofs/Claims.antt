-- A word that comes to a zero slot keeps the words good.
use Rattle.std.proofs.Common.{◌≡◌, ◌≢◌, ℕ, zero, suc, ◌+◌, ◌-◌, ◌^◌, ◌<◌, ◌≤◌, sym, ◌∙◌, ap, subst, arith, ⊎_elim}
use Rattle.plane.specs.Square.{future}
use Rattle.table_core.specs.declared.shape.Kind.{Kind}
use Rattle.table_core.specs.declared.shape.Kind.TheVariants.{Pair}
use Rattle.table_core.specs.Layout.{IsSlot, way, result_of, first_part, second_part}
use Rattle.table_core.specs.Blocks.{Words, IsBlock, cells_of, square_rank, ShowsBlock, largest_rank}
use Rattle.table_core.specs.declared.key.Key.{Key}
use Rattle.table_core.specs.Good.{IsOnWay, IsFutureOf, IsGood, KeepsWords, PartsStand}
use Rattle.table_core.proofs.Ways.{one_kind, not_head, not_result, way_is_slot}
use Rattle.table_core.proofs.Comparisons.{ordered, same_or_other}
use Rattle.table_core.proofs.Blocks.{block_kept, cells_kept, shows_kept}

-- the word comes to the index, where 0 stood, and nowhere else anything
pub record Fills (old new : Words) (index word : ℕ) : Type 0 where
  pub free : old index ≡ 0
  pub now : new index ≡ word
  pub others : (other : ℕ) → other ≢ index → new other ≡ old other

-- the word may come to the index: at each earlier place of its way another word stands, and its
-- parts are there
pub record MayStand (bits : ℕ) (words : Words) (kind : Kind) (index word : ℕ) : Type 0 where
  pub some : word ≢ 0
  pub fits : word < 2 ^ 64
  pub place : ℕ
  pub short : place < 256
  pub here : way bits kind word place ≡ index
  pub before : (earlier : ℕ) → earlier < place →
      (words (way bits kind word earlier) ≢ 0) × (words (way bits kind word earlier) ≢ word)
  pub parts : PartsStand bits words kind word

pub fills_keeps : (old new : Words) (index word : ℕ) → Fills old new index word → KeepsWords old new
fills_keeps old new index word h = record {
  kept = λ i some. ⊎_elim (λ e. absurd (some (ap old e ∙ h.free))) (λ e. h.others i e) (same_or_other i index);
}

-- what stands on its way stays on it
pub way_kept : (bits : ℕ) (old new : Words) (kind : Kind) (i : ℕ) → KeepsWords old new → old i ≢ 0 → IsOnWay bits old kind i → IsOnWay bits new kind i
way_kept bits old new kind i keeps some h =
    let same = keeps.kept i some in
    record {
      place = h.place;
      short = h.short;
      here = ap (λ w. way bits kind w h.place) same ∙ h.here;
      filled = λ earlier less. subst (λ w. new (way bits kind w earlier) ≢ 0) (sym same) (λ e. h.filled earlier less (sym (keeps.kept _ (h.filled earlier less)) ∙ e));
    }

-- a word that may come stands nowhere yet
absent : (key : Key) (words : Words) (kind : Kind) (index word i : ℕ) → IsGood key words → words index ≡ 0 →
    MayStand key.shape.bits words kind index word → IsSlot key.shape.bits kind i → words i ≢ word
absent key words kind index word i good free may slot e =
    let t : IsOnWay key.shape.bits words kind i = good.on_way kind i slot (λ z. may.some (sym e ∙ z)) in
    let here : way key.shape.bits kind word t.place ≡ i = ap (λ w. way key.shape.bits kind w t.place) (sym e) ∙ t.here in
    ⊎_elim (λ less. (may.before t.place less).1 (ap words here ∙ e))
    (λ u. ⊎_elim (λ same. may.some (sym e ∙ ap words (sym here ∙ ap (way key.shape.bits kind word) same ∙ may.here) ∙ free))
    (λ more. t.filled may.place more (ap (λ w. words (way key.shape.bits kind w may.place)) e ∙ ap words may.here ∙ free)) u)
    (ordered t.place may.place)

-- a pair's word whose parts stand shows a block
pub pair_block : (bits : ℕ) (words : Words) (rank i : ℕ) → IsSlot bits Pair i → words i ≢ 0 → IsBlock bits words rank (first_part (words i)) →
    IsBlock bits words rank (second_part (words i)) → IsBlock bits words (suc rank) i
pair_block bits words rank zero slot some one two = tt
pair_block bits words rank (suc i) slot some one two = (slot, some, one, two)

pub future_kept : (key : Key) (old new : Words) (i n : ℕ) → KeepsWords old new → IsFutureOf key old i n → IsFutureOf key new i n
future_kept key old new i n keeps h = record {
  level = h.level;
  above = h.above;
  square = block_kept key.shape.bits old new keeps (square_rank h.level) i h.square;
  shown = subst (λ plane. ShowsBlock key.shape.bits new (square_rank (h.level - 1)) n (future key.rule key.exponent h.level plane)) (sym (cells_kept key.shape.bits old new keeps (square_rank h.level) i h.square))
      (shows_kept key.shape.bits old new (square_rank (h.level - 1)) n (future key.rule key.exponent h.level (cells_of old (square_rank h.level) i)) keeps h.shown);
}

pub slot_of : (bits : ℕ) (words : Words) (kind : Kind) (index word : ℕ) → 10 ≤ bits → bits ≤ 64 → MayStand bits words kind index word →
    IsSlot bits kind index
slot_of bits words kind index word big low may = subst (IsSlot bits kind) may.here (way_is_slot bits kind word may.place big low)

module _ (key : Key) (old new : Words) (kind : Kind) (index word : ℕ) (slot : IsSlot key.shape.bits kind index) (good : IsGood key old) (may : MayStand key.shape.bits old kind index word) (fills : Fills old new index word) where
  kept : KeepsWords old new
  kept = fills_keeps old new index word fills

  -- only the new word is new
  only_new : (other : Kind) (i j : ℕ) → IsSlot key.shape.bits other i → IsSlot key.shape.bits other j → i ≡ index → j ≢ index → new i ≡ new j → ⊥
  only_new other i j si sj e n same =
      let k : other ≡ kind = one_kind key.shape.bits other kind i si (subst (IsSlot key.shape.bits kind) (sym e) slot) in
      absent key old kind index word j good fills.free may (subst (λ a. IsSlot key.shape.bits a j) k sj) (sym (fills.others j n) ∙ sym same ∙ ap new e ∙ fills.now)

  once_still : (other : Kind) (i j : ℕ) → IsSlot key.shape.bits other i → IsSlot key.shape.bits other j → new i ≢ 0 → new i ≡ new j → i ≡ j
  once_still other i j si sj some same = ⊎_elim
      (λ e. ⊎_elim (λ f. e ∙ sym f) (λ n. absurd (only_new other i j si sj e n same)) (same_or_other j index))
      (λ m. ⊎_elim (λ f. absurd (only_new other j i sj si f m (sym same))) (λ n.
      good.once other i j si sj (λ z. some (fills.others i m ∙ z)) (sym (fills.others i m) ∙ same ∙ fills.others j n)) (same_or_other j index))
      (same_or_other i index)

  way_now : IsOnWay key.shape.bits new kind index
  way_now = record {
    place = may.place;
    short = may.short;
    here = ap (λ w. way key.shape.bits kind w may.place) fills.now ∙ may.here;
    filled = λ earlier less. let was = (may.before earlier less).0 in
        subst (λ w. new (way key.shape.bits kind w earlier) ≢ 0) (sym fills.now) (λ e. was (sym (kept.kept (way key.shape.bits kind word earlier) was) ∙ e));
  }

  way_still : (other : Kind) (i : ℕ) → IsSlot key.shape.bits other i → new i ≢ 0 → IsOnWay key.shape.bits new other i
  way_still other i si some = ⊎_elim
      (λ e. let k : other ≡ kind = one_kind key.shape.bits other kind i si (subst (IsSlot key.shape.bits kind) (sym e) slot) in
      subst (λ a. IsOnWay key.shape.bits new a i) (sym k) (subst (IsOnWay key.shape.bits new kind) (sym e) way_now))
      (λ n. let was : old i ≢ 0 = λ z. some (fills.others i n ∙ z) in way_kept key.shape.bits old new other i kept was (good.on_way other i si was))
      (same_or_other i index)

  block_now : kind ≡ Pair → (rank : ℕ) × (rank < largest_rank) × IsBlock key.shape.bits new (suc rank) index
  block_now k =
      let p : PartsStand key.shape.bits old Pair word = subst (λ a. PartsStand key.shape.bits old a word) k may.parts in
      let now = sym fills.now in (
        p.0,
        p.1,
        pair_block key.shape.bits new p.0 index (subst (λ a. IsSlot key.shape.bits a index) k slot) (λ z. may.some (now ∙ z))
            (subst (λ w. IsBlock key.shape.bits new p.0 (first_part w)) now (block_kept key.shape.bits old new kept p.0 (first_part word) p.2))
            (subst (λ w. IsBlock key.shape.bits new p.0 (second_part w)) now (block_kept key.shape.bits old new kept p.0 (second_part word) p.3)),
      )

  blocks_still : (i : ℕ) → IsSlot key.shape.bits Pair i → new i ≢ 0 → (rank : ℕ) × (rank < largest_rank) × IsBlock key.shape.bits new (suc rank) i
  blocks_still i si some = ⊎_elim
      (λ e. let t = block_now (one_kind key.shape.bits kind Pair i (subst (IsSlot key.shape.bits kind) (sym e) slot) si) in (t.0, t.1, subst (IsBlock key.shape.bits new (suc t.0)) (sym e) t.2))
      (λ n. let t = good.blocks i si (λ z. some (fills.others i n ∙ z)) in (t.0, t.1, block_kept key.shape.bits old new kept (suc t.0) i t.2))
      (same_or_other i index)

  results_still : (i : ℕ) → IsSlot key.shape.bits Pair i → new (result_of key.shape.bits i) ≢ 0 →
      (n : ℕ) × (new (result_of key.shape.bits i) ≡ 2 ^ 32 + n) × IsFutureOf key new i n
  results_still i si some =
      let same : new (result_of key.shape.bits i) ≡ old (result_of key.shape.bits i) = fills.others (result_of key.shape.bits i) (λ e. not_result key.shape.bits kind index i slot si (sym e)) in
      let t = good.results i si (λ z. some (same ∙ z)) in
      (t.0, same ∙ t.1, future_kept key old new i t.0 kept t.2)

  -- a claimed word keeps the words good
  pub claim_good : IsGood key new
  claim_good = record {
    names = fills.others 0 (λ e. not_head key.shape.bits kind index slot (sym e)) ∙ good.names;
    fits = λ i. ⊎_elim (λ e. subst (λ w. w < 2 ^ 64) (sym (ap new e ∙ fills.now)) may.fits) (λ n. subst (λ w. w < 2 ^ 64) (sym (fills.others i n)) (good.fits i)) (same_or_other i index);
    once = once_still;
    on_way = way_still;
    blocks = blocks_still;
    results = results_still;
  }

-- a told result keeps the words good
module _ (key : Key) (old new : Words) (index n : ℕ) (slot : IsSlot key.shape.bits Pair index) (good : IsGood key old) (low : n < 2 ^ 32) (is : IsFutureOf key old index n) (fills : Fills old new (result_of key.shape.bits index) (2 ^ 32 + n)) where
  untouched : (kind : Kind) (i : ℕ) → IsSlot key.shape.bits kind i → new i ≡ old i
  untouched kind i si = fills.others i (not_result key.shape.bits kind i index si slot)

  keeps_all : KeepsWords old new
  keeps_all = fills_keeps old new (result_of key.shape.bits index) (2 ^ 32 + n) fills

  pub tell_good : IsGood key new
  tell_good = record {
    names = fills.others 0 (λ e. absurd (not_head key.shape.bits Pair index slot (omega arith))) ∙ good.names;
    fits = λ i. ⊎_elim (λ e. subst (λ w. w < 2 ^ 64) (sym (ap new e ∙ fills.now)) (omega arith)) (λ m. subst (λ w. w < 2 ^ 64) (sym (fills.others i m)) (good.fits i)) (same_or_other i (result_of key.shape.bits index));
    once = λ kind i j si sj some same. good.once kind i j si sj (λ z. some (untouched kind i si ∙ z)) (sym (untouched kind i si) ∙ same ∙ untouched kind j sj);
    on_way = λ kind i si some. let was : old i ≢ 0 = λ z. some (untouched kind i si ∙ z) in way_kept key.shape.bits old new kind i keeps_all was (good.on_way kind i si was);
    blocks = λ i si some. let t = good.blocks i si (λ z. some (untouched Pair i si ∙ z)) in (t.0, t.1, block_kept key.shape.bits old new keeps_all (suc t.0) i t.2);
    results = λ i si some. ⊎_elim
        (λ e. let same : i ≡ index = omega arith in (n, ap new e ∙ fills.now, future_kept key old new i n keeps_all (subst (λ k. IsFutureOf key old k n) (sym same) is)))
        (λ m. let same = fills.others (result_of key.shape.bits i) m in let t = good.results i si (λ z. some (same ∙ z)) in (t.0, same ∙ t.1, future_kept key old new i t.0 keeps_all t.2))
        (same_or_other (result_of key.shape.bits i) (result_of key.shape.bits index));
  }
