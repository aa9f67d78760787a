-- What words show.
use Rattle.std.proofs.Common.{◌≡◌, ◌≢◌, ℕ, zero, suc, ◌+◌, ◌-◌, ◌^◌, ◌<◌, sym, ◌∙◌, subst, arith, refl}
use Rattle.plane.specs.Plane.{Plane}
use Rattle.plane.specs.Square.{bits_plane, future}
use Rattle.plane.specs.Block.{IsInside}
use Rattle.plane.proofs.Same.{same_refl, plane_equal}
use Rattle.table_core.specs.declared.key.Key.{Key}
use Rattle.table_core.specs.declared.knowledge.Knowledge.{Knowledge}
use Rattle.table_core.specs.declared.shape.Kind.{Kind}
use Rattle.table_core.specs.declared.shape.Kind.TheVariants.{Leaf, Pair}
use Rattle.table_core.specs.Layout.{IsSlot, way, result_of, first_part, second_part}
use Rattle.table_core.specs.Blocks.{Words, paired, width, height, cells_of, square_rank, ShowsBlock}
use Rattle.table_core.specs.Good.{IsFutureOf, IsGood, PartsStand}
use Rattle.table_core.specs.Knowledge.{IsTrueOf}
use Rattle.table_core.specs.Lawful.{KnowsPartsFor, MayClaim, MayTell}
use Rattle.table_core.proofs.Ways.{not_head}
use Rattle.table_core.proofs.Blocks.{one_rank, cells_inside, paired_first, paired_second, paired_same}
use Rattle.table_core.proofs.Claims.{MayStand}
use Rattle.table_core.proofs.Results.{one_level}
use Rattle.table_core.proofs.Knowing.{seen_true, block_true}

-- what a number shows lies inside its block
pub shows_inside : (bits : ℕ) (words : Words) (rank n : ℕ) (plane : Plane) → ShowsBlock bits words rank n plane → IsInside (width rank) (height rank) plane
shows_inside bits words rank n plane h = subst (IsInside (width rank) (height rank)) (plane_equal _ _ h.cells) (cells_inside words rank n)

pub leaf_shows : (bits : ℕ) (words : Words) (index : ℕ) → IsSlot bits Leaf index → words index ≢ 0 →
    ShowsBlock bits words 0 index (bits_plane (words index))
leaf_shows bits words zero slot some = let low = slot.from in absurd (omega arith)
leaf_shows bits words (suc i) slot some = record { stands = (slot, some); cells = same_refl (bits_plane (words (suc i))) }

pub pair_shows : (bits : ℕ) (words : Words) (rank index : ℕ) (one two : Plane) → IsSlot bits Pair index → words index ≢ 0 →
    ShowsBlock bits words rank (first_part (words index)) one → ShowsBlock bits words rank (second_part (words index)) two →
    ShowsBlock bits words (suc rank) index (paired rank one two)
pair_shows bits words rank zero one two slot some h k = let low = slot.from in absurd (omega arith)
pair_shows bits words rank (suc i) one two slot some h k = record {
  stands = (slot, some, h.stands, k.stands);
  cells = paired_same rank _ _ _ _ h.cells k.cells;
}

pub parts_show : (bits : ℕ) (words : Words) (rank index : ℕ) (one two : Plane) → index ≢ 0 → IsInside (width rank) (height rank) one →
    IsInside (width rank) (height rank) two → ShowsBlock bits words (suc rank) index (paired rank one two) →
    ShowsBlock bits words rank (first_part (words index)) one × ShowsBlock bits words rank (second_part (words index)) two
parts_show bits words rank zero one two some ha hb h = absurd (some refl)
parts_show bits words rank (suc i) one two some ha hb h =
    let p = first_part (words (suc i)) in let q = second_part (words (suc i)) in (
      record { stands = h.stands.2; cells = paired_first rank (cells_of words rank p) (cells_of words rank q) one two (cells_inside words rank p) ha h.cells },
      record { stands = h.stands.3; cells = paired_second rank (cells_of words rank p) (cells_of words rank q) one two (cells_inside words rank q) hb h.cells },
    )

-- a result word's number shows the future
pub result_shows : (key : Key) (words : Words) (pair level number : ℕ) (plane : Plane) → IsGood key words → IsSlot key.shape.bits Pair pair →
    3 < level → ShowsBlock key.shape.bits words (square_rank level) pair plane → words (result_of key.shape.bits pair) ≡ 2 ^ 32 + number →
    ShowsBlock key.shape.bits words (square_rank (level - 1)) number (future key.rule key.exponent level plane)
result_shows key words pair level number plane good slot above square e =
    let t = good.results pair slot (λ z. let no : 2 ^ 32 + number ≡ 0 = sym e ∙ z in omega arith) in
    let f : IsFutureOf key words pair t.0 = t.2 in
    let same : t.0 ≡ number = let k : 2 ^ 32 + t.0 ≡ 2 ^ 32 + number = sym t.1 ∙ e in omega arith in
    let levels : f.level ≡ level = one_level f.level level f.above above (one_rank key.shape.bits words (square_rank f.level) (square_rank level) pair f.square square.stands (not_head key.shape.bits Pair pair slot)) in
    let one = subst (λ l. ShowsBlock key.shape.bits words (square_rank (l - 1)) t.0 (future key.rule key.exponent l (cells_of words (square_rank l) pair))) levels f.shown in
    let two = subst (λ p. ShowsBlock key.shape.bits words (square_rank (level - 1)) t.0 (future key.rule key.exponent level p)) (plane_equal _ _ square.cells) one in
    subst (λ n. ShowsBlock key.shape.bits words (square_rank (level - 1)) n (future key.rule key.exponent level plane)) same two

parts_true : (bits : ℕ) (words : Words) (known : Knowledge) (kind : Kind) (word : ℕ) → IsTrueOf bits words known → KnowsPartsFor known kind word →
    PartsStand bits words kind word
parts_true bits words known Leaf word h knows = tt
parts_true bits words known Pair word h knows =
    (knows.rank, knows.low, (block_true bits words known knows.rank (first_part word) knows.one h knows.both.first).stands, (block_true bits words known knows.rank (second_part word) knows.two h knows.both.second).stands)

-- a lawful claim is of a word that may come
pub claim_may : (bits : ℕ) (words : Words) (known : Knowledge) (index word : ℕ) → IsTrueOf bits words known →
    (lawful : MayClaim bits known index word) → MayStand bits words lawful.kind index word
claim_may bits words known index word h lawful = record {
  some = lawful.some;
  fits = lawful.fits;
  place = lawful.place;
  short = lawful.short;
  here = lawful.here;
  before = λ earlier less.
      let t = lawful.before earlier less in let s = seen_true bits words known (way bits lawful.kind word earlier) t.0 h t.1 in
      ((λ e. s.1 (sym s.0 ∙ e)), (λ e. t.2 (sym s.0 ∙ e)));
  parts = parts_true bits words known lawful.kind word h lawful.parts;
}

-- a told number shows the future
pub tell_is : (key : Key) (words : Words) (known : Knowledge) (index n : ℕ) → IsTrueOf key.shape.bits words known →
    (lawful : MayTell key known index n) → IsFutureOf key words lawful.of.square n
tell_is key words known index n h lawful =
    let q = lawful.of in
    let square : ShowsBlock key.shape.bits words (square_rank q.level) q.square q.plane = block_true key.shape.bits words known (square_rank q.level) q.square q.plane h q.shown in
    let shown : ShowsBlock key.shape.bits words (square_rank (q.level - 1)) n (future key.rule key.exponent q.level q.plane) = block_true key.shape.bits words known (square_rank (q.level - 1)) n (future key.rule key.exponent q.level q.plane) h lawful.shown in
    record {
      level = q.level;
      above = q.above;
      square = square.stands;
      shown = subst (λ plane. ShowsBlock key.shape.bits words (square_rank (q.level - 1)) n (future key.rule key.exponent q.level plane)) (sym (plane_equal _ _ square.cells)) shown;
    }
