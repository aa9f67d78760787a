-- Good words are good in one way only.
use Rattle.std.specs.Prelude.{◌≡◌, ◌≢◌, ℕ, zero, suc, ◌+◌, ◌-◌, ◌^◌, ◌<◌, ◌≤◌, List, slice_index}
use Rattle.std.proofs.Common.{sym, ◌∙◌, ap, arith}
use Rattle.std.proofs.Props.{props}
use mathlib.Core.HLevel.{Σ_prop_path, Π_prop}
use Rattle.plane.specs.Plane.{Plane}
use Rattle.plane.specs.Square.{future}
use Rattle.table_core.specs.declared.key.Key.{Key}
use Rattle.table_core.specs.declared.shape.Kind.{Kind}
use Rattle.table_core.specs.declared.shape.Kind.TheVariants.{Pair}
use Rattle.table_core.specs.Layout.{IsSlot, way, result_of, first_part, second_part}
use Rattle.table_core.specs.Blocks.{Words, IsBlock, ShowsBlock, cells_of, square_rank, largest_rank}
use Rattle.table_core.specs.Good.{IsOnWay, IsFutureOf, IsPairBlock, TellsFuture, AreGoodWords}
use Rattle.table_core.proofs.Ways.{every_way, not_head}
use Rattle.table_core.proofs.Blocks.{one_rank}
use Rattle.table_core.proofs.Results.{one_level}

block_prop : (bits : ℕ) (words : Words) (rank n : ℕ) → IsProp (IsBlock bits words rank n)
block_prop bits words zero zero = hlevel props
block_prop bits words zero (suc i) = hlevel props
block_prop bits words (suc rank) zero = hlevel props
block_prop bits words (suc rank) (suc i) = hlevel (props, block_prop bits words rank (first_part (words (suc i))), block_prop bits words rank (second_part (words (suc i))))

-- the word stands at this place of its way
abbrev StandsAt : ℕ → Words → Kind → ℕ → ℕ → Type 0
StandsAt bits words kind index place =
    (place < 256) × (way bits kind (words index) place ≡ index)
    × ((earlier : ℕ) → earlier < place → words (way bits kind (words index) earlier) ≢ 0)

stands_prop : (bits : ℕ) (words : Words) (kind : Kind) (index place : ℕ) →
    IsProp (StandsAt bits words kind index place)
stands_prop bits words kind index place = hlevel props

way_prop : (bits : ℕ) (words : Words) (kind : Kind) (index : ℕ) → 10 ≤ bits → bits ≤ 28 →
    IsProp (IsOnWay bits words kind index)
way_prop bits words kind index big low a b =
    let e : a.place ≡ b.place = (every_way bits kind (words index) big low).distinct a.place b.place a.short b.short (a.here ∙ sym b.here) in
    ap (λ (t : (place : ℕ) × StandsAt bits words kind index place). record { place = t.0; short = t.1.0; here = t.1.1; filled = t.1.2 })
    (Σ_prop_path (stands_prop bits words kind index) {u = (a.place, (a.short, a.here, a.filled))} {v = (b.place, (b.short, b.here, b.filled))} e)

-- the pair is a block of this rank
abbrev IsRankOf : ℕ → Words → ℕ → ℕ → Type 0
IsRankOf bits words index rank = (rank < largest_rank) × IsBlock bits words (suc rank) index

rank_prop : (bits : ℕ) (words : Words) (index rank : ℕ) → IsProp (IsRankOf bits words index rank)
rank_prop bits words index rank = hlevel (props, block_prop bits words (suc rank) index)

pair_prop : (bits : ℕ) (words : Words) (index : ℕ) → index ≢ 0 →
    IsProp (IsPairBlock bits words index)
pair_prop bits words index some a b =
    let e : suc a.0 ≡ suc b.0 = one_rank bits words (suc a.0) (suc b.0) index a.2 b.2 some in
    ap (λ (t : (rank : ℕ) × IsRankOf bits words index rank). (t.0, t.1.0, t.1.1))
    (Σ_prop_path (rank_prop bits words index) {u = (a.0, (a.1, a.2))} {v = (b.0, (b.1, b.2))} (omega arith))

shows_prop : (bits : ℕ) (words : Words) (rank n : ℕ) (plane : Plane) →
    IsProp (ShowsBlock bits words rank n plane)
shows_prop bits words rank n plane = hlevel (props, block_prop bits words rank n)

-- the number shows the future of the square at the index, which has this level
abbrev IsFutureAt : Key → Words → ℕ → ℕ → ℕ → Type 0
IsFutureAt key words index number level =
    (3 < level) × IsBlock key.shape.bits words (square_rank level) index
    × ShowsBlock key.shape.bits words (square_rank (level - 1)) number
    (future key.rule key.exponent level (cells_of words (square_rank level) index))

future_at_prop : (key : Key) (words : Words) (index number level : ℕ) →
    IsProp (IsFutureAt key words index number level)
future_at_prop key words index number level = hlevel (
  props,
  block_prop key.shape.bits words (square_rank level) index,
  shows_prop key.shape.bits words (square_rank (level - 1)) number
      (future key.rule key.exponent level (cells_of words (square_rank level) index)),
)

future_prop : (key : Key) (words : Words) (index number : ℕ) → index ≢ 0 →
    IsProp (IsFutureOf key words index number)
future_prop key words index number some a b =
    let e : a.level ≡ b.level = one_level a.level b.level a.above b.above (one_rank key.shape.bits words (square_rank a.level) (square_rank b.level) index a.square b.square some) in
    ap (λ (t : (level : ℕ) × IsFutureAt key words index number level). record { level = t.0; above = t.1.0; square = t.1.1; shown = t.1.2 })
    (Σ_prop_path (future_at_prop key words index number) {u = (a.level, (a.above, a.square, a.shown))} {v = (b.level, (b.above, b.square, b.shown))} e)

-- the result word is that of this future
abbrev IsToldAs : Key → Words → ℕ → ℕ → Type 0
IsToldAs key words index number =
    (words (result_of key.shape.bits index) ≡ 2 ^ 32 + number) × IsFutureOf key words index number

told_prop : (key : Key) (words : Words) (index : ℕ) → index ≢ 0 → (number : ℕ) →
    IsProp (IsToldAs key words index number)
told_prop key words index some number = hlevel (props, future_prop key words index number some)

has_prop : (key : Key) (words : Words) (index : ℕ) → index ≢ 0 →
    IsProp (TellsFuture key words index)
has_prop key words index some a b =
    let e : a.0 ≡ b.0 = let t : 2 ^ 32 + a.0 ≡ 2 ^ 32 + b.0 = sym a.1 ∙ b.1 in omega arith in
    ap (λ (t : (number : ℕ) × IsToldAs key words index number). (t.0, t.1.0, t.1.1))
    (Σ_prop_path (told_prop key words index some) {u = (a.0, (a.1, a.2))} {v = (b.0, (b.1, b.2))} e)

slot_some : (bits : ℕ) (index : ℕ) → IsSlot bits Pair index → index ≢ 0
slot_some bits index slot = not_head bits Pair index slot

ways_prop : (key : Key) (words : Words) →
    IsProp
    ((kind : Kind) (i : ℕ) → IsSlot key.shape.bits kind i → words i ≢ 0 →
    IsOnWay key.shape.bits words kind i)
ways_prop key words = Π_prop (λ kind. Π_prop (λ i. Π_prop (λ slot. Π_prop (λ some. way_prop key.shape.bits words kind i key.shape.range.0 key.shape.range.1))))

blocks_prop : (key : Key) (words : Words) →
    IsProp
    ((i : ℕ) → IsSlot key.shape.bits Pair i → words i ≢ 0 → IsPairBlock key.shape.bits words i)
blocks_prop key words = Π_prop (λ i. Π_prop (λ slot. Π_prop (λ some. pair_prop key.shape.bits words i (slot_some key.shape.bits i slot))))

results_prop : (key : Key) (words : Words) →
    IsProp
    ((i : ℕ) → IsSlot key.shape.bits Pair i → words (result_of key.shape.bits i) ≢ 0 →
    TellsFuture key words i)
results_prop key words = Π_prop (λ i. Π_prop (λ slot. Π_prop (λ some. has_prop key words i (slot_some key.shape.bits i slot))))

pub good_prop : (key : Key) (words : List ℕ) → IsProp (AreGoodWords key words)
good_prop key words = hlevel (props, ways_prop key (slice_index words), blocks_prop key (slice_index words), results_prop key (slice_index words))
