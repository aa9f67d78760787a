-- What desks know of the words of their table.
use Rattle.std.proofs.Common.{◌≡◌, ◌≢◌, ℕ, zero, suc, ◌-◌, ◌^◌, ◌<◌, sym, subst, arith, ⊎_elim}
use Rattle.std.specs.Prelude.{IsTrue}
use Rattle.std.proofs.Math.Logic.{∥∥₁_elim}
use Rattle.std.proofs.Props.{props}
use Rattle.plane.specs.Plane.{Plane}
use Rattle.plane.specs.Square.{IsSame, bits_plane}
use Rattle.squares.specs.declared.sq.Sq.{Sq}
use Rattle.table_core.specs.declared.key.Key.{Key}
use Rattle.table_core.specs.declared.knowledge.Knowledge.{Knowledge}
use Rattle.table_core.specs.declared.shape.Kind.{Kind}
use Rattle.table_core.specs.declared.shape.Kind.TheVariants.{Leaf, Pair}
use Rattle.table_core.specs.Layout.{IsSlot, size, first_part, second_part, pair_of}
use Rattle.table_core.specs.Blocks.{square_rank}
use Rattle.table_core.specs.declared.rank.TheConstants.{LARGEST_RANK}
use Rattle.table_core.specs.Knowledge.{KnowsBlock, Grows}
use Rattle.table_core.specs.Lawful.{KnowsParts}
use Rattle.table_core.specs.Learning.{MeetsWord}
use Rattle.table_core.specs.FullShards.{KnowsFullShard, knows_full_shard}
use Rattle.table_core.proofs.Comparisons.{same_or_other}
use Rattle.table_core.proofs.FullShards.{full_shard, full_shard_is_seen}
use Rattle.table_core.proofs.Knowing.{knows_grown}
use Rattle.table_core.proofs.Ways.{slot_below, size_fits}
use Rattle.node_table.specs.declared.at.At.{At}
use Rattle.node_table.specs.declared.desk.Desk.{Desk}
use Rattle.node_table.specs.declared.table.NodeTable.{NodeTable}
use Rattle.node_table.specs.Books.{knows_in, known_cells, IsCoherent}
use Rattle.node_table.specs.Desks.{IsDeskOf}
use Rattle.node_table.specs.Refusals.{known_by}
use Rattle.table_core.specs.FullWays.{KnowsFullWay}
use Rattle.node_table.proofs.Books.{alike}
use Rattle.node_table.proofs.Entries.{block_of, halved}

pub coherent_at : (table : NodeTable) (desk : Desk) → IsDeskOf table desk → ∥ IsCoherent table.key.shape.bits desk.seat.me.0.known ∥₁
coherent_at table desk d = (desk.sound table.key d.same_key).coherent

pub coherent_here : (at : At) → ∥ IsCoherent at.table.now.key.shape.bits (known_by at.desk) ∥₁
coherent_here at = coherent_at at.table.now at.desk at.of_table

slot_prop : (bits : ℕ) (kind : Kind) (n : ℕ) → IsProp (IsSlot bits kind n)
slot_prop bits kind n = hlevel props

pub leaf_slot : (bits : ℕ) (known : Knowledge) (n : ℕ) (plane : Plane) → ∥ IsCoherent bits known ∥₁ → n ≢ 0 → KnowsBlock known 0 n plane → IsSlot bits Leaf n
leaf_slot bits known n plane h some knows = ∥∥₁_elim h (slot_prop bits Leaf n) (λ t. t.consistent.leaf n plane some knows)

pub pair_slot : (bits : ℕ) (known : Knowledge) (rank n : ℕ) (plane : Plane) → ∥ IsCoherent bits known ∥₁ → n ≢ 0 → KnowsBlock known (suc rank) n plane → IsSlot bits Pair n
pair_slot bits known rank n plane h some knows = ∥∥₁_elim h (slot_prop bits Pair n) (λ t. (t.consistent.pair rank n plane some knows).0)

below_size : (bits : ℕ) (known : Knowledge) (rank n : ℕ) (plane : Plane) → ∥ IsCoherent bits known ∥₁ → n ≢ 0 → KnowsBlock known rank n plane → n < size bits
below_size bits known zero n plane h some knows = slot_below bits Leaf n (leaf_slot bits known n plane h some knows)
below_size bits known (suc rank) n plane h some knows = slot_below bits Pair n (pair_slot bits known rank n plane h some knows)

-- the number of a known block is the index of a word
pub in_table : (at : At) (rank n : ℕ) (plane : Plane) → n ≢ 0 → KnowsBlock (known_by at.desk) rank n plane → n < at.table.now.table.shared.table_id.words
in_table at rank n plane some knows =
    let table = at.table.now in
    let less : n < size table.key.shape.bits = below_size table.key.shape.bits (known_by at.desk) rank n plane (coherent_here at) some knows in
    subst (λ m. n < m) (sym table.long) less

pub below_limit : (key : Key) (known : Knowledge) (rank n : ℕ) (plane : Plane) → ∥ IsCoherent key.shape.bits known ∥₁ → KnowsBlock known rank n plane → n < 2 ^ 32
below_limit key known rank n plane h knows = ⊎_elim
    (λ e. omega arith)
    (λ some.
    let less : n < size key.shape.bits = below_size key.shape.bits known rank n plane h some knows in
    let fits = size_fits key.shape.bits key.shape.range.1 in omega arith)
    (same_or_other n 0)

first_is : (a b : ℕ) → b < 2 ^ 32 → first_part (pair_of a b) ≡ a
first_is a b h = omega arith

second_is : (a b : ℕ) → b < 2 ^ 32 → second_part (pair_of a b) ≡ b
second_is a b h = omega arith

-- two known blocks of one rank are the parts of their pair's word
pub knows_parts : (key : Key) (known : Knowledge) (rank a b : ℕ) (one two : Plane) → ∥ IsCoherent key.shape.bits known ∥₁ → rank < LARGEST_RANK →
    KnowsBlock known rank a one → KnowsBlock known rank b two → KnowsParts known (pair_of a b)
knows_parts key known rank a b one two c low h k =
    let fits = below_limit key known rank b two c k in
    record {
      rank = rank;
      low = low;
      one = one;
      two = two;
      both = record {
        first = subst (λ n. KnowsBlock known rank n one) (sym (first_is a b fits)) h;
        second = subst (λ n. KnowsBlock known rank n two) (sym (second_is a b fits)) k;
      };
    }

-- what a full way tells
pub way_full : (key : Key) (known : Knowledge) (kind : Kind) (word : ℕ) → KnowsFullWay key.shape.bits known kind word → KnowsFullShard key.shape.bits known
way_full key known kind word w = full_shard key.shape.bits known kind word key.shape.range.0 (let r = key.shape.range.1 in omega arith) (λ place less. let t = w.full place less in (t.0, t.1))

pub shard_full : (key : Key) (known : Knowledge) → KnowsFullShard key.shape.bits known → IsTrue (knows_full_shard key.shape.bits known)
shard_full key known full = (full_shard_is_seen key.shape.bits known key.shape.range.0).1 full

-- a look at a known leaf
pub leaf_read : (key : Key) (old new : Knowledge) (n word : ℕ) (plane : Plane) → ∥ IsCoherent key.shape.bits new ∥₁ → n ≢ 0 → IsSlot key.shape.bits Leaf n → KnowsBlock old 0 n plane → word ≢ 0 →
    Grows old new → MeetsWord key old n word new → IsSame plane (bits_plane word)
leaf_read key old new n word plane h some slot knows nonzero grows met =
    alike key.shape.bits new 0 n plane (bits_plane word) h (knows_grown old new 0 n plane grows knows) ((met.some nonzero).leaf slot)

-- a square that the book knows, at its level
pub known_block : (known : Knowledge) (level : ℕ) (sq : Sq) → sq.level ≡ level → IsTrue (knows_in known sq) → KnowsBlock known (square_rank level) sq.num.0 (known_cells known sq)
known_block known level sq e h = subst (λ l. KnowsBlock known (square_rank l) sq.num.0 (known_cells known sq)) e (block_of known sq h)

-- a known square above level 3 stands in a pair slot
pub square_slot : (at : At) (sq : Sq) → 3 < sq.level → sq.num.0 ≢ 0 → IsTrue (knows_in (known_by at.desk) sq) → IsSlot at.table.now.key.shape.bits Pair sq.num.0
square_slot at sq above some h =
    let known = known_by at.desk in
    pair_slot at.table.now.key.shape.bits known (suc (square_rank (sq.level - 1))) sq.num.0 (known_cells known sq) (coherent_here at) some (halved known sq above h)
