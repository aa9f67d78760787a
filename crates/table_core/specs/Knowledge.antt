-- What a desk knows, and that it is true of the words.
use Rattle.std.specs.Prelude.{◌≡◌, ◌≢◌, ℕ, suc, ◌+◌, ◌^◌, ◌<◌, ◌≤◌, ◌⊎◌, ◌==◌, Bool, false, ◌&&◌, if◌then◌else◌, List, [], ◌∷◌, ◌++◌, Any, Contains}
use Rattle.std.specs.List.{AllByRecursion, list_any}
use Rattle.plane.specs.Plane.{Plane}
use Rattle.plane.specs.Square.{IsSame, empty}
use Rattle.plane.specs.Block.{IsInside}
use Rattle.plane.specs.Listing.{plane_of}
use Rattle.table_core.specs.declared.knowledge.KnownBlock.{KnownBlock}
use Rattle.table_core.specs.declared.knowledge.KnownResult.{KnownResult}
use Rattle.table_core.specs.declared.knowledge.Knowledge.{Knowledge}
use Rattle.table_core.specs.declared.shape.Kind.TheVariants.{Leaf, Pair}
use Rattle.table_core.specs.Layout.{IsSlot, result_of}
use Rattle.table_core.specs.Blocks.{Words, IsBlock, ShowsBlock, square_rank, width, height, largest_rank}

-- it has seen this word at this index
abbrev pub HasSeen : Knowledge → ℕ → ℕ → Type 0
HasSeen known index word = Contains known.words (index, word)

-- the entry says that the number shows the block of this rank with these cells
pub record Says (entry : KnownBlock) (rank number : ℕ) (plane : Plane) : Type 0 where
  pub at_rank : entry.rank ≡ rank
  pub of_number : entry.number ≡ number
  pub cells : IsSame (plane_of entry.live) plane

-- one of the entries says it
abbrev pub Lists : List KnownBlock → ℕ → ℕ → Plane → Type 0
Lists blocks rank number plane =
    (entry : KnownBlock) × Contains blocks entry × Says entry rank number plane

-- it knows that the number shows the block of this rank with these cells; that 0 shows the empty
-- one is always known
abbrev pub KnowsBlock : Knowledge → ℕ → ℕ → Plane → Type 0
KnowsBlock known rank number plane =
    ((number ≡ 0) × IsSame empty plane) ⊎ Lists known.blocks rank number plane

-- whether there is a result of the square with this number
abbrev pub has_result : List KnownResult → ℕ → Bool
has_result results square = list_any (λ result. result.square == square) results

-- the results and one more, unless that square has one
abbrev pub with_result : List KnownResult → KnownResult → List KnownResult
with_result results result = if has_result results result.square then results else result ∷ results

-- no square has two results
abbrev pub HasEachOnce : List KnownResult → Type 0
HasEachOnce [] = Unit {0}
HasEachOnce (result ∷ results) = (has_result results result.square ≡ false) × HasEachOnce results

-- the word beside the square is that of the result
pub record IsTrueResult (bits : ℕ) (words : Words) (result : KnownResult) : Type 0 where
  pub above : 3 < result.level
  pub slot : IsSlot bits Pair result.square
  pub square : IsBlock bits words (square_rank result.level) result.square
  pub told : words (result_of bits result.square) ≡ 2 ^ 32 + result.future

-- it knows the square of the result
abbrev pub KnowsSquareOf : Knowledge → KnownResult → Type 0
KnowsSquareOf known result =
    (plane : Plane) × KnowsBlock known (square_rank result.level) result.square plane

-- what a desk knows is true of the words: each word stands at its index and isn't 0, each number
-- shows its block, and each result is told beside a square that it knows, which has no second one
pub record IsTrueOf (bits : ℕ) (words : Words) (known : Knowledge) : Type 0 where
  pub seen : AllByRecursion (λ entry. (words entry.0 ≡ entry.1) × (entry.1 ≢ 0)) known.words
  pub blocks : AllByRecursion
      (λ entry. ShowsBlock bits words entry.rank entry.number (plane_of entry.live)) known.blocks
  pub results : AllByRecursion (IsTrueResult bits words) known.results
  pub squares : AllByRecursion (KnowsSquareOf known) known.results
  pub once : HasEachOnce known.results

-- what a desk knows agrees with itself: a number shows one block, at the index of a leaf or a pair,
-- of at most the rank of the largest squares, and a block has one number; each result is of a
-- square that it knows, which has no second one
pub record IsConsistent (bits : ℕ) (known : Knowledge) : Type 0 where
  pub one_block : (rank other number : ℕ) (plane also : Plane) → number ≢ 0 →
      KnowsBlock known rank number plane → KnowsBlock known other number also →
      (rank ≡ other) × IsSame plane also
  pub one_number : (rank number other : ℕ) (plane : Plane) →
      KnowsBlock known rank number plane → KnowsBlock known rank other plane → number ≡ other
  pub inside : (rank number : ℕ) (plane : Plane) → KnowsBlock known rank number plane →
      IsInside (width rank) (height rank) plane
  pub leaf : (number : ℕ) (plane : Plane) → number ≢ 0 → KnowsBlock known 0 number plane →
      IsSlot bits Leaf number
  pub pair : (rank number : ℕ) (plane : Plane) → number ≢ 0 →
      KnowsBlock known (suc rank) number plane →
      IsSlot bits Pair number × (rank < largest_rank)
  pub results : AllByRecursion
      (λ result. (3 < result.level) × (result.square ≢ 0)
      × KnowsSquareOf known result) known.results
  pub once : HasEachOnce known.results

-- it knows that this word stands at this index: it has seen it, or knows the result that it tells
abbrev pub KnowsWord : ℕ → Knowledge → ℕ → ℕ → Type 0
KnowsWord bits known index word =
    HasSeen known index word
    ⊎ Any (λ result. (index ≡ result_of bits result.square) × (word ≡ 2 ^ 32 + result.future))
    known.results

-- each word that the one has seen, the other has seen too
abbrev pub HasSeenAll : Knowledge → Knowledge → Type 0
HasSeenAll old new = (entry : ℕ × ℕ) → Contains old.words entry → Contains new.words entry

-- all that was known still is
pub record Grows (old new : Knowledge) : Type 0 where
  pub words : HasSeenAll old new
  pub blocks : (entry : KnownBlock) → Contains old.blocks entry → Contains new.blocks entry
  pub results : (result : KnownResult) → Contains old.results result → Contains new.results result
  pub learned : old.learned ≤ new.learned

-- whether this very result is among them
abbrev pub has_this : List KnownResult → KnownResult → Bool
has_this results result =
    list_any (λ other. (other.level == result.level) && (other.square == result.square)
    && (other.future == result.future)) results

-- the results and this one, unless it is among them
abbrev pub with_this : List KnownResult → KnownResult → List KnownResult
with_this results result = if has_this results result then results else result ∷ results

-- all results of both lists
abbrev pub joined_results : List KnownResult → List KnownResult → List KnownResult
joined_results one [] = one
joined_results one (result ∷ results) = with_this (joined_results one results) result

-- what either knew
abbrev pub united : Knowledge → Knowledge → Knowledge
united one two = record {
  words = one.words ++ two.words;
  blocks = one.blocks ++ two.blocks;
  results = joined_results one.results two.results;
  learned = one.learned + two.learned;
}

abbrev pub nothing : Knowledge
nothing = record { words = []; blocks = []; results = []; learned = 0 }
