-- What events teach their desks.
use Rattle.std.specs.Prelude.{◌≡◌, ◌≢◌, ℕ, suc, ◌+◌, ◌-◌, ◌^◌, if◌then◌else◌, List, [], ◌∷◌, ◌++◌, Contains}
use Rattle.std.specs.List.{AllByRecursion}
use Rattle.plane.specs.declared.cell.Cell.{Cell}
use Rattle.plane.specs.Plane.{Plane}
use Rattle.plane.specs.Square.{IsSame, bits_plane, future}
use Rattle.plane.specs.Block.{IsInside}
use Rattle.plane.specs.Listing.{plane_of}
use Rattle.table_core.specs.declared.key.Key.{Key}
use Rattle.table_core.specs.declared.knowledge.KnownBlock.{KnownBlock}
use Rattle.table_core.specs.declared.knowledge.KnownResult.{KnownResult}
use Rattle.table_core.specs.declared.knowledge.Knowledge.{Knowledge}
use Rattle.table_core.specs.declared.machine.Event.{Event}
use Rattle.table_core.specs.declared.machine.Event.TheVariants.{Look, Claim, Ask, Tell}
use Rattle.table_core.specs.declared.shape.Kind.TheVariants.{Leaf, Pair}
use Rattle.table_core.specs.Layout.{IsSlot, result_of, first_part, second_part}
use Rattle.table_core.specs.Blocks.{paired, width, height, square_rank}
use Rattle.table_core.specs.Knowledge.{HasSeen, Says, KnowsBlock, has_result, with_result}
use Rattle.table_core.specs.Lawful.{KnowsBoth, MayAsk}

-- it knows what the index shows, as two blocks of this rank
pub record KnowsWhole (known : Knowledge) (rank index : ℕ) (one two : Plane) : Type 0 where
  pub some : index ≢ 0
  pub whole : KnowsBlock known (suc rank) index (paired rank one two)
  pub first_inside : IsInside (width rank) (height rank) one
  pub second_inside : IsInside (width rank) (height rank) two

-- what an entry says follows from the nonzero word at an index and what the desk knows: it says
-- what the index shows, a leaf, or a pair of parts that the desk knows, or what a part shows, of a
-- whole that it knows
pub data Follows (key : Key) (known : Knowledge) (index word : ℕ)
    (entry : KnownBlock) : Type 0 where
  as_leaf : IsSlot key.shape.bits Leaf index → Says entry 0 index (bits_plane word) →
      Follows key known index word entry
  as_pair : (rank : ℕ) (one two : Plane) → IsSlot key.shape.bits Pair index →
      KnowsBoth known rank word one two →
      Says entry (suc rank) index (paired rank one two) → Follows key known index word entry
  as_first_part : (rank : ℕ) (one two : Plane) → KnowsWhole known rank index one two →
      Says entry rank (first_part word) one → Follows key known index word entry
  as_second_part : (rank : ℕ) (one two : Plane) → KnowsWhole known rank index one two →
      Says entry rank (second_part word) two → Follows key known index word entry

-- it knows both parts of a word, and together they have these cells
pub record KnowsPartsOf (known : Knowledge) (rank word : ℕ) (plane : Plane) : Type 0 where
  pub one : Plane
  pub two : Plane
  pub cells : IsSame plane (paired rank one two)
  pub both : KnowsBoth known rank word one two

-- it has seen one more word, and knows some more blocks
abbrev pub with_word : Knowledge → ℕ → ℕ → List KnownBlock → Knowledge
with_word known index word more = record {
  words = (index, word) ∷ known.words;
  blocks = known.blocks ++ more;
  results = known.results;
  learned = known.learned;
}

-- what a nonzero word at an index teaches: the word; what the index shows, where it is a leaf or
-- the desk knows both parts; what the parts show, where it knows what the index shows; and nothing
-- else
pub record LearnsWord (key : Key) (known : Knowledge) (index word : ℕ)
    (after : Knowledge) : Type 0 where
  pub more : List KnownBlock
  pub is : after ≡ with_word known index word more
  pub follow : AllByRecursion (Follows key known index word) more
  pub leaf : IsSlot key.shape.bits Leaf index → KnowsBlock after 0 index (bits_plane word)
  pub pair : (rank : ℕ) (one two : Plane) → IsSlot key.shape.bits Pair index →
      KnowsBoth known rank word one two →
      KnowsBlock after (suc rank) index (paired rank one two)
  pub parts : (rank : ℕ) (plane : Plane) → index ≢ 0 → KnowsBlock known (suc rank) index plane →
      KnowsPartsOf after rank word plane

-- it knows one more result, if it didn't, and what the future's number shows; so many are counted
-- as learned
abbrev pub with_future : Knowledge → ℕ → KnownResult → List Cell → Knowledge
with_future known count result live = record {
  words = known.words;
  blocks = known.blocks
      ++ record { number = result.future; rank = square_rank (result.level - 1); live = live } ∷ [];
  results = with_result known.results result;
  learned = known.learned + (if has_result known.results result.square then 0 else count);
}

-- what a nonzero result word teaches: the result, and that its number shows the future of the
-- square that the desk knows
pub record LearnsFuture (key : Key) (known : Knowledge) (count index word : ℕ)
    (after : Knowledge) : Type 0 where
  pub result : KnownResult
  pub live : List Cell
  pub is : after ≡ with_future known count result live
  pub beside : index ≡ result_of key.shape.bits result.square
  pub told : word ≡ 2 ^ 32 + result.future
  pub shows : (of : MayAsk key.shape.bits known index) →
      (of.level ≡ result.level)
      × IsSame (plane_of live) (future key.rule key.exponent of.level of.plane)

-- what a desk knows after a word was found or placed at the index of a leaf or a pair: nothing new
-- where it is 0; a word that it had seen there is that word
pub record MeetsWord (key : Key) (known : Knowledge) (index word : ℕ)
    (after : Knowledge) : Type 0 where
  pub none : word ≡ 0 → after ≡ known
  pub some : word ≢ 0 → LearnsWord key known index word after
  pub agrees : (seen : ℕ) → HasSeen known index seen → (word ≡ seen) × (seen ≢ 0)

-- what a desk knows after a result word was found or placed: nothing new where it is 0; a result
-- that it knew is that of the word
pub record MeetsResult (key : Key) (known : Knowledge) (count index word : ℕ)
    (after : Knowledge) : Type 0 where
  pub none : word ≡ 0 → after ≡ known
  pub some : word ≢ 0 → LearnsFuture key known count index word after
  pub agrees : (result : KnownResult) → Contains known.results result →
      index ≡ result_of key.shape.bits result.square →
      word ≡ 2 ^ 32 + result.future

-- what an event teaches its desk by the word that stands there afterwards; a result counts as
-- learned where the desk asked
abbrev pub LearnsFrom : Key → Event → Knowledge → ℕ → Knowledge → Type 0
LearnsFrom key (Look desk index) known word after = MeetsWord key known index word after
LearnsFrom key (Claim desk index claimed) known word after = MeetsWord key known index word after
LearnsFrom key (Ask desk index) known word after = MeetsResult key known 1 index word after
LearnsFrom key (Tell desk index number) known word after = MeetsResult key known 0 index word after
