-- The number of a word.
use Rattle.std.specs.Prelude.{◌≡◌, ℕ, suc}
use Rattle.plane.specs.Plane.{Plane}
use Rattle.plane.specs.Square.{IsSame, bits_plane}
use Rattle.table_core.specs.declared.knowledge.Knowledge.{Knowledge}
use Rattle.table_core.specs.declared.shape.Kind.{Kind}
use Rattle.table_core.specs.declared.shape.Kind.TheVariants.{Leaf, Pair}
use Rattle.table_core.specs.Layout.{IsSlot}
use Rattle.table_core.specs.Blocks.{paired}
use Rattle.table_core.specs.Knowledge.{KnowsBlock}
use Rattle.table_core.specs.Lawful.{KnowsBoth}

-- the desk knows the results that it knew
pub record KeepsTold (old new : Knowledge) : Type 0 where
  pub results : new.results ≡ old.results
  pub learned : new.learned ≡ old.learned

-- the index is the number of the word: what the desk knows of it, where it knew the word's parts
pub record IsNumber (bits : ℕ) (old new : Knowledge) (kind : Kind) (word index : ℕ) : Type 0 where
  pub slot : IsSlot bits kind index
  pub leaf : kind ≡ Leaf → KnowsBlock new 0 index (bits_plane word)
  pub pair : (rank : ℕ) (one two : Plane) → kind ≡ Pair → KnowsBoth old rank word one two →
      KnowsBlock new (suc rank) index (paired rank one two)

-- the number shows the two blocks that the desk knew, beside or below one another
pub record IsPair (old new : Knowledge) (first second number : ℕ) : Type 0 where
  pub shown : (rank : ℕ) (one two : Plane) → KnowsBlock old rank first one →
      KnowsBlock old rank second two →
      KnowsBlock new (suc rank) number (paired rank one two)

-- the desk knows what the number shows, as two blocks of some rank
pub record KnowsSomePair (known : Knowledge) (number : ℕ) : Type 0 where
  pub rank : ℕ
  pub plane : Plane
  pub shown : KnowsBlock known (suc rank) number plane

-- the desk knows what both numbers show: together what this number shows
pub record ArePartsOf (known : Knowledge) (rank : ℕ) (plane : Plane)
    (first second : ℕ) : Type 0 where
  pub one : Plane
  pub two : Plane
  pub cells : IsSame plane (paired rank one two)
  pub shows_one : KnowsBlock known rank first one
  pub shows_two : KnowsBlock known rank second two

pub record KnowsPairOf (old new : Knowledge) (number first second : ℕ) : Type 0 where
  pub parts : (rank : ℕ) (plane : Plane) → KnowsBlock old (suc rank) number plane →
      ArePartsOf new rank plane first second
