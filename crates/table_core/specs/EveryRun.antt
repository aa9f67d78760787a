-- Runs of a table: events of its desks in any order, splits and joins.
use Rattle.std.specs.Prelude.{◌≡◌, ◌≢◌, ℕ, ◌==◌, if◌then◌else◌, List, [], ◌∷◌, ◌++◌, Any, slice_get, slice_index, slice_set, Some}
use Rattle.std.specs.List.{AllByRecursion}
use Rattle.plane.specs.Plane.{Plane}
use Rattle.table_core.specs.declared.key.Key.{Key}
use Rattle.table_core.specs.declared.knowledge.Knowledge.{Knowledge}
use Rattle.table_core.specs.declared.machine.Event.{Event}
use Rattle.table_core.specs.Good.{AreGoodWords, KeepsWords}
use Rattle.table_core.specs.Knowledge.{IsTrueOf, KnowsBlock, KnowsWord, Grows, united, nothing}
use Rattle.table_core.specs.Events.{desk_of, index_of, words_after}
use Rattle.table_core.specs.Lawful.{IsLawful}
use Rattle.table_core.specs.Learning.{LearnsFrom}

-- the words, and what each desk knows
pub record Table : Type 0 where
  pub words : List ℕ
  pub desks : List Knowledge

-- what may happen: an event; a desk is split, and a new one knows the same; another desk is joined
-- into one, and then knows nothing of its own
pub data Action : Type 0 where
  happens : Event → Action
  splits : ℕ → Action
  joins : ℕ → ℕ → Action

-- a lawful event happens: its desk learns from the word that stands there then, and no other desk
-- learns anything
pub record Happens (key : Key) (old : Table) (event : Event) (new : Table) : Type 0 where
  pub known : Knowledge
  pub after : Knowledge
  pub desk : slice_get old.desks (desk_of event) ≡ Some known
  pub lawful : IsLawful key known event
  pub words : new.words ≡ words_after event old.words
  pub learns : LearnsFrom key event known (slice_index new.words (index_of event)) after
  pub desks : new.desks ≡ slice_set old.desks (desk_of event) after

pub record Splits (old : Table) (desk : ℕ) (new : Table) : Type 0 where
  pub known : Knowledge
  pub is : slice_get old.desks desk ≡ Some known
  pub words : new.words ≡ old.words
  pub desks : new.desks ≡ old.desks ++ known ∷ []

pub record Joins (old : Table) (into desk : ℕ) (new : Table) : Type 0 where
  pub known : Knowledge
  pub also : Knowledge
  pub apart : into ≢ desk
  pub is : slice_get old.desks into ≡ Some known
  pub other : slice_get old.desks desk ≡ Some also
  pub words : new.words ≡ old.words
  pub desks : new.desks ≡ slice_set (slice_set old.desks into (united known also)) desk nothing

abbrev pub Acts : Key → Table → Action → Table → Type 0
Acts key old (happens event) new = Happens key old event new
Acts key old (splits desk) new = Splits old desk new
Acts key old (joins into desk) new = Joins old into desk new

-- a list of actions, one after another
abbrev pub Runs : Key → Table → List Action → Table → Type 0
Runs key old [] new = new ≡ old
Runs key old (action ∷ actions) new =
    (between : Table) × Acts key old action between × Runs key between actions new

-- the words are good, and what each desk knows is true of them
pub record IsSoundTable (key : Key) (table : Table) : Type 0 where
  pub words : AreGoodWords key table.words
  pub desks : AllByRecursion (IsTrueOf key.shape.bits (slice_index table.words)) table.desks

-- whichever desks know them, two numbers that show one block are one number
abbrev pub OneNumber : Table → Type 0
OneNumber table =
    (a b : ℕ) (one two : Knowledge) → slice_get table.desks a ≡ Some one →
    slice_get table.desks b ≡ Some two →
    (rank n m : ℕ) (plane : Plane) → KnowsBlock one rank n plane → KnowsBlock two rank m plane →
    n ≡ m

-- the desk that knows afterwards what this one knew before: itself, or the one that it was joined
-- into
abbrev pub heir_at : Action → ℕ → ℕ
heir_at (happens event) desk = desk
heir_at (splits other) desk = desk
heir_at (joins into other) desk = if desk == other then into else desk

abbrev pub heir : List Action → ℕ → ℕ
heir [] desk = desk
heir (action ∷ actions) desk = heir actions (heir_at action desk)

-- what every desk knew is still known
abbrev pub KeepsKnowledge : List Action → Table → Table → Type 0
KeepsKnowledge actions old new =
    (desk : ℕ) (known : Knowledge) → slice_get old.desks desk ≡ Some known →
    (later : Knowledge) × (slice_get new.desks (heir actions desk) ≡ Some later) × Grows known later

-- where 0 stood and does not any more, some desk knows the word that came
abbrev pub NewWordsAreKnown : ℕ → Table → Table → Type 0
NewWordsAreKnown bits old new =
    (index : ℕ) → slice_index old.words index ≡ 0 → slice_index new.words index ≢ 0 →
    Any (λ known. KnowsWord bits known index (slice_index new.words index)) new.desks

-- what holds of a table after a run
pub record IsKept (key : Key) (actions : List Action) (old new : Table) : Type 0 where
  pub holds : IsSoundTable key new
  pub words : KeepsWords (slice_index old.words) (slice_index new.words)
  pub knowledge : KeepsKnowledge actions old new
  pub new_words : NewWordsAreKnown key.shape.bits old new
  pub one_number : OneNumber new

abbrev pub EveryRun : Type 0
EveryRun =
    (key : Key) (old new : Table) (actions : List Action) → IsSoundTable key old →
    Runs key old actions new → IsKept key actions old new
