-- The rule of the words of a running table, and what each step tells its desk.
use Rattle.std.specs.Prelude.{◌≡◌, ◌≢◌, ℕ, List, Any, slice_index, Some, None, IfSome}
use Rattle.std.specs.List.{AllByRecursion}
use Rattle.atomic_table.specs.Table.{State, Me, Step}
use Rattle.plane.specs.Plane.{Plane}
use Rattle.table_core.specs.declared.key.Key.{Key}
use Rattle.table_core.specs.declared.knowledge.Knowledge.{Knowledge}
use Rattle.table_core.specs.declared.machine.Event.{Event}
use Rattle.table_core.specs.declared.machine.Event.TheVariants.{Look, Claim, Ask, Tell}
use Rattle.table_core.specs.Layout.{second_part}
use Rattle.table_core.specs.Good.{AreGoodWords}
use Rattle.table_core.specs.Knowledge.{IsTrueOf, KnowsBlock, KnowsWord, Grows, united, nothing}
use Rattle.table_core.specs.Learning.{LearnsFrom}
use Rattle.table_core.specs.Events.{index_of, word_after}
use Rattle.table_core.proofs.Everything.{all_of}
use Rattle.node_table.specs.declared.still.Still.{Still}
use Rattle.node_table.specs.declared.desk_view.DeskView.{DeskView}
use Rattle.node_table.specs.Books.{IsTrueOfGoodWords}

-- what a desk knows is true of the words; one that was joined into another has no key
pub record IsTrueView (key : Key) (words : List ℕ) (view : DeskView) : Type 0 where
  pub tied : IfSome view.key (λ k. k ≡ key)
  pub known : IsTrueOf key.shape.bits (slice_index words) view.known

-- some desk knows that this word stands at this index
abbrev pub IsKnownToSome : Key → List DeskView → ℕ → ℕ → Type 0
IsKnownToSome key views index word =
    Any (λ view. KnowsWord key.shape.bits view.known index word) views

-- the words are good, what each desk knows is true of them, and some desk knows each that is not 0
pub record IsSoundState {S : Type 0} (still : Still) (state : State S DeskView) : Type 0 where
  pub words : AreGoodWords still.key state.words
  pub views : AllByRecursion (IsTrueView still.key state.words) state.views
  pub known : (index : ℕ) → slice_index state.words index ≢ 0 →
      IsKnownToSome still.key state.views index (slice_index state.words index)

-- a desk that knows all that the words say
abbrev pub opened : Still → DeskView
opened still = record { key = Some still.key; known = all_of still.key still.words still.good }

abbrev pub with_known : DeskView → Knowledge → DeskView
with_known view known = record { key = view.key; known = known }

-- an event of the desk happened, by the word that stands there afterwards. What the desk knows then
-- is true of good words
pub record Met {S : Type 0} (key : Key) (event : Event) (before : Me S DeskView) (word : ℕ)
    (after : Me S DeskView) : Type 0 where
  pub same_key : after.0.key ≡ before.0.key
  pub slots : after.1 ≡ before.1
  pub learns : LearnsFrom key event before.0.known word after.0.known
  pub grows : Grows before.0.known after.0.known
  pub words : IsTrueOfGoodWords key after.0.known
  pub stands : (rank : ℕ) (plane : Plane) → index_of event ≢ 0 →
      KnowsBlock before.0.known rank (index_of event) plane → word ≢ 0

abbrev pub HasMet : Event → {S : Type 0} → Me S DeskView → ℕ → Me S DeskView → Type 0
HasMet event before found after =
    (key : Key) → before.0.key ≡ Some key → Met key event before (word_after event found) after

abbrev pub LoadsNode : {S : Type 0} → Step S → Me S DeskView → ℕ → Me S DeskView → Type 0
LoadsNode step = HasMet (Look 0 step.word)

abbrev pub PlacesNode : {S : Type 0} → Step S → Me S DeskView → ℕ → Me S DeskView → Type 0
PlacesNode step = HasMet (Claim 0 step.word step.second)

abbrev pub LoadsResult : {S : Type 0} → Step S → Me S DeskView → ℕ → Me S DeskView → Type 0
LoadsResult step = HasMet (Ask 0 step.word)

abbrev pub PlacesResult : {S : Type 0} → Step S → Me S DeskView → ℕ → Me S DeskView → Type 0
PlacesResult step = HasMet (Tell 0 step.word (second_part step.second))

-- one desk knows what either knew, and the other nothing more
abbrev pub merged : DeskView → DeskView → DeskView
merged one two = with_known one (united one.known two.known)

abbrev pub spent : DeskView
spent = record { key = None; known = nothing }
