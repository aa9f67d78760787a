-- What a desk at work knows, from one call to the next.
use Rattle.std.proofs.Common.{ℕ, ◌<◌, ◌∙◌, map, sym, ap, subst, refl}
use Rattle.squares.specs.Book.{AddsSquares, IsBook, Keeps}
use Rattle.table_core.specs.declared.shape.Kind.{Kind}
use Rattle.table_core.specs.declared.knowledge.Knowledge.{Knowledge}
use Rattle.table_core.specs.Layout.{size}
use Rattle.table_core.proofs.Knowing.{grows_refl, grows_trans}
use Rattle.node_table.specs.declared.at.At.{At}
use Rattle.node_table.specs.declared.table.NodeTable.{NodeTable}
use Rattle.node_table.specs.Books.{square_of}
use Rattle.node_table.specs.Desks.{IsDeskOf, work_at, work_store}
use Rattle.node_table.specs.DesksAtWork.{GoesOn, KnowsAllOf, LearnsBlocks, StaysAt, book_here}
use Rattle.node_table.specs.Numbers.{KeepsTold}
use Rattle.node_table.specs.Refusals.{HasNoRoom, known_by}
use Rattle.node_table.proofs.Books.{grows_keeps}
use Rattle.node_table.proofs.Desks.{coherent_at}

pub stays_trans : {a b c : At} → StaysAt a b → StaysAt b c → StaysAt a c
stays_trans h k = record { table = k.table ∙ h.table; expansions = k.expansions ∙ h.expansions }

-- what is so of a desk at the table where it was is so where it is
pub still_so : {old new : At} (P : ℕ → NodeTable → Type 0) → StaysAt old new → P old.expansions old.table.now → P new.expansions new.table.now
still_so P here = subst (λ (t : ℕ × NodeTable). P t.0 t.1) (λ i. (sym here.expansions i, sym here.table i))

pub book_is : (at : At) → IsBook (book_here at)
book_is at = (at.desk.sound at.table.now.key at.of_table.same_key).book (work_store at.expansions at.table.now)

-- it is a desk of the table where it was
pub desk_of : {old new : At} → StaysAt old new → IsDeskOf old.table.now new.desk
desk_of {new = new} here = subst (λ (t : NodeTable). IsDeskOf t new.desk) here.table new.of_table

-- a desk that learns keeps its book
pub keeps_here : {old new : At} → StaysAt old new → KnowsAllOf old.desk new.desk → Keeps (book_here old) (book_here new)
keeps_here {old} {new} here grows =
    still_so (λ n t. Keeps (book_here old) (work_at n t new.desk)) here
    (grows_keeps (work_store old.expansions old.table.now) old.table.now.key (known_by old.desk) (known_by new.desk) (coherent_at old.table.now new.desk (desk_of here)) grows)

pub told_refl : (a : Knowledge) → KeepsTold a a
told_refl a = record { results = refl; learned = refl }

told_trans : (a b c : Knowledge) → KeepsTold a b → KeepsTold b c → KeepsTold a c
told_trans a b c h k = record { results = k.results ∙ h.results; learned = k.learned ∙ h.learned }

pub book_kept : {old new : At} → LearnsBlocks old new → Keeps (book_here old) (book_here new)
book_kept learns = keeps_here learns.here learns.grows

-- one that learns blocks adds squares to its book
pub squares_added : {old new : At} → LearnsBlocks old new → AddsSquares (book_here old) (book_here new)
squares_added learns = record {
  keeps = book_kept learns;
  results = record { results = ap (map square_of) learns.told.results; learned = learns.told.learned };
}

pub goes_on_here : {old new : At} → LearnsBlocks old new → GoesOn old new
goes_on_here learns = record { table = learns.here.table; grows = learns.grows }

pub learns_none : (at : At) → LearnsBlocks at at
learns_none at = record { here = record { table = refl; expansions = refl }; grows = grows_refl (known_by at.desk); told = told_refl (known_by at.desk) }

pub learns_trans : {a b c : At} → LearnsBlocks a b → LearnsBlocks b c → LearnsBlocks a c
learns_trans h k = record { here = stays_trans h.here k.here; grows = grows_trans _ _ _ h.grows k.grows; told = told_trans _ _ _ h.told k.told }

-- a word that has no room has none later
pub no_room_later : {old new : At} {kind : Kind} {word : ℕ} → LearnsBlocks old new → HasNoRoom old.table.now old.desk kind word → HasNoRoom new.table.now new.desk kind word
no_room_later {old} {new} {kind} {word} learns lack =
    let later : HasNoRoom old.table.now new.desk kind word = record {
      some = lack.some;
      way = record { full = λ place short. let other = lack.way.full place short in (other.0, learns.grows.words _ other.1, other.2, other.3) };
    } in
    still_so (λ _ t. HasNoRoom t new.desk kind word) learns.here later

-- an index that the shape gives is that of a word
pub in_words : {old new : At} {index : ℕ} → StaysAt old new → index < size old.table.now.key.shape.bits → index < new.table.now.table.shared.table_id.words
in_words {old} {index = index} here less =
    still_so (λ _ t. index < t.table.shared.table_id.words) here (subst (λ n. index < n) (sym old.table.now.long) less)
