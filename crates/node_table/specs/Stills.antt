-- Words in one owner's hands.
use Rattle.std.specs.Prelude.{◌≡◌, ◌≢◌, ℕ, ◌^◌, ◌<◌, ◌≤◌, ◌↔◌, Bool, IsTrue, List, slice_index}
use Rattle.plane.specs.declared.cell.TheConstants.{HIGHEST_LEVEL}
use Rattle.table_core.specs.declared.key.Key.{Key}
use Rattle.table_core.specs.Blocks.{Words, IsBlock, square_rank, largest_rank}
use Rattle.table_core.specs.Opening.{IsFresh, KeepsResult, Reopens}
use Rattle.squares.specs.Book.{Book}
use Rattle.node_table.specs.StillBooks.{book_of_words}
use Rattle.node_table.specs.declared.still.Still.{Still}

abbrev pub key_of : Still → Key
key_of still = still.key

abbrev pub items_of : Still → List ℕ
items_of still = still.words

abbrev pub words_of : Still → Words
words_of still = slice_index still.words

-- what the words show, as a book
abbrev pub book_in : Still → Book
book_in still = book_of_words still.key still.words

-- a table of so many pair slots without a square
pub record IsVacant (still : Still) (pairs : ℕ) : Type 0 where
  pub pair_count : 2 ^ still.key.shape.bits ≡ pairs
  pub fresh : IsFresh still.key (words_of still)

-- the words under another head, with the results that stay
pub record IsReopened (was : Still) (key : Key) (now : Still) : Type 0 where
  pub same_key : now.key ≡ key
  pub reopens : Reopens was.key key (words_of was) (words_of now)

-- this is the rank of what the number shows
pub record HasRank (still : Still) (number found : ℕ) : Type 0 where
  pub is : (rank : ℕ) → rank ≤ largest_rank → number ≢ 0 →
      IsBlock still.key.shape.bits (words_of still) rank number → found ≡ rank

-- the result beside the number of a square stays
pub record KeepsAtRank (still : Still) (key : Key) (pair : ℕ) (stays : Bool) : Type 0 where
  pub is : (level : ℕ) → 3 < level → pair ≢ 0 → level ≤ HIGHEST_LEVEL →
      IsBlock still.key.shape.bits (words_of still) (square_rank level) pair →
      IsTrue stays ↔ KeepsResult still.key key level

-- the words are these, with this head
pub record HasWords (still : Still) (key : Key) (words : List ℕ) : Type 0 where
  pub same_key : key_of still ≡ key
  pub same_words : items_of still ≡ words
