-- Copies of words in one owner's hands.
use Rattle.std.specs.Prelude.{◌≡◌, ◌≢◌, ℕ, ◌+◌, ◌^◌, ◌⊎◌, ◌↔◌, List, IsTrue, Contains}
use Rattle.squares.specs.declared.sq.Sq.{Sq}
use Rattle.squares.specs.Book.{Book, Shows}
use Rattle.table_core.specs.declared.key.Key.{Key}
use Rattle.table_core.specs.declared.shape.Kind.{Kind}
use Rattle.table_core.specs.declared.shape.Kind.TheVariants.{Leaf, Pair}
use Rattle.table_core.specs.Layout.{IsSlot}
use Rattle.table_core.specs.Blocks.{square_rank}
use Rattle.node_table.specs.declared.still.Still.{Still}
use Rattle.node_table.specs.Stills.{key_of, items_of, words_of, book_in}
use Rattle.node_sweep.specs.Table.{Table, table_by, word_beside}
use Rattle.node_sweep.specs.Copies.{HasNoRoomForWanted, IsCopy, has_note}
use Rattle.node_sweep.specs.Reaching.{IsAny, Reaches, ReachesFew}
use Rattle.node_sweep.specs.WantedCopies.{CopiesWanted}

-- the size and the words
abbrev pub table_of : Still → Table
table_of still = table_by (key_of still) (items_of still)

-- the old rule and exponent, and so many pair slots
pub record IsResized (from to : Key) (pairs : ℕ) : Type 0 where
  pub pair_count : 2 ^ to.shape.bits ≡ pairs
  pub rule : to.rule ≡ from.rule
  pub exponent : to.exponent ≡ from.exponent

-- a square of the second book has the cells of this square of the first
pub record HasTwinIn (old new : Book) (sq : Sq) : Type 0 where
  pub twin : Sq
  pub shown : Shows new sq.level (old.cells sq) twin

-- so it is, and the result of that square is known
pub record HasResultIn (old new : Book) (sq : Sq) : Type 0 where
  pub twin : Sq
  pub shown : Shows new sq.level (old.cells sq) twin
  pub result : Contains new.results twin

-- the result beside a pair is the empty square or wanted, if there is one
abbrev pub IsResultWanted : (table : Table) (wanted : ℕ → Type 0) (pair : ℕ) → Type 0
IsResultWanted table wanted pair =
    (future : ℕ) → word_beside table pair ≡ 2 ^ 32 + future → (future ≡ 0) ⊎ wanted future

-- all that one book knows of wanted squares another one knows too, though by other numbers: each
-- square, and its result where that is the empty square or wanted
pub record CarriesWanted (table : Table) (wanted : ℕ → Type 0) (old new : Book) : Type 0 where
  pub rule : new.rule ≡ old.rule
  pub exponent : new.exponent ≡ old.exponent
  pub squares : (sq : Sq) → IsTrue (old.knows sq) → wanted sq.num.0 → HasTwinIn old new sq
  pub results : (sq : Sq) → Contains old.results sq → wanted sq.num.0 →
      IsResultWanted table wanted sq.num.0 → HasResultIn old new sq

-- fresh words under the old rule and exponent, with what is wanted of the old ones and nothing
-- else; what the old ones know of that they know
pub record HoldsWanted (still : Still) (wanted : ℕ → Type 0) (pairs : ℕ)
    (now : Still) : Type 0 where
  pub resized : IsResized (key_of still) (key_of now) pairs
  pub copies : CopiesWanted (table_of still) (key_of now) wanted (items_of now)
  pub carries : CarriesWanted (table_of still) wanted (book_in still) (book_in now)

-- the new root is the copy of the old one, with its level and cells
pub record IsRootCopy (still : Still) (root : Sq) (now : Still) (copy : Sq) : Type 0 where
  pub level : copy.level ≡ root.level
  pub made : IsCopy (table_of still) (table_of now) (square_rank root.level) root.num.0 copy.num.0
  pub shown : Shows (book_in now) root.level ((book_in still).cells root) copy

-- some table of this size has no room for what is wanted
pub record HasNoRoomToCopy (still : Still) (wanted : ℕ → Type 0) (pairs : ℕ) : Type 0 where
  pub to : Key
  pub resized : IsResized (key_of still) to pairs
  pub full : HasNoRoomForWanted (table_of still) to wanted

-- fresh words with the root and some other numbers, those for which something is noted, and nothing
-- else
pub record CopiesStill (still : Still) (root : Sq) (pairs : ℕ) (now : Still) (copy : Sq) : Type 0 where
  pub notes : List ℕ
  pub has_root : has_note notes root.num.0
  pub all : HoldsWanted still (has_note notes) pairs now
  pub copied_root : IsRootCopy still root now copy

-- some table of this size has no room for all numbers
abbrev pub HasNoRoomToKeep : Still → ℕ → Type 0
HasNoRoomToKeep still pairs = HasNoRoomToCopy still IsAny pairs

-- ---- a sweep

-- the root reaches the number
abbrev pub is_reached_in : Still → Sq → (ℕ → Type 0)
is_reached_in still root = Reaches (table_of still) root.num.0

-- fresh words with what the root reaches and nothing else; the new root reaches all of them
pub record IsSwept (still : Still) (root : Sq) (pairs : ℕ) (now : Still) (copy : Sq) : Type 0 where
  pub all : HoldsWanted still (is_reached_in still root) pairs now
  pub copied_root : IsRootCopy still root now copy
  pub slots : (kind : Kind) (i : ℕ) → IsSlot (key_of now).shape.bits kind i →
      (words_of now i ≢ 0) ↔ is_reached_in now copy i

abbrev pub HasNoRoomFor : Still → Sq → ℕ → Type 0
HasNoRoomFor still root pairs = HasNoRoomToCopy still (is_reached_in still root) pairs

-- the root reaches at most 256 leaf words and 256 pair words
pub record ReachesFewWords (still : Still) (root : Sq) : Type 0 where
  pub leaves : ReachesFew (table_of still) root.num.0 Leaf
  pub pairs : ReachesFew (table_of still) root.num.0 Pair
