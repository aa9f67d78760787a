-- What a book of squares knows.
use Rattle.std.specs.Prelude.{◌≡◌, ℕ, suc, ◌+◌, ◌-◌, ◌*◌, ◌<◌, ◌≤◌, ◌^◌, ◌⊎◌, ◌↔◌, Bool, IsTrue, List, [], length, Some, Contains, slice_index_or, slice_get}
use Rattle.plane.specs.declared.cell.TheConstants.{HIGHEST_LEVEL}
use Rattle.rule_text.specs.CountRule.{CountRule, IsRule}
use Rattle.plane.specs.Plane.{Plane}
use Rattle.plane.specs.Square.{IsSame, IsSquare, cut, joined, subsquare, empty, future}
use Rattle.plane.specs.declared.refusal.Refusal.{Refusal}
use Rattle.plane.specs.declared.refusal.Refusal.TheVariants.{NodesFull, NoMemory}
use Rattle.squares.specs.declared.sq.Sq.{Sq}
use Rattle.squares.specs.Facts.{Fact}

-- the store of a book's squares
pub record Store : Type 0 where
  -- what tells it from other stores, and none for the store of one book only
  pub numbers : List ℕ
  -- the number of expansions with which the book came to it
  pub expansions : ℕ

-- the store of one book only
abbrev pub own_store : Store
own_store = record { numbers = []; expansions = 0 }

-- What a book knows: the rule and the exponent of its results; which squares it knows, and their
-- cells; the nonempty squares whose result it knows, and how many of these somebody else told it;
-- whether it has no room for some square; whether it takes memory; the store of its squares, and
-- what else that told it.
pub record Book : Type 0 where
  pub rule : CountRule
  pub exponent : ℕ
  pub knows : Sq → Bool
  pub cells : Sq → Plane
  pub results : List Sq
  pub learned : ℕ
  pub is_full : Bool
  pub takes_memory : Bool
  pub store : Store
  pub facts : List Fact

-- a known square of this level, which is from 3 to the highest
pub record IsKnown (book : Book) (level : ℕ) (sq : Sq) : Type 0 where
  pub known : IsTrue (book.knows sq)
  pub at_level : sq.level ≡ level
  pub low : 3 ≤ level
  pub high : level ≤ HIGHEST_LEVEL

-- a known square of this level with these cells
pub record Shows (book : Book) (level : ℕ) (plane : Plane) (sq : Sq) : Type 0 where
  pub known : IsKnown book level sq
  pub cells : IsSame (book.cells sq) plane

-- the square of this level and number
abbrev pub numbered : ℕ → ℕ → Sq
numbered level number = record { level = level; num = record { 0 = number } }

-- the square is the empty one of its level
abbrev pub IsEmpty : Sq → Type 0
IsEmpty sq = sq.num.0 ≡ 0

-- the second square is the future of the first
abbrev pub IsFuture : Book → Sq → Sq → Type 0
IsFuture book sq =
    Shows book (sq.level - 1) (future book.rule book.exponent sq.level (book.cells sq))

-- the result of the square is known: that of an empty square always is
abbrev pub HasResult : Book → Sq → Type 0
HasResult book sq = IsEmpty sq ⊎ Contains book.results sq

-- the laws of a book
pub record IsBook (book : Book) : Type 0 where
  pub rule : IsRule book.rule
  pub levels : (sq : Sq) → IsTrue (book.knows sq) → (3 ≤ sq.level) × (sq.level ≤ HIGHEST_LEVEL)
  pub square : (sq : Sq) → IsTrue (book.knows sq) → IsSquare (2 ^ sq.level) (book.cells sq)
  pub one_number : (a b : Sq) → IsTrue (book.knows a) → IsTrue (book.knows b) → a.level ≡ b.level →
      IsSame (book.cells a) (book.cells b) → a ≡ b
  pub zero_known : (level : ℕ) → 3 ≤ level → level ≤ HIGHEST_LEVEL → IsTrue (book.knows (numbered level 0))
  pub zero_empty : (level : ℕ) → IsSame (book.cells (numbered level 0)) empty
  pub results : (sq : Sq) → Contains book.results sq →
      IsTrue (book.knows sq) × (3 < sq.level) × (¬ IsEmpty sq)
  pub results_once : (i j : ℕ) (sq : Sq) → slice_get book.results i ≡ Some sq →
      slice_get book.results j ≡ Some sq → i ≡ j

-- a book for results under this rule and exponent that knows only the empty squares
pub record IsFresh (rule : CountRule) (exponent : ℕ) (book : Book) : Type 0 where
  pub same_rule : book.rule ≡ rule
  pub same_exponent : book.exponent ≡ exponent
  pub empty : (sq : Sq) → IsTrue (book.knows sq) → IsEmpty sq
  pub results : book.results ≡ []
  pub learned : book.learned ≡ 0

-- all that was known stays known, with the same cells, and so does all that the store told; a full
-- book stays full, and the store is the same
pub record Keeps (old new : Book) : Type 0 where
  pub rule : new.rule ≡ old.rule
  pub exponent : new.exponent ≡ old.exponent
  pub known : (sq : Sq) → IsTrue (old.knows sq) → IsTrue (new.knows sq)
  pub cells : (sq : Sq) → IsTrue (old.knows sq) → IsSame (new.cells sq) (old.cells sq)
  pub results : (sq : Sq) → Contains old.results sq → Contains new.results sq
  pub learned : old.learned ≤ new.learned
  pub facts : (fact : Fact) → Contains old.facts fact → Contains new.facts fact
  pub full : IsTrue old.is_full → IsTrue new.is_full
  pub memory : new.takes_memory ≡ old.takes_memory
  pub store : new.store ≡ old.store

-- no result is new
pub record KeepsResults (old new : Book) : Type 0 where
  pub results : new.results ≡ old.results
  pub learned : new.learned ≡ old.learned

-- only squares are new, if anything is: all that was known stays known, and no result is new
pub record AddsSquares (old new : Book) : Type 0 where
  pub keeps : Keeps old new
  pub results : KeepsResults old new

-- the square is new among the results, and only it is
pub record Gains (old new : List Sq) (sq : Sq) : Type 0 where
  pub length : length new ≡ suc (length old)
  pub has : (other : Sq) → Contains new other ↔ ((other ≡ sq) ⊎ Contains old other)

-- the square's result is known now: it was known before, or somebody else told it
pub record Learns (old new : Book) (sq : Sq) : Type 0 where
  pub known : HasResult new sq
  pub told : KeepsResults old new
      ⊎ (Gains old.results new.results sq × (new.learned ≡ suc old.learned))

-- the square's result is known now, and no other is new
pub record AddsResult (old new : Book) (sq : Sq) : Type 0 where
  pub known : HasResult new sq
  pub learned : new.learned ≡ old.learned
  pub results : (new.results ≡ old.results) ⊎ Gains old.results new.results sq

-- a refusal that the book may give: that memory ran out, if it takes any, or that it is full
abbrev pub MayRefuse : Book → Refusal → Type 0
MayRefuse book refusal =
    ((refusal ≡ NoMemory) × IsTrue book.takes_memory)
    ⊎ ((refusal ≡ NodesFull) × IsTrue book.is_full)

-- that memory ran out, or one of these refusals
abbrev pub LacksMemoryOr : (Refusal → Type 0) → Refusal → Type 0
LacksMemoryOr Refuses refusal = (refusal ≡ NoMemory) ⊎ Refuses refusal

-- one of some squares
abbrev pub nth : List Sq → ℕ → Sq
nth squares i = slice_index_or squares i (numbered 0 0)

-- four known squares of this level
pub record AreKnown (book : Book) (level : ℕ) (squares : List Sq) : Type 0 where
  pub first : IsKnown book level (nth squares 0)
  pub second : IsKnown book level (nth squares 1)
  pub third : IsKnown book level (nth squares 2)
  pub fourth : IsKnown book level (nth squares 3)

-- the four quarters of a square of this level with these cells
pub record AreQuarters (book : Book) (level : ℕ) (plane : Plane) (quarters : List Sq) : Type 0 where
  pub nw : Shows book (level - 1) (cut (2 ^ (level - 1)) 0 0 plane) (nth quarters 0)
  pub ne : Shows book (level - 1) (cut (2 ^ (level - 1)) (2 ^ (level - 1)) 0 plane) (nth quarters 1)
  pub sw : Shows book (level - 1) (cut (2 ^ (level - 1)) 0 (2 ^ (level - 1)) plane) (nth quarters 2)
  pub se : Shows book (level - 1) (cut (2 ^ (level - 1)) (2 ^ (level - 1)) (2 ^ (level - 1)) plane)
      (nth quarters 3)

-- the nine overlapping squares of a square of this level with these cells, row by row
pub record AreSubsquares (book : Book) (level : ℕ) (plane : Plane)
    (squares : List Sq) : Type 0 where
  pub shown : (row column : ℕ) → row < 3 → column < 3 →
      Shows book (level - 1) (subsquare level row column plane) (nth squares (3 * row + column))

-- the cells of four squares of a level, beside and below one another
abbrev pub joined_squares : Book → ℕ → List Sq → Plane
joined_squares book level quarters =
    joined (2 ^ level) (book.cells (nth quarters 0)) (book.cells (nth quarters 1))
    (book.cells (nth quarters 2)) (book.cells (nth quarters 3))
