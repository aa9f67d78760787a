-- Cells in words at rest.
use Rattle.std.proofs.Common.{◌≡◌, ℕ, ◌-◌, ◌^◌, ◌&&◌, ℤ, pos, ◌+ℤ◌, ◌-ℤ◌, List, ◌∙◌, ap, subst, sym, arith}
use Rattle.std.proofs.lemmas.Int.{ints}
use Rattle.node_table.specs.Shared.{book_shown}
use Rattle.node_table.specs.Stills.{book_in}
use Rattle.node_table.specs.declared.shared.SharedStill.{SharedStill}
use Rattle.node_table.specs.declared.still.Still.{Still}
use Rattle.squares.specs.Book.{Book, IsKnown}
use Rattle.squares.specs.declared.sq.Sq.{Sq}
use Rattle.squares.specs.Roots.{square_plane}
use Rattle.universe.specs.Cells.{still_cells, root_of, still_of}
use Rattle.universe.specs.declared.rooted_still.RootedStill.{RootedStill}
use Rattle.pattern_writers.proofs.RowsDown.{square_in_range}
use Rattle.plane.specs.Centred.{Holds}
use Rattle.plane.specs.Listing.{IsListing}
use Rattle.plane.specs.Plane.{Plane}
use Rattle.plane.specs.Square.{spans}
use Rattle.plane.specs.Window.{cells_in}
use Rattle.plane.specs.declared.cell.Cell.{Cell}
use Rattle.plane.proofs.Windows.{listing_in}
use Rattle.engine.specs.Pattern.{plane_of}
use Rattle.engine.specs.declared.pattern.Pattern.{Pattern}

-- the square and the words of cells at rest show these cells
pub same_cells : (cells : RootedStill) (still : Still) (root : Sq) → still ≡ still_of cells → root ≡ root_of cells → square_plane (book_in still) root ≡ still_cells cells
same_cells cells still root words square =
    ap (λ (s : Still). square_plane (book_in s) root) words ∙ ap (λ (sq : Sq). square_plane (book_in (still_of cells)) sq) square

-- a copy of the words that several threads may read shows them too
module _ (cells : RootedStill) (still : Still) (shared : SharedStill) (root : Sq) (same : book_shown shared ≡ book_in still) (words : still ≡ still_of cells) where
  pub shared_cells : root ≡ root_of cells → square_plane (book_shown shared) root ≡ still_cells cells
  shared_cells square = ap (λ (book : Book). square_plane book root) same ∙ same_cells cells still root words square

  pub shared_known : IsKnown (book_in (still_of cells)) root.level root → IsKnown (book_shown shared) root.level root
  shared_known known = subst (λ (book : Book). IsKnown book root.level root) (sym (same ∙ ap (λ (s : Still). book_in s) words)) known

-- ---- listings

-- a plane that a square around (0,0) holds has a listing
pub held_listing : (level : ℕ) (plane : Plane) → Holds level plane → (cells : List Cell) × IsListing cells plane
held_listing level plane holds =
    let half = 2 ^ (level - 1) in
    let first : ℤ = pos 0 -ℤ pos half in
    let far : (z : ℤ) → (z -ℤ first) ≡ (z +ℤ pos half) = λ z. omega (arith, ints) in (
      cells_in first first (2 ^ level) (2 ^ level) plane,
      listing_in first first (2 ^ level) (2 ^ level) plane
          (record { dead = λ x y outside. holds.dead x y (ap (λ z. spans (2 ^ level) z && spans (2 ^ level) (y +ℤ pos half)) (sym (far x)) ∙ ap (λ z. spans (2 ^ level) (x -ℤ first) && spans (2 ^ level) z) (sym (far y)) ∙ outside) }),
    )

-- the square of level 63 holds the cells of a pattern
pub pattern_held : (pattern : Pattern) → Holds 63 (plane_of pattern)
pattern_held pattern =
    square_in_range (book_in (still_of pattern.resting.cells)) (root_of pattern.resting.cells) pattern.resting.cells.still.is_book pattern.resting.cells.known pattern.resting.cells.level.1

pub pattern_listed : (pattern : Pattern) → (cells : List Cell) × IsListing cells (plane_of pattern)
pattern_listed pattern = held_listing 63 (plane_of pattern) (pattern_held pattern)
