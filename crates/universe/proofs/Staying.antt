-- Squares at tables that stay open, and at others.
use Rattle.std.proofs.Common.{◌≡◌, ◌^◌, ℕ, ap, sym, subst}
use Rattle.node_table.specs.declared.table.NodeTable.{NodeTable}
use Rattle.node_table.proofs.AtWork.{centred_same}
use Rattle.plane.specs.Centred.{centred}
use Rattle.plane.specs.Square.{IsSame}
use Rattle.squares.specs.Book.{Book, IsKnown, Shows}
use Rattle.squares.specs.declared.sq.Sq.{Sq}
use Rattle.squares.proofs.Kept.{known_kept}
use Rattle.table_core.specs.declared.key.Key.{Key}
use Rattle.squares.specs.Roots.{square_plane}
use Rattle.universe.specs.Cells.{exponent_of, live_cells, next_cells}
use Rattle.plane.proofs.Same.{same_refl}
use Rattle.universe.specs.Later.{IsAtExponent, IsLater, IsSameUniverse}
use Rattle.universe.specs.Tables.{StaysOpen, key_at, known_at}
use Rattle.universe.specs.declared.tables.OpenTable.{OpenTable}
use Rattle.universe.specs.declared.universe.Universe.{Universe}

pub key_stays : {old new : OpenTable} → StaysOpen old new → key_at new ≡ key_at old
key_stays stays = ap (λ (t : NodeTable). t.key) stays.same_table

pub known_stays : {old new : OpenTable} (root : Sq) → StaysOpen old new → IsKnown (known_at old) root.level root → IsKnown (known_at new) root.level root
known_stays root stays known = known_kept stays.keeps known

pub cells_stay : {old new : OpenTable} (root : Sq) → StaysOpen old new → IsKnown (known_at old) root.level root → IsSame (square_plane (known_at new) root) (square_plane (known_at old) root)
cells_stay root stays known = centred_same root.level _ _ (stays.keeps.cells root known.known)

-- a square that shows the cells of another one has them around (0,0), too
pub shown_cells : (old new : Book) (root copy : Sq) → Shows new root.level (old.cells root) copy → IsSame (square_plane new copy) (square_plane old root)
shown_cells old new root copy shown =
    subst (λ (l : ℕ). IsSame (centred l (new.cells copy)) (square_plane old root)) (sym shown.known.at_level) (centred_same root.level _ _ shown.cells)

-- a universe whose table has taken a step
pub stepped : {old new : Universe} → StaysOpen old.here new.here → IsSame (live_cells new) (next_cells old.here old.root) → new.others.limit ≡ old.others.limit → IsLater old (2 ^ exponent_of old) new
stepped stays cells limit = record { cells = cells; rule = ap (λ (k : Key). k.rule) (key_stays stays); limit = limit }

-- a universe whose table was full for a step
pub not_stepped : {old new : Universe} → StaysOpen old.here new.here → IsSame (live_cells new) (live_cells old) → new.others.limit ≡ old.others.limit → IsAtExponent (exponent_of old) old new
not_stepped stays cells limit = record {
  same = record { cells = cells; rule = ap (λ (k : Key). k.rule) (key_stays stays); limit = limit };
  exponent = ap (λ (k : Key). k.exponent) (key_stays stays);
}

-- a universe with the same square at the same table
pub same_square : {old new : Universe} → new.here ≡ old.here → new.root ≡ old.root → new.others.limit ≡ old.others.limit → IsSameUniverse old new
same_square {old} here root limit = record {
  cells = subst (λ (c : OpenTable × Sq). IsSame (square_plane (known_at c.0) c.1) (live_cells old)) (λ i. (sym here i, sym root i)) (same_refl (live_cells old));
  rule = ap (λ (o : OpenTable). (key_at o).rule) here;
  limit = limit;
}
