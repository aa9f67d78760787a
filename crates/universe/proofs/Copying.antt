-- Cells that were copied into new words, and at their table.
use Rattle.std.proofs.Common.{◌≡◌, ◌⊎◌, inl, inr, ℕ, ◌≤◌, ◌^◌, ◌∙◌, ap, arith, subst, sym}
use Rattle.std.specs.Prelude.{Result, Ok, Err, IfErr}
use Rattle.node_table.specs.declared.still.Still.{Still}
use Rattle.node_table.specs.StillBooks.{book_of_words}
use Rattle.node_table.specs.Stills.{book_in, items_of, key_of}
use Rattle.plane.specs.Square.{IsSame}
use Rattle.plane.specs.declared.refusal.Refusal.{Refusal}
use Rattle.plane.specs.declared.refusal.Refusal.TheVariants.{NodesFull, NoMemory}
use Rattle.plane.proofs.Same.{same_refl, same_trans}
use Rattle.squares.specs.Book.{Book}
use Rattle.squares.specs.Roots.{square_plane}
use Rattle.squares.specs.declared.sq.Sq.{Sq}
use Rattle.table_core.specs.declared.key.Key.{Key}
use Rattle.universe.specs.Cells.{exponent_of, live_cells, still_cells, root_of, still_of}
use Rattle.universe.specs.Later.{IsAtExponent}
use Rattle.universe.specs.Stills.{IsCompacted, IsCopied, IsOpenedAt, IsSweptFrom}
use Rattle.universe.specs.Tables.{key_at}
use Rattle.universe.specs.declared.other_tables.OtherTables.{OtherTables}
use Rattle.universe.specs.declared.rooted_still.RootedStill.{RootedStill}
use Rattle.universe.specs.declared.universe.Universe.{Universe}
use Rattle.universe.proofs.Staying.{shown_cells}

-- a refusal for want of slots says that there is no room
pub no_room : {T : Type 0} (NoRoom : Type 0) → (made : Result T Refusal) → made ≡ Err NodesFull → IfErr made (λ refusal. (refusal ≡ NoMemory) ⊎ ((refusal ≡ NodesFull) × NoRoom)) → NoRoom
no_room NoRoom (Ok value) full why = absurd cc
no_room NoRoom (Err refusal) full (inl memory) = absurd cc
no_room NoRoom (Err refusal) full (inr why) = why.1

pub swept_is : (old new : RootedStill) (pairs : ℕ) → IsSweptFrom old pairs new → IsCopied old pairs new
swept_is old new pairs is = record { cells = shown_cells (book_in (still_of old)) (book_in (still_of new)) (root_of old) (root_of new) is.copied_root.shown; resized = is.all.resized }

-- the same words under the same head show the same
pub same_book : (old new : Still) → key_of new ≡ key_of old → items_of new ≡ items_of old → book_in new ≡ book_in old
same_book old new key words = λ i. book_of_words (key i) (words i)

-- cells in a copy of all words
pub whole_copy : (old new : RootedStill) → key_of (still_of new) ≡ key_of (still_of old) → items_of (still_of new) ≡ items_of (still_of old) → root_of new ≡ root_of old → IsCompacted old new
whole_copy old new key words root = record {
  cells = subst (λ (it : Book × Sq). IsSame (square_plane it.0 it.1) (still_cells old)) (λ i. (sym (same_book (still_of old) (still_of new) key words) i, sym root i)) (same_refl (still_cells old));
  rule = ap (λ (k : Key). k.rule) key;
  pairs = subst (λ (k : Key). 2 ^ k.shape.bits ≤ 2 ^ (key_of (still_of old)).shape.bits) (sym key) (omega arith);
}

-- ---- universes

-- a universe whose table was closed and opened again
pub reopened : {old new : Universe} {others : OtherTables} (rooted : RootedStill) → IsSame (still_cells rooted) (live_cells old) → key_of (still_of rooted) ≡ key_at old.here →
    others.limit ≡ old.others.limit → IsOpenedAt rooted (exponent_of old) others new → IsAtExponent (exponent_of old) old new
reopened rooted rested rested_key limit is = record {
  same = record {
    cells = same_trans is.cells rested;
    rule = ap (λ (k : Key). k.rule) is.opened.opens.key ∙ ap (λ (k : Key). k.rule) rested_key;
    limit = ap (λ (o : OtherTables). o.limit) is.others ∙ limit;
  };
  exponent = ap (λ (k : Key). k.exponent) is.opened.opens.key;
}

-- a universe whose table was closed, and whose cells were copied into new words and opened there
pub copied : {old new : Universe} {others : OtherTables} (rooted fresh : RootedStill) (pairs : ℕ) → IsSame (still_cells rooted) (live_cells old) → key_of (still_of rooted) ≡ key_at old.here →
    others.limit ≡ old.others.limit → IsCopied rooted pairs fresh → IsOpenedAt fresh (exponent_of old) others new → IsAtExponent (exponent_of old) old new
copied rooted fresh pairs rested rested_key limit is now = record {
  same = record {
    cells = same_trans now.cells (same_trans is.cells rested);
    rule = ap (λ (k : Key). k.rule) now.opened.opens.key ∙ is.resized.rule ∙ ap (λ (k : Key). k.rule) rested_key;
    limit = ap (λ (o : OtherTables). o.limit) now.others ∙ limit;
  };
  exponent = ap (λ (k : Key). k.exponent) now.opened.opens.key;
}
