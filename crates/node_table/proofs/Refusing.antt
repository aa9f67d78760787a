-- A refused square.
use Rattle.std.proofs.Common.{ℕ, List}
use Rattle.std.specs.Prelude.{Result, Ok, Err, OnErr}
use Rattle.squares.specs.declared.sq.Sq.{Sq}
use Rattle.squares.specs.Book.{nth}
use Rattle.table_core.specs.declared.shape.Kind.TheVariants.{Pair}
use Rattle.table_core.specs.Layout.{pair_of}
use Rattle.node_table.specs.declared.desk.Desk.{Desk}
use Rattle.node_table.specs.declared.table.NodeTable.{NodeTable}
use Rattle.node_table.specs.Refusals.{Needs, HasNoRoom, HasNoRoomForQuad, IsHalf, known_by, word_of}

pub on_err : {T E P : Type 0} (r : Result T E) → P → OnErr r P
on_err (Ok x) h = tt
on_err (Err e) h = h

module _ (table : NodeTable) (old new : Desk) (quarters : List Sq) where
  pub no_upper_half : HasNoRoom table new Pair (word_of (nth quarters 0) (nth quarters 1)) → HasNoRoomForQuad table old new quarters
  no_upper_half room = record { word = word_of (nth quarters 0) (nth quarters 1); needed = Needs.upper_half; room = room }

  pub no_lower_half : HasNoRoom table new Pair (word_of (nth quarters 2) (nth quarters 3)) → HasNoRoomForQuad table old new quarters
  no_lower_half room = record { word = word_of (nth quarters 2) (nth quarters 3); needed = Needs.lower_half; room = room }

  pub no_whole : (upper lower : ℕ) → IsHalf (known_by old) (known_by new) (nth quarters 0) (nth quarters 1) upper →
      IsHalf (known_by old) (known_by new) (nth quarters 2) (nth quarters 3) lower → HasNoRoom table new Pair (pair_of upper lower) → HasNoRoomForQuad table old new quarters
  no_whole upper lower top bottom room = record { word = pair_of upper lower; needed = Needs.both_halves upper lower top bottom; room = room }

  -- which word it is that has no room
  pub lacks : {P : Type 0} → (HasNoRoom table new Pair (word_of (nth quarters 0) (nth quarters 1)) → P) → (HasNoRoom table new Pair (word_of (nth quarters 2) (nth quarters 3)) → P) →
      ((upper lower : ℕ) → IsHalf (known_by old) (known_by new) (nth quarters 0) (nth quarters 1) upper → IsHalf (known_by old) (known_by new) (nth quarters 2) (nth quarters 3) lower → HasNoRoom table new Pair (pair_of upper lower) → P) →
      HasNoRoomForQuad table old new quarters → P
  lacks {P} above below both lack = one_of lack.word lack.needed lack.room
    where
      one_of : (word : ℕ) → Needs (known_by old) (known_by new) quarters word → HasNoRoom table new Pair word → P
      one_of word Needs.upper_half room = above room
      one_of word Needs.lower_half room = below room
      one_of word (Needs.both_halves upper lower top bottom) room = both upper lower top bottom room
