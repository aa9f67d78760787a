-- What words show that nobody changes, as a book that is only read.
use Rattle.std.specs.Prelude.{ℕ, zero, suc, ◌+◌, ◌^◌, ◌==◌, nat_le, nat_lt, Bool, true, false, not, ◌&&◌, List, [], map, filter, slice_index}
use Rattle.std.specs.List.{flat_map, range_with_len}
use Rattle.plane.specs.declared.cell.TheConstants.{HIGHEST_LEVEL}
use Rattle.squares.specs.declared.sq.Sq.{Sq}
use Rattle.squares.specs.Book.{Book, numbered, own_store}
use Rattle.table_core.specs.declared.key.Key.{Key}
use Rattle.table_core.specs.declared.shape.Kind.{Kind}
use Rattle.table_core.specs.declared.shape.Kind.TheVariants.{Leaf, Pair}
use Rattle.table_core.specs.Layout.{start, slot_bits, result_of, first_part, second_part}
use Rattle.table_core.specs.Blocks.{Words, cells_of, square_rank}

-- whether a nonzero word of the kind stands at the index
abbrev pub has_word : ℕ → Words → Kind → ℕ → Bool
has_word bits words kind index =
    nat_le (start bits kind) index && nat_lt index (start bits kind + 2 ^ slot_bits bits kind)
    && not (words index == 0)

-- whether the number stands for a block of this rank
unfoldable pub is_block : ℕ → Words → ℕ → ℕ → Bool
is_block bits words zero zero = true
is_block bits words zero (suc i) = has_word bits words Leaf (suc i)
is_block bits words (suc rank) zero = true
is_block bits words (suc rank) (suc i) =
    has_word bits words Pair (suc i)
    && is_block bits words rank (first_part (words (suc i)))
    && is_block bits words rank (second_part (words (suc i)))

-- whether it is a square of level 3 to the highest whose number stands for a block of its rank
abbrev pub is_square : ℕ → Words → Sq → Bool
is_square bits words sq =
    nat_le 3 sq.level && nat_le sq.level HIGHEST_LEVEL
    && is_block bits words (square_rank sq.level) sq.num.0

-- whether it is such a square, and a result stands beside its pair
abbrev pub is_told : ℕ → Words → Sq → Bool
is_told bits words sq =
    is_square bits words sq && not (words (result_of bits sq.num.0) == 0)

-- the squares of level 4 to the highest with the number of a pair slot
abbrev pub pair_squares : ℕ → List Sq
pair_squares bits =
    flat_map (λ level. map (numbered level) (range_with_len (start bits Pair) (2 ^ bits)))
    (range_with_len 4 62)

-- those of them that have a result
unfoldable pub told_squares : ℕ → Words → List Sq
told_squares bits words = filter (is_told bits words) (pair_squares bits)

-- what words show: their squares, with the cells of their blocks, and those that have results; they
-- take no memory, and refuse nothing
abbrev pub book_of_words : Key → List ℕ → Book
book_of_words key words = record {
  rule = key.rule;
  exponent = key.exponent;
  knows = is_square key.shape.bits (slice_index words);
  cells = λ sq. cells_of (slice_index words) (square_rank sq.level) sq.num.0;
  results = told_squares key.shape.bits (slice_index words);
  learned = 0;
  is_full = false;
  takes_memory = false;
  store = own_store;
  facts = [];
}
