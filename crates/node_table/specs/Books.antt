-- What a desk knows, as a book of squares.
use Rattle.std.specs.Prelude.{◌≡◌, ℕ, ◌==◌, nat_le, Bool, true, false, ◌&&◌, if◌then◌else◌, List, [], ◌∷◌, ◌++◌, map, slice_index, Option, Some, None, is_some}
use Rattle.plane.specs.declared.cell.TheConstants.{HIGHEST_LEVEL}
use Rattle.plane.specs.Plane.{Plane}
use Rattle.plane.specs.Square.{IsSame, empty}
use Rattle.plane.specs.Listing.{plane_of}
use Rattle.squares.specs.declared.sq.Sq.{Sq}
use Rattle.squares.specs.Book.{Book, IsBook, Store, numbered}
use Rattle.squares.specs.Facts.{Fact, word_fact, block_fact, result_fact}
use Rattle.table_core.specs.declared.key.Key.{Key}
use Rattle.table_core.specs.declared.knowledge.KnownBlock.{KnownBlock}
use Rattle.table_core.specs.declared.knowledge.KnownResult.{KnownResult}
use Rattle.table_core.specs.declared.knowledge.Knowledge.{Knowledge}
use Rattle.table_core.specs.Blocks.{square_rank}
use Rattle.table_core.specs.FullShards.{knows_full_shard}
use Rattle.table_core.specs.Good.{AreGoodWords}
use Rattle.table_core.specs.Knowledge.{IsConsistent, IsTrueOf, KnowsBlock}
use Rattle.node_table.specs.declared.desk_view.DeskView.{DeskView}

-- the first entry of a number as a block of this rank
abbrev pub entry_at : List KnownBlock → ℕ → ℕ → Option KnownBlock
entry_at [] rank number = None
entry_at (entry ∷ entries) rank number =
    if (entry.number == number) && (entry.rank == rank) then Some entry
    else entry_at entries rank number

abbrev pub cells_there : Option KnownBlock → Plane
cells_there None = empty
cells_there (Some entry) = plane_of entry.live

abbrev pub knows_in : Knowledge → Sq → Bool
knows_in known sq =
    (nat_le 3 sq.level && nat_le sq.level HIGHEST_LEVEL)
    && (if sq.num.0 == 0 then true
    else is_some (entry_at known.blocks (square_rank sq.level) sq.num.0))

abbrev pub known_cells : Knowledge → Sq → Plane
known_cells known sq =
    if sq.num.0 == 0 then empty
    else cells_there (entry_at known.blocks (square_rank sq.level) sq.num.0)

-- the square whose result it is
abbrev pub square_of : KnownResult → Sq
square_of result = numbered result.level result.square

abbrev pub fact_of_word : ℕ × ℕ → Fact
fact_of_word entry = word_fact entry.0 entry.1

abbrev pub fact_of_block : KnownBlock → Fact
fact_of_block block = block_fact block.rank block.number block.live

abbrev pub fact_of_result : KnownResult → Fact
fact_of_result result = result_fact result.level result.square result.future

-- all words, blocks and results that are known
unfoldable pub facts_of : Knowledge → List Fact
facts_of known =
    map fact_of_word known.words
    ++ (map fact_of_block known.blocks ++ map fact_of_result known.results)

-- the squares of a store, and all that is known of its words; it is full where a shard without a
-- zero slot is known, and takes no memory
abbrev pub book_of : Store → Key → Knowledge → Book
book_of store key known = record {
  rule = key.rule;
  exponent = key.exponent;
  knows = knows_in known;
  cells = known_cells known;
  results = map square_of known.results;
  learned = known.learned;
  is_full = knows_full_shard key.shape.bits known;
  takes_memory = false;
  store = store;
  facts = facts_of known;
}

-- what a desk knows agrees with itself, and 0 shows nothing but the empty block
pub record IsCoherent (bits : ℕ) (known : Knowledge) : Type 0 where
  pub consistent : IsConsistent bits known
  pub zero : (rank : ℕ) (plane : Plane) → KnowsBlock known rank 0 plane → IsSame empty plane

-- there are good words under this key, and what a desk knows is true of them
pub record IsTrueOfGoodWords (key : Key) (known : Knowledge) : Type 0 where
  pub words : List ℕ
  pub good : AreGoodWords key words
  pub true_of : IsTrueOf key.shape.bits (slice_index words) known

-- what a desk knows of a table with this key is a book, agrees with itself, and is true of some
-- good words
pub record IsSoundFor (key : Key) (known : Knowledge) : Type 0 where
  pub book : (store : Store) → IsBook (book_of store key known)
  pub coherent : ∥ IsCoherent key.shape.bits known ∥₁
  pub words : ∥ IsTrueOfGoodWords key known ∥₁

abbrev pub IsSound : DeskView → Type 0
IsSound view = (key : Key) → view.key ≡ Some key → IsSoundFor key view.known
