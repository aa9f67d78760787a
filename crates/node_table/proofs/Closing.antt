-- Words say, as a book, all that is true of them.
use Rattle.std.proofs.Common.{ℕ, List, subst, refl}
use Rattle.std.specs.Prelude.{IsTrue, Contains, slice_index}
use Rattle.squares.specs.declared.sq.Sq.{Sq}
use Rattle.squares.specs.Book.{Store}
use Rattle.table_core.specs.declared.key.Key.{Key}
use Rattle.table_core.specs.declared.knowledge.Knowledge.{Knowledge}
use Rattle.table_core.specs.Good.{AreGoodWords}
use Rattle.table_core.specs.Blocks.{ShowsBlock, square_rank}
use Rattle.table_core.specs.Knowledge.{IsTrueOf, IsTrueResult}
use Rattle.table_core.proofs.Knowing.{block_true}
use Rattle.table_core.proofs.Lists.{all_contains}
use Rattle.node_table.specs.Books.{book_of, knows_in, known_cells, square_of}
use Rattle.node_table.specs.Openings.{SaysAll}
use Rattle.node_table.specs.StillBooks.{book_of_words, is_square, told_squares}
use Rattle.node_table.proofs.Books.{result_there}
use Rattle.node_table.proofs.Entries.{known_level, block_of}
use Rattle.node_table.proofs.WordBooks.{result_told, there_square, there_told}

module _ (store : Store) (key : Key) (words : List ℕ) (good : AreGoodWords key words) (known : Knowledge) (h : IsTrueOf key.shape.bits (slice_index words) known) where
  shown : (sq : Sq) → IsTrue (knows_in known sq) → ShowsBlock key.shape.bits (slice_index words) (square_rank sq.level) sq.num.0 (known_cells known sq)
  shown sq s = block_true key.shape.bits (slice_index words) known (square_rank sq.level) sq.num.0 (known_cells known sq) h (block_of known sq s)

  known_there : (sq : Sq) → IsTrue (knows_in known sq) → IsTrue (is_square key.shape.bits (slice_index words) sq)
  known_there sq s = let l = known_level known sq s in there_square key.shape.bits (slice_index words) sq l.0 l.1 (shown sq s).stands

  pub says_all : SaysAll (book_of store key known) (book_of_words key words)
  says_all = record {
    rule = refl;
    exponent = refl;
    known = known_there;
    cells = λ sq s. (shown sq s).cells;
    results = λ sq s.
        let t = result_there known.results sq s in
        let is = all_contains (IsTrueResult key.shape.bits (slice_index words)) known.results t.0 h.results t.1 in
        subst (Contains (told_squares key.shape.bits (slice_index words))) t.2
        (there_told key.shape.bits (slice_index words) (square_of t.0) (result_told key (slice_index words) good.good t.0 is));
  }
