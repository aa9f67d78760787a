-- What words in one owner's hands show is read from them.
use Rattle.std.proofs.Common.{◌≡◌, ◌≢◌, ℕ, zero, suc, ◌-◌, ◌<◌, List, [], ◌∷◌, sym, ◌∙◌, ap, subst, refl, arith}
use Rattle.std.specs.Prelude.{slice_index}
use Rattle.plane.specs.Plane.{Plane}
use Rattle.plane.specs.Square.{IsSame, bits_plane, empty}
use Rattle.plane.proofs.Same.{same_refl, same_sym, same_trans, same_of}
use Rattle.squares.specs.declared.sq.Sq.{Sq}
use Rattle.squares.specs.Book.{AreQuarters, Shows, IsKnown, numbered, own_store}
use Rattle.table_core.specs.declared.key.Key.{Key}
use Rattle.table_core.specs.declared.knowledge.Knowledge.{Knowledge}
use Rattle.table_core.specs.declared.shape.Kind.TheVariants.{Leaf, Pair}
use Rattle.table_core.specs.Layout.{size, first_part, second_part}
use Rattle.table_core.specs.Blocks.{Words, IsBlock, ShowsBlock, cells_of, paired, square_rank}
use Rattle.table_core.specs.Good.{AreGoodWords}
use Rattle.table_core.specs.Laws.{KnowsAll}
use Rattle.table_core.proofs.Blocks.{empty_block, empty_cells, paired_same}
use Rattle.table_core.proofs.Knowing.{block_true, grows_refl}
use Rattle.table_core.proofs.Ways.{slot_below}
use Rattle.node_table.specs.Books.{book_of, IsCoherent}
use Rattle.node_table.specs.Numbers.{KnowsPairOf}
use Rattle.node_table.specs.StillWords.{AreParts, GoodWords, IsBlockOf, IsSomePair, book_of_good, cells_in}
use Rattle.node_table.proofs.Entries.{block_of, quarter_rank}
use Rattle.table_core.proofs.Everything.{all_of, all_known}
use Rattle.node_table.proofs.Steps.{is_coherent}
use Rattle.node_table.proofs.TwoBlocks.{empty_paired, quarters_shown}
use Rattle.node_table.proofs.WordBooks.{square_there, there_square}

pub all_coherent : (key : Key) (words : List ℕ) (good : AreGoodWords key words) → IsCoherent key.shape.bits (all_of key words good)
all_coherent key words good = is_coherent key (slice_index words) (all_of key words good) good.good (all_known key words good).true_of

block_in : (bits : ℕ) (words : Words) (rank n : ℕ) → n ≢ 0 → IsBlock bits words rank n → n < size bits
block_in bits words zero zero some b = absurd (some refl)
block_in bits words zero (suc i) some b = slot_below bits Leaf (suc i) b.0
block_in bits words (suc rank) zero some b = absurd (some refl)
block_in bits words (suc rank) (suc i) some b = slot_below bits Pair (suc i) b.0

leaf_cells : (words : Words) (n : ℕ) → n ≢ 0 → cells_of words 0 n ≡ bits_plane (words n)
leaf_cells words zero some = absurd (some refl)
leaf_cells words (suc i) some = refl

both_empty : (words : Words) (rank : ℕ) → IsSame (cells_of words (suc rank) 0) (paired rank (cells_of words rank 0) (cells_of words rank 0))
both_empty words rank = same_trans (same_of empty (paired rank empty empty) (sym (empty_paired rank)))
    (paired_same rank empty empty (cells_of words rank 0) (cells_of words rank 0) (same_of _ _ (sym (empty_cells words rank))) (same_of _ _ (sym (empty_cells words rank))))

module _ (s : GoodWords) where
  abbrev bits : ℕ
  bits = s.key.shape.bits

  abbrev words : Words
  words = slice_index s.words

  -- the number of a block is the index of a word
  pub number_in : (rank n : ℕ) → n ≢ 0 → IsBlockOf s rank n → n < size s.key.shape.bits
  number_in rank n some b = block_in bits words rank n some b

  pub leaf_is : (n word : ℕ) → n ≢ 0 → word ≡ slice_index s.words n → IsSame (cells_in s 0 n) (bits_plane word)
  leaf_is n word some e = same_of _ _ (leaf_cells words n some ∙ ap bits_plane (sym e))

  pub zero_parts : (number : ℕ) → number ≡ 0 → AreParts s number 0 0
  zero_parts number e = subst (λ n. AreParts s n 0 0) (sym e)
      (record { one = λ rank b. empty_block bits words rank; two = λ rank b. empty_block bits words rank; cells = λ rank. both_empty words rank })

  word_parts : (number : ℕ) → number ≢ 0 → AreParts s number (first_part (slice_index s.words number)) (second_part (slice_index s.words number))
  word_parts zero some = absurd (some refl)
  word_parts (suc i) some = record { one = λ rank b. b.2; two = λ rank b. b.3; cells = λ rank. same_refl _ }

  pub pair_parts : (number word : ℕ) → number ≢ 0 → word ≡ slice_index s.words number → AreParts s number (first_part word) (second_part word)
  pair_parts number word some e = subst (λ w. AreParts s number (first_part w) (second_part w)) (sym e) (word_parts number some)

  -- a known square above level 3 has two halves, and each of them has two parts
  halved : (sq : Sq) → 3 < sq.level → IsKnown (book_of_good s) sq.level sq → IsBlockOf s (suc (suc (square_rank (sq.level - 1)))) sq.num.0
  halved sq above known = subst (λ r. IsBlockOf s r sq.num.0) (quarter_rank sq.level above) (square_there bits words sq known.known).block

  pub some_pair : (sq : Sq) → 3 < sq.level → IsKnown (book_of_good s) sq.level sq → IsSomePair s sq.num.0
  some_pair sq above known = (suc (square_rank (sq.level - 1)), halved sq above known)

  pub upper_pair : {upper lower : ℕ} (sq : Sq) → 3 < sq.level → IsKnown (book_of_good s) sq.level sq → AreParts s sq.num.0 upper lower → IsSomePair s upper
  upper_pair sq above known are = (square_rank (sq.level - 1), are.one (suc (square_rank (sq.level - 1))) (halved sq above known))

  pub lower_pair : {upper lower : ℕ} (sq : Sq) → 3 < sq.level → IsKnown (book_of_good s) sq.level sq → AreParts s sq.num.0 upper lower → IsSomePair s lower
  lower_pair sq above known are = (square_rank (sq.level - 1), are.two (suc (square_rank (sq.level - 1))) (halved sq above known))

  abbrev all : Knowledge
  all = all_of s.key s.words s.good

  abbrev knows_all : KnowsAll s.key.shape.bits (slice_index s.words) (all_of s.key s.words s.good)
  knows_all = all_known s.key s.words s.good

  parts_known : {number first second : ℕ} → AreParts s number first second → KnowsPairOf all all number first second
  parts_known {number} {first} {second} are = record {
    parts = λ rank plane knows.
        let is : ShowsBlock bits words (suc rank) number plane = block_true bits words all (suc rank) number plane knows_all.true_of knows in
        record {
          one = cells_of words rank first;
          two = cells_of words rank second;
          cells = same_trans (same_sym is.cells) (are.cells rank);
          shows_one = knows_all.blocks rank first (are.one rank is.stands);
          shows_two = knows_all.blocks rank second (are.two rank is.stands);
        };
  }

  shown_still : (level : ℕ) (plane : Plane) (sq : Sq) → Shows (book_of own_store s.key all) level plane sq → Shows (book_of_good s) level plane sq
  shown_still level plane sq h =
      let is = block_true bits words all (square_rank sq.level) sq.num.0 _ knows_all.true_of (block_of all sq h.known.known) in
      let at = h.known.at_level in
      let low = h.known.low in
      let high = h.known.high in
      record {
        known = record { known = there_square bits words sq (omega arith) (omega arith) is.stands; at_level = h.known.at_level; low = h.known.low; high = h.known.high };
        cells = same_trans is.cells h.cells;
      }

  pub still_quarters : {upper lower nw ne sw se : ℕ} (sq : Sq) → 3 < sq.level → IsKnown (book_of_good s) sq.level sq → AreParts s sq.num.0 upper lower → AreParts s upper nw ne → AreParts s lower sw se →
      AreQuarters (book_of_good s) sq.level ((book_of_good s).cells sq) (numbered (sq.level - 1) nw ∷ numbered (sq.level - 1) ne ∷ numbered (sq.level - 1) sw ∷ numbered (sq.level - 1) se ∷ [])
  still_quarters {nw = nw} {ne} {sw} {se} sq above known whole top bottom =
      let q = quarters_shown own_store s.key sq.level (cells_of words (square_rank sq.level) sq.num.0) above known.high ∣ all_coherent s.key s.words s.good ∣₁
      (parts_known whole) (parts_known top) (parts_known bottom) (grows_refl all) (grows_refl all) (knows_all.blocks (square_rank sq.level) sq.num.0 (square_there bits words sq known.known).block) in
      record {
        nw = shown_still _ _ (numbered (sq.level - 1) nw) q.nw;
        ne = shown_still _ _ (numbered (sq.level - 1) ne) q.ne;
        sw = shown_still _ _ (numbered (sq.level - 1) sw) q.sw;
        se = shown_still _ _ (numbered (sq.level - 1) se) q.se;
      }
