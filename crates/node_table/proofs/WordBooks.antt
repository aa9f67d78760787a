-- What words show is a book.
use Rattle.std.proofs.Common.{◌≡◌, ◌≢◌, ℕ, zero, suc, ◌+◌, ◌^◌, ◌<◌, ◌≤◌, true, List, map, sym, ◌∙◌, ap, subst, arith, refl}
use Rattle.std.specs.Prelude.{IsTrue, ◌==◌, ◌&&◌, not, nat_le, nat_lt, Contains, slice_index}
use Rattle.std.specs.List.{range_with_len}
use Rattle.std.proofs.lemmas.Bool.{eq-eqb, ne_eqb, leb-true, le-leb, ltb-true, lt-ltb, false≢true}
use Rattle.plane.specs.Square.{IsSame}
use Rattle.plane.proofs.Same.{same_of}
use Rattle.rule_text.specs.CountRule.{IsRule}
use Rattle.squares.specs.declared.sq.Sq.{Sq}
use Rattle.squares.specs.Book.{IsBook, numbered}
use Rattle.squares.proofs.SquareNumbers.{same_sq}
use Rattle.table_core.specs.declared.key.Key.{Key}
use Rattle.table_core.specs.declared.shape.Kind.{Kind}
use Rattle.table_core.specs.declared.shape.Kind.TheVariants.{Leaf, Pair}
use Rattle.table_core.specs.Layout.{IsSlot, start, slot_bits, result_of, first_part, second_part}
use Rattle.table_core.specs.Blocks.{Words, IsBlock, cells_of, square_rank}
use Rattle.table_core.specs.Good.{AreGoodWords, IsGood}
use Rattle.table_core.specs.declared.knowledge.KnownResult.{KnownResult}
use Rattle.table_core.specs.Knowledge.{IsTrueResult}
use Rattle.table_core.proofs.Blocks.{cells_inside, empty_block, empty_cells, one_number, one_rank}
use Rattle.table_core.proofs.Booleans.{and_both, and_cases}
use Rattle.table_core.proofs.Ways.{not_head}
use Rattle.node_table.specs.Books.{square_of}
use Rattle.node_table.specs.StillBooks.{has_word, is_block, is_square, is_told, pair_squares, told_squares, book_of_words}
use Rattle.node_table.proofs.Books.{inside_square}
use Rattle.node_table.proofs.Listings.{Among, Apart, among_those, contains_among, among_passed, passed_among, apart_passed, one_place, among_map, map_among, apart_map, among_flat, flat_among, apart_flat, among_range, range_among, apart_range}

is_some : (n : ℕ) → not (n == 0) ≡ true → n ≢ 0
is_some n h e = false≢true (sym (ap not (eq-eqb n 0 e)) ∙ h)

some_is : (n : ℕ) → n ≢ 0 → not (n == 0) ≡ true
some_is n some = ap not (ne_eqb n 0 some)

word_there : (bits : ℕ) (words : Words) (kind : Kind) (i : ℕ) → has_word bits words kind i ≡ true → IsSlot bits kind i × (words i ≢ 0)
word_there bits words kind i h =
    let t = and_cases (nat_le (start bits kind) i && nat_lt i (start bits kind + 2 ^ slot_bits bits kind)) (not (words i == 0)) h in
    let u = and_cases (nat_le (start bits kind) i) (nat_lt i (start bits kind + 2 ^ slot_bits bits kind)) t.0 in
    (record { from = leb-true (start bits kind) i u.0; below = ltb-true i (start bits kind + 2 ^ slot_bits bits kind) u.1 }, is_some (words i) t.1)

there_word : (bits : ℕ) (words : Words) (kind : Kind) (i : ℕ) → IsSlot bits kind i → words i ≢ 0 → has_word bits words kind i ≡ true
there_word bits words kind i slot some = and_both (nat_le (start bits kind) i && nat_lt i (start bits kind + 2 ^ slot_bits bits kind)) (not (words i == 0))
    (and_both (nat_le (start bits kind) i) (nat_lt i (start bits kind + 2 ^ slot_bits bits kind)) (le-leb (start bits kind) i slot.from) (lt-ltb i (start bits kind + 2 ^ slot_bits bits kind) slot.below))
    (some_is (words i) some)

-- the test for a block tells whether there is one
pub block_there : (bits : ℕ) (words : Words) (rank n : ℕ) → is_block bits words rank n ≡ true → IsBlock bits words rank n
unfolding is_block
block_there bits words zero zero h = tt
block_there bits words zero (suc i) h = let t = word_there bits words Leaf (suc i) h in (t.0, t.1)
block_there bits words (suc rank) zero h = tt
block_there bits words (suc rank) (suc i) h =
    let t = and_cases (has_word bits words Pair (suc i) && is_block bits words rank (first_part (words (suc i)))) (is_block bits words rank (second_part (words (suc i)))) h in
    let u = and_cases (has_word bits words Pair (suc i)) (is_block bits words rank (first_part (words (suc i)))) t.0 in
    let w = word_there bits words Pair (suc i) u.0 in
    (w.0, w.1, block_there bits words rank (first_part (words (suc i))) u.1, block_there bits words rank (second_part (words (suc i))) t.1)

pub there_block : (bits : ℕ) (words : Words) (rank n : ℕ) → IsBlock bits words rank n → is_block bits words rank n ≡ true
unfolding is_block
there_block bits words zero zero b = refl
there_block bits words zero (suc i) b = there_word bits words Leaf (suc i) b.0 b.1
there_block bits words (suc rank) zero b = refl
there_block bits words (suc rank) (suc i) b =
    and_both (has_word bits words Pair (suc i) && is_block bits words rank (first_part (words (suc i)))) (is_block bits words rank (second_part (words (suc i))))
    (and_both (has_word bits words Pair (suc i)) (is_block bits words rank (first_part (words (suc i)))) (there_word bits words Pair (suc i) b.0 b.1) (there_block bits words rank (first_part (words (suc i))) b.2))
    (there_block bits words rank (second_part (words (suc i))) b.3)

-- a square of the words: its level, and its block
pub record StandsThere (bits : ℕ) (words : Words) (sq : Sq) : Type 0 where
  pub low : 3 ≤ sq.level
  pub high : sq.level ≤ 65
  pub block : IsBlock bits words (square_rank sq.level) sq.num.0

pub square_there : (bits : ℕ) (words : Words) (sq : Sq) → IsTrue (is_square bits words sq) → StandsThere bits words sq
square_there bits words sq h =
    let t = and_cases (nat_le 3 sq.level && nat_le sq.level 65) (is_block bits words (square_rank sq.level) sq.num.0) h in
    let u = and_cases (nat_le 3 sq.level) (nat_le sq.level 65) t.0 in
    record { low = leb-true 3 sq.level u.0; high = leb-true sq.level 65 u.1; block = block_there bits words (square_rank sq.level) sq.num.0 t.1 }

pub there_square : (bits : ℕ) (words : Words) (sq : Sq) → 3 ≤ sq.level → sq.level ≤ 65 → IsBlock bits words (square_rank sq.level) sq.num.0 → IsTrue (is_square bits words sq)
there_square bits words sq low high b =
    and_both (nat_le 3 sq.level && nat_le sq.level 65) (is_block bits words (square_rank sq.level) sq.num.0)
    (and_both (nat_le 3 sq.level) (nat_le sq.level 65) (le-leb 3 sq.level low) (le-leb sq.level 65 high))
    (there_block bits words (square_rank sq.level) sq.num.0 b)

-- a square that has a result
pub record IsTold (bits : ℕ) (words : Words) (sq : Sq) : Type 0 where
  pub above : 3 < sq.level
  pub square : IsTrue (is_square bits words sq)
  pub slot : IsSlot bits Pair sq.num.0
  pub told : words (result_of bits sq.num.0) ≢ 0

abbrev of_level : ℕ → ℕ → List Sq
of_level bits level = map (numbered level) (range_with_len (start bits Pair) (2 ^ bits))

of_level_is : (bits level : ℕ) (sq : Sq) → Among sq (of_level bits level) → (sq.level ≡ level) × IsSlot bits Pair sq.num.0
of_level_is bits level sq h =
    let t = map_among (numbered level) (range_with_len (start bits Pair) (2 ^ bits)) sq h in
    let u = range_among (start bits Pair) (2 ^ bits) t.0 t.1 in
    (sym (ap (λ (q : Sq). q.level) t.2), subst (IsSlot bits Pair) (ap (λ (q : Sq). q.num.0) t.2) (record { from = u.0; below = u.1 }))

all_apart : (bits : ℕ) → Apart (pair_squares bits)
all_apart bits = apart_flat (of_level bits) (range_with_len 4 62)
    (λ level. apart_map (numbered level) (range_with_len (start bits Pair) (2 ^ bits)) (λ n m e. ap (λ (q : Sq). q.num.0) e) (apart_range (start bits Pair) (2 ^ bits)))
    (λ level other sq s t. sym (of_level_is bits other sq t).0 ∙ (of_level_is bits level sq s).0)
    (apart_range 4 62)

pub told_there : (bits : ℕ) (words : Words) (sq : Sq) → Contains (told_squares bits words) sq → IsTold bits words sq
unfolding told_squares
told_there bits words sq h =
    let t = passed_among (is_told bits words) (pair_squares bits) sq (among_those (told_squares bits words) sq h) in
    let u = flat_among (of_level bits) (range_with_len 4 62) sq t.0 in
    let r = range_among 4 62 u.0 u.1 in
    let at = of_level_is bits u.0 sq u.2 in
    let has = and_cases (is_square bits words sq) (not (words (result_of bits sq.num.0) == 0)) t.1 in
    record { above = (let from = r.0 in let level = at.0 in omega arith); square = has.0; slot = at.1; told = is_some (words (result_of bits sq.num.0)) has.1 }

pub there_told : (bits : ℕ) (words : Words) (sq : Sq) → IsTold bits words sq → Contains (told_squares bits words) sq
unfolding told_squares
there_told bits words sq h =
    let s = square_there bits words sq h.square in
    let above = h.above in
    let high = s.high in
    contains_among (told_squares bits words) sq (among_passed (is_told bits words) (pair_squares bits) sq
    (and_both (is_square bits words sq) (not (words (result_of bits sq.num.0) == 0)) h.square (some_is (words (result_of bits sq.num.0)) h.told))
    (among_flat (of_level bits) (range_with_len 4 62) sq.level sq (among_range 4 62 sq.level (omega arith) (omega arith))
    (among_map (numbered sq.level) (range_with_len (start bits Pair) (2 ^ bits)) sq.num.0 (among_range (start bits Pair) (2 ^ bits) sq.num.0 h.slot.from h.slot.below))))

told_once : (bits : ℕ) (words : Words) → Apart (told_squares bits words)
unfolding told_squares
told_once bits words = apart_passed (is_told bits words) (pair_squares bits) (all_apart bits)

pub words_book : (key : Key) (words : List ℕ) → AreGoodWords key words → IsRule key.rule → IsBook (book_of_words key words)
words_book key words good rule =
    let bits = key.shape.bits in
    let ws = slice_index words in
    record {
      rule = rule;
      levels = λ sq s. let t = square_there bits ws sq s in (t.low, t.high);
      square = λ sq s. inside_square sq.level (cells_of ws (square_rank sq.level) sq.num.0) (square_there bits ws sq s).low (cells_inside ws (square_rank sq.level) sq.num.0);
      one_number = λ a b s t level same. same_sq a b level
          (let one = subst (λ l. IsBlock bits ws (square_rank l) a.num.0) level (square_there bits ws a s).block in
          one_number key ws good.good (square_rank b.level) a.num.0 b.num.0 one (square_there bits ws b t).block (subst (λ l. IsSame (cells_of ws (square_rank l) a.num.0) (cells_of ws (square_rank b.level) b.num.0)) level same));
      zero_known = λ level low high. there_square bits ws (numbered level 0) low high (empty_block bits ws (square_rank level));
      zero_empty = λ level. same_of _ _ (empty_cells ws (square_rank level));
      results = λ sq s. let t = told_there bits ws sq s in (t.square, t.above, not_head bits Pair sq.num.0 t.slot);
      results_once = λ i j sq e f. one_place (told_squares bits ws) i j sq (told_once bits ws) e f;
    }

-- results of good words
module _ (key : Key) (words : Words) (good : IsGood key words) where
  block_some : (rank n : ℕ) → n ≢ 0 → IsBlock key.shape.bits words rank n → words n ≢ 0
  block_some zero zero some b = absurd (some refl)
  block_some zero (suc i) some b = b.1
  block_some (suc rank) zero some b = absurd (some refl)
  block_some (suc rank) (suc i) some b = b.1

  -- a result that is true is told
  pub result_told : (result : KnownResult) → IsTrueResult key.shape.bits words result → IsTold key.shape.bits words (square_of result)
  result_told result is =
      let other = not_head key.shape.bits Pair result.square is.slot in
      let pair = good.blocks result.square is.slot (block_some (square_rank result.level) result.square other is.square) in
      let same : square_rank result.level ≡ suc pair.0 = one_rank key.shape.bits words (square_rank result.level) (suc pair.0) result.square is.square pair.2 other in
      let below = pair.1 in
      let above = is.above in
      record {
        above = is.above;
        square = there_square key.shape.bits words (square_of result) (omega arith) (omega arith) is.square;
        slot = is.slot;
        told = λ z. let no : 2 ^ 32 + result.future ≡ 0 = sym is.told ∙ z in omega arith;
      }

  -- and what is told is true
  pub told_result : (sq : Sq) → IsTold key.shape.bits words sq → (result : KnownResult) × IsTrueResult key.shape.bits words result × (square_of result ≡ sq)
  told_result sq is =
      let t = good.results sq.num.0 is.slot is.told in (
        record { level = sq.level; square = sq.num.0; future = t.0 },
        record { above = is.above; slot = is.slot; square = (square_there key.shape.bits words sq is.square).block; told = t.1 },
        refl,
      )
