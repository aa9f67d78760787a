-- Two blocks as one.
use Rattle.std.proofs.Common.{◌≡◌, ◌≢◌, ℕ, suc, ◌+◌, ◌-◌, ◌%◌, ◌^◌, ◌<◌, ◌≤◌, pos, Bool, true, false, cond, sym, subst, arith, refl, inl}
use Rattle.std.specs.Prelude.{◌==◌, IsTrue, int_lt, [], ◌∷◌}
use Rattle.plane.specs.Plane.{Plane}
use Rattle.plane.specs.Square.{IsSame, IsSquare, empty, cut, joined}
use Rattle.plane.specs.Block.{beside, below}
use Rattle.plane.proofs.Cuts.{cut_same, joined_nw, joined_ne, joined_sw, joined_se}
use Rattle.plane.proofs.Same.{same_refl, same_sym, same_trans, same_of}
use Rattle.table_core.specs.declared.key.Key.{Key}
use Rattle.table_core.specs.declared.knowledge.Knowledge.{Knowledge}
use Rattle.table_core.specs.Layout.{first_part, second_part}
use Rattle.table_core.specs.Blocks.{paired, width, height, square_rank}
use Rattle.table_core.specs.Knowledge.{KnowsBlock, Grows}
use Rattle.table_core.specs.Learning.{KnowsPartsOf, LearnsWord, MeetsWord}
use Rattle.table_core.proofs.Blocks.{paired_same}
use Rattle.table_core.proofs.Knowing.{grows_trans, knows_same, knows_grown}
use Rattle.table_core.proofs.Quads.{next_rank, quarters_joined}
use Rattle.node_table.specs.Books.{book_of, knows_in, known_cells, IsCoherent}
use Rattle.node_table.specs.Numbers.{IsPair, ArePartsOf, KnowsPairOf, KnowsSomePair}
use Rattle.node_table.specs.Refusals.{IsHalf}
use Rattle.std.proofs.Math.Logic.{∥∥₁_elim}
use Rattle.std.proofs.Props.{props}
use Rattle.squares.specs.declared.sq.Sq.{Sq}
use Rattle.squares.specs.Book.{Book, AreQuarters, Shows, Store, numbered}
use Rattle.node_table.proofs.Books.{zero_is_empty, inside_square, shows_of}
use Rattle.node_table.proofs.Entries.{halved, quarter_rank}

both_cases : {A : Type 0} (b : Bool) (u v w : A) → u ≡ w → v ≡ w → cond b u v ≡ w
both_cases true u v w h k = h
both_cases false u v w h k = k

-- two empty blocks are an empty one
pub empty_paired : (rank : ℕ) → paired rank empty empty ≡ empty
empty_paired rank = both_cases (rank % 2 == 0) (beside (width rank) empty empty) (below (height rank) empty empty) empty
    (λ i x y. both_cases (int_lt x (pos (width rank))) false false false refl refl i)
    (λ i x y. both_cases (int_lt y (pos (height rank))) false false false refl refl i)

zero_empty : (bits : ℕ) (known : Knowledge) (rank n : ℕ) (plane : Plane) → ∥ IsCoherent bits known ∥₁ → n ≡ 0 → KnowsBlock known rank n plane → IsSame empty plane
zero_empty bits known rank n plane h e knows = zero_is_empty bits known rank plane h (subst (λ m. KnowsBlock known rank m plane) e knows)

pub empty_pair : (bits : ℕ) (known : Knowledge) (first second : ℕ) → ∥ IsCoherent bits known ∥₁ → first ≡ 0 → second ≡ 0 → IsPair known known first second 0
empty_pair bits known first second h e f = record {
  shown = λ rank one two a b. inl (
    refl,
    same_trans (same_of empty (paired rank empty empty) (sym (empty_paired rank))) (paired_same rank empty empty one two (zero_empty bits known rank first one h e a) (zero_empty bits known rank second two h f b)),
  );
}

-- the two parts of an empty block
pub empty_parts : (bits : ℕ) (known : Knowledge) (number : ℕ) → ∥ IsCoherent bits known ∥₁ → number ≡ 0 → KnowsPairOf known known number 0 0
empty_parts bits known number h e = record {
  parts = λ rank plane knows. record {
    one = empty;
    two = empty;
    cells = same_trans (same_sym (zero_empty bits known (suc rank) number plane h e knows)) (same_of empty (paired rank empty empty) (sym (empty_paired rank)));
    shows_one = inl (refl, same_refl empty);
    shows_two = inl (refl, same_refl empty);
  };
}

-- a look at a known block shows its parts
pub pair_read : (key : Key) (old new : Knowledge) (number word : ℕ) → number ≢ 0 →
    ((rank : ℕ) (plane : Plane) → KnowsBlock old rank number plane → word ≢ 0) → MeetsWord key old number word new →
    KnowsPairOf old new number (first_part word) (second_part word)
pair_read key old new number word some stands met = record {
  parts = λ rank plane knows.
      let learns : LearnsWord key old number word new = met.some (stands (suc rank) plane knows) in
      let p : KnowsPartsOf new rank word plane = learns.parts rank plane some knows in
      record { one = p.one; two = p.two; cells = p.cells; shows_one = p.both.first; shows_two = p.both.second };
}

-- four squares as one
pub quad_shown : (old new : Knowledge) (level upper lower number : ℕ) (p q r s : Plane) → 3 ≤ level → IsPair old new upper lower number →
    KnowsBlock old (suc (square_rank level)) upper (paired (square_rank level) p q) → KnowsBlock old (suc (square_rank level)) lower (paired (square_rank level) r s) →
    KnowsBlock new (square_rank (level + 1)) number (joined (2 ^ level) p q r s)
quad_shown old new level upper lower number p q r s above whole top bottom =
    subst (λ n. KnowsBlock new n number (joined (2 ^ level) p q r s)) (sym (next_rank level above))
    (subst (λ plane. KnowsBlock new (suc (suc (square_rank level))) number plane) (quarters_joined level p q r s above)
    (whole.shown (suc (square_rank level)) (paired (square_rank level) p q) (paired (square_rank level) r s) top bottom))

-- a known square above level 3 has two halves
pub some_halves : (known : Knowledge) (sq : Sq) → 3 < sq.level → IsTrue (knows_in known sq) → KnowsSomePair known sq.num.0
some_halves known sq above h = record { rank = suc (square_rank (sq.level - 1)); plane = known_cells known sq; shown = halved known sq above h }

-- and each of them has two parts
module _ {old new : Knowledge} {upper lower : ℕ} (sq : Sq) (above : 3 < sq.level) (known : IsTrue (knows_in old sq)) (read : KnowsPairOf old new sq.num.0 upper lower) where
  two_halves : ArePartsOf new (suc (square_rank (sq.level - 1))) (known_cells old sq) upper lower
  two_halves = read.parts (suc (square_rank (sq.level - 1))) (known_cells old sq) (halved old sq above known)

  pub upper_half : KnowsSomePair new upper
  upper_half = record { rank = square_rank (sq.level - 1); plane = two_halves.one; shown = two_halves.shows_one }

  pub lower_half : KnowsSomePair new lower
  lower_half = record { rank = square_rank (sq.level - 1); plane = two_halves.two; shown = two_halves.shows_two }

pub pair_grown : {old new : Knowledge} {number : ℕ} → Grows old new → KnowsSomePair old number → KnowsSomePair new number
pair_grown {old} {new} {number} grows h = record { rank = h.rank; plane = h.plane; shown = knows_grown old new (suc h.rank) number h.plane grows h.shown }

is_square_prop : (side : ℕ) (plane : Plane) → IsProp (IsSquare side plane)
is_square_prop side plane = hlevel props

known_square : (bits : ℕ) (known : Knowledge) (level n : ℕ) (plane : Plane) → ∥ IsCoherent bits known ∥₁ → 3 ≤ level → KnowsBlock known (square_rank level) n plane → IsSquare (2 ^ level) plane
known_square bits known level n plane h above knows =
    ∥∥₁_elim h (is_square_prop (2 ^ level) plane) (λ t. inside_square level plane above (t.consistent.inside (square_rank level) n plane knows))

-- the quarters of a square whose halves and their parts were read
module _ (store : Store) (key : Key) {a b c d : Knowledge} (level : ℕ) {number upper lower nw ne sw se : ℕ} (plane : Plane) (low : 3 < level) (high : level ≤ 65) (h : ∥ IsCoherent key.shape.bits d ∥₁) (whole : KnowsPairOf a b number upper lower) (top : KnowsPairOf b c upper nw ne) (bottom : KnowsPairOf c d lower sw se) (grows : Grows b c) (more : Grows c d) (knows : KnowsBlock a (square_rank level) number plane) where
  halves : ArePartsOf b (suc (square_rank (level - 1))) plane upper lower
  halves = whole.parts (suc (square_rank (level - 1))) plane (subst (λ r. KnowsBlock a r number plane) (quarter_rank level low) knows)

  uppers : ArePartsOf c (square_rank (level - 1)) halves.one nw ne
  uppers = top.parts (square_rank (level - 1)) halves.one halves.shows_one

  lowers : ArePartsOf d (square_rank (level - 1)) halves.two sw se
  lowers = bottom.parts (square_rank (level - 1)) halves.two (knows_grown b c (suc (square_rank (level - 1))) lower halves.two grows halves.shows_two)

  all : Plane
  all = joined (2 ^ (level - 1)) uppers.one uppers.two lowers.one lowers.two

  cells : IsSame all plane
  unfolding all
  cells = same_sym (same_trans halves.cells
      (same_trans (paired_same (suc (square_rank (level - 1))) halves.one halves.two _ _ uppers.cells lowers.cells)
      (same_of _ _ (quarters_joined (level - 1) uppers.one uppers.two lowers.one lowers.two (omega arith)))))

  is_square : (n : ℕ) (part : Plane) → KnowsBlock d (square_rank (level - 1)) n part → IsSquare (2 ^ (level - 1)) part
  is_square n part k = known_square key.shape.bits d (level - 1) n part h (omega arith) k

  known_nw : KnowsBlock d (square_rank (level - 1)) nw uppers.one
  known_nw = knows_grown c d (square_rank (level - 1)) nw uppers.one more uppers.shows_one

  known_ne : KnowsBlock d (square_rank (level - 1)) ne uppers.two
  known_ne = knows_grown c d (square_rank (level - 1)) ne uppers.two more uppers.shows_two

  shown : (n left up : ℕ) (part : Plane) → KnowsBlock d (square_rank (level - 1)) n part → IsSame part (cut (2 ^ (level - 1)) left up all) →
      Shows (book_of store key d) (level - 1) (cut (2 ^ (level - 1)) left up plane) (numbered (level - 1) n)
  shown n left up part k same = shows_of store key d (numbered (level - 1) n) (cut (2 ^ (level - 1)) left up plane) h (omega arith) (omega arith)
      (knows_same d (square_rank (level - 1)) n part (cut (2 ^ (level - 1)) left up plane) (same_trans same (cut_same (2 ^ (level - 1)) left up all plane cells)) k)

  -- what the desk sees in a square with a part's number
  seen : (n : ℕ) (part : Plane) → KnowsBlock d (square_rank (level - 1)) n part → IsSame part (known_cells d (numbered (level - 1) n))
  seen n part k = same_sym (shows_of store key d (numbered (level - 1) n) part h (omega arith) (omega arith) k).cells

  half_seen : (n one two : ℕ) (part left right : Plane) → KnowsBlock d (suc (square_rank (level - 1))) n part → IsSame part (paired (square_rank (level - 1)) left right) →
      KnowsBlock d (square_rank (level - 1)) one left → KnowsBlock d (square_rank (level - 1)) two right → IsHalf d d (numbered (level - 1) one) (numbered (level - 1) two) n
  half_seen n one two part left right knows same k l =
      knows_same d (suc (square_rank (level - 1))) n part _ (same_trans same (paired_same (square_rank (level - 1)) left right _ _ (seen one left k) (seen two right l))) knows

  pub upper_shown : IsHalf d d (numbered (level - 1) nw) (numbered (level - 1) ne) upper
  upper_shown = half_seen upper nw ne halves.one uppers.one uppers.two (knows_grown b d (suc (square_rank (level - 1))) upper halves.one (grows_trans b c d grows more) halves.shows_one) uppers.cells known_nw known_ne

  pub lower_shown : IsHalf d d (numbered (level - 1) sw) (numbered (level - 1) se) lower
  lower_shown = half_seen lower sw se halves.two lowers.one lowers.two (knows_grown b d (suc (square_rank (level - 1))) lower halves.two (grows_trans b c d grows more) halves.shows_two) lowers.cells lowers.shows_one lowers.shows_two

  square_nw : IsSquare (2 ^ (level - 1)) uppers.one
  square_nw = is_square nw uppers.one known_nw

  square_ne : IsSquare (2 ^ (level - 1)) uppers.two
  square_ne = is_square ne uppers.two known_ne

  square_sw : IsSquare (2 ^ (level - 1)) lowers.one
  square_sw = is_square sw lowers.one lowers.shows_one

  square_se : IsSquare (2 ^ (level - 1)) lowers.two
  square_se = is_square se lowers.two lowers.shows_two

  pub quarters_shown : AreQuarters (book_of store key d) level plane (numbered (level - 1) nw ∷ numbered (level - 1) ne ∷ numbered (level - 1) sw ∷ numbered (level - 1) se ∷ [])
  unfolding all
  quarters_shown = record {
    nw = shown nw 0 0 uppers.one known_nw (joined_nw (2 ^ (level - 1)) _ _ _ _ square_nw square_ne square_sw square_se);
    ne = shown ne (2 ^ (level - 1)) 0 uppers.two known_ne (joined_ne (2 ^ (level - 1)) _ _ _ _ square_nw square_ne square_sw square_se);
    sw = shown sw 0 (2 ^ (level - 1)) lowers.one lowers.shows_one (joined_sw (2 ^ (level - 1)) _ _ _ _ square_nw square_ne square_sw square_se);
    se = shown se (2 ^ (level - 1)) (2 ^ (level - 1)) lowers.two lowers.shows_two (joined_se (2 ^ (level - 1)) _ _ _ _ square_nw square_ne square_sw square_se);
  }

pub same_quarters : {book : Book} {level : ℕ} {plane : Plane} {a b c d nw ne sw se : Sq} → nw ≡ a → ne ≡ b → sw ≡ c → se ≡ d → AreQuarters book level plane (a ∷ b ∷ c ∷ d ∷ []) →
    AreQuarters book level plane (nw ∷ ne ∷ sw ∷ se ∷ [])
same_quarters {book} {level} {plane} e f g h quarters = subst (AreQuarters book level plane) (λ i. sym e i ∷ sym f i ∷ sym g i ∷ sym h i ∷ []) quarters
