-- Halves of squares: made of two squares, kept, read, and made into a square.
use Rattle.std.proofs.Common.{◌≡◌, ℕ, suc, ◌+◌, ◌-◌, ◌^◌, ◌<◌, [], ◌∷◌, sym, subst, arith, refl}
use Rattle.std.proofs.Math.Logic.{∥∥₁_elim}
use Rattle.std.proofs.Props.{props}
use Rattle.plane.specs.Plane.{Plane}
use Rattle.plane.specs.Square.{IsSame}
use Rattle.plane.proofs.Cuts.{joined_same}
use Rattle.plane.proofs.Same.{same_sym, same_trans}
use Rattle.squares.specs.declared.sq.Sq.{Sq}
use Rattle.squares.specs.Book.{Book, AreQuarters, IsKnown, Keeps, Shows, joined_squares, numbered}
use Rattle.squares.proofs.Kept.{known_kept}
use Rattle.squares.proofs.NineSquares.{IsJoined}
use Rattle.table_core.specs.declared.knowledge.Knowledge.{Knowledge}
use Rattle.table_core.specs.Layout.{pair_of}
use Rattle.table_core.specs.Blocks.{paired, square_rank}
use Rattle.table_core.specs.Knowledge.{KnowsBlock, Grows}
use Rattle.table_core.specs.Lawful.{KnowsParts}
use Rattle.table_core.proofs.Blocks.{paired_same}
use Rattle.table_core.proofs.Knowing.{knows_grown, knows_same}
use Rattle.node_table.specs.declared.at.At.{At}
use Rattle.node_table.specs.declared.halves.Half.{Half}
use Rattle.node_table.specs.Books.{known_cells}
use Rattle.node_table.specs.Desks.{work_store}
use Rattle.node_table.specs.DesksAtWork.{LearnsBlocks, book_here}
use Rattle.node_table.specs.Halves.{AreBeside, AreHalves, IsHalfOf, KnowsHalf, MakeSquare, squares_of}
use Rattle.node_table.specs.Numbers.{IsPair}
use Rattle.node_table.specs.Refusals.{IsHalf, known_by, word_of}
use Rattle.node_table.proofs.Books.{shows_of}
use Rattle.node_table.proofs.Desks.{coherent_here, known_block, knows_parts}
use Rattle.node_table.proofs.TwoBlocks.{quad_shown}
use Rattle.node_table.proofs.Working.{book_kept}

-- two known squares of a level, as those that stand beside one another
pub beside : {book : Book} {level : ℕ} {left right : Sq} → level < 65 → IsKnown book level left → IsKnown book level right → AreBeside book left right
beside {book} {level} {left} {right} fits k l = record {
  fits = subst (λ n. n < 65) (sym k.at_level) fits;
  left = subst (λ n. IsKnown book n left) (sym k.at_level) k;
  right = subst (λ n. IsKnown book n right) (sym k.at_level) l;
}

-- they are known as the parts of their half
pub beside_parts : (at : At) {left right : Sq} → AreBeside (book_here at) left right → KnowsParts (known_by at.desk) (word_of left right)
beside_parts at {left} {right} are =
    let fits = are.fits in let low = are.left.low in
    knows_parts at.table.now.key (known_by at.desk) (square_rank left.level) left.num.0 right.num.0 (known_cells (known_by at.desk) left) (known_cells (known_by at.desk) right) (coherent_here at) (omega arith)
    (known_block (known_by at.desk) left.level left refl are.left.known) (known_block (known_by at.desk) left.level right are.right.at_level are.right.known)

-- the half that is made of them
pub half_made : {old new : At} {left right : Sq} {number : ℕ} → LearnsBlocks old new → AreBeside (book_here old) left right →
    IsPair (known_by old.desk) (known_by new.desk) left.num.0 right.num.0 number → IsHalfOf new left right (record { left = left; right = right; number = number })
half_made {old} {new} {left} {right} learns are is =
    let keeps = book_kept learns in
    let rank = square_rank left.level in
    let block = λ (sq : Sq) (known : IsKnown (book_here old) left.level sq).
    knows_same (known_by old.desk) rank sq.num.0 (known_cells (known_by old.desk) sq) (known_cells (known_by new.desk) sq) (same_sym (keeps.cells sq known.known)) (known_block (known_by old.desk) left.level sq known.at_level known.known) in
    record {
      left = refl;
      right = refl;
      known = record {
        left = known_kept keeps are.left;
        right = known_kept keeps are.right;
        shown = is.shown rank (known_cells (known_by new.desk) left) (known_cells (known_by new.desk) right) (block left are.left) (block right are.right);
      };
    }

-- what a half showed it shows to one that knows more, and in the cells that another sees
pub half_again : (a b c d : Knowledge) (left right : Sq) (number : ℕ) → Grows b c → IsSame (known_cells a left) (known_cells d left) → IsSame (known_cells a right) (known_cells d right) → IsHalf a b left right number → IsHalf d c left right number
half_again a b c d left right number grows one two is =
    let rank = square_rank left.level in
    knows_same c (suc rank) number _ _ (paired_same rank _ _ _ _ one two) (knows_grown b c (suc rank) number _ grows is)

pub half_kept : {old new : At} {level : ℕ} {half : Half} → LearnsBlocks old new → KnowsHalf old level half → KnowsHalf new level half
half_kept {old} {new} {level} {half} learns h =
    let keeps = book_kept learns in
    record {
      left = known_kept keeps h.left;
      right = known_kept keeps h.right;
      shown = half_again (known_by old.desk) (known_by old.desk) (known_by new.desk) (known_by new.desk) half.left half.right half.number learns.grows (same_sym (keeps.cells half.left h.left.known)) (same_sym (keeps.cells half.right h.right.known)) h.shown;
    }

half_level : {at : At} {level other : ℕ} {half : Half} → level ≡ other → KnowsHalf at level half → KnowsHalf at other half
half_level {at} {half = half} e h = subst (λ n. KnowsHalf at n half) e h

-- the half of two squares of a level
pub half_of : {at : At} {level : ℕ} {left right : Sq} {half : Half} → left.level ≡ level → IsHalfOf at left right half → KnowsHalf at level half
half_of e is = half_level e is.known

-- it stays that half
pub half_stays : {old new : At} {left right : Sq} {half : Half} → LearnsBlocks old new → IsHalfOf old left right half → IsHalfOf new left right half
half_stays learns is = record { left = is.left; right = is.right; known = half_kept learns is.known }

-- two known halves of a level, as those of a square
pub make_square : {at : At} {level : ℕ} {upper lower : Half} → level < 65 → KnowsHalf at level upper → KnowsHalf at level lower → MakeSquare at upper lower
make_square fits h k = record {
  fits = subst (λ n. n < 65) (sym h.left.at_level) fits;
  upper = half_level (sym h.left.at_level) h;
  lower = half_level (sym h.left.at_level) k;
}

module _ {old : At} {upper lower : Half} (halves : MakeSquare old upper lower) where
  abbrev level : ℕ
  level = upper.left.level

  abbrev rank : ℕ
  rank = square_rank level

  abbrev cells : Sq → Plane
  cells = known_cells (known_by old.desk)

  bottom : KnowsBlock (known_by old.desk) (suc rank) lower.number (paired rank (cells lower.left) (cells lower.right))
  bottom = subst (λ n. KnowsBlock (known_by old.desk) (suc (square_rank n)) lower.number (paired (square_rank n) (cells lower.left) (cells lower.right))) halves.lower.left.at_level halves.lower.shown

  -- they are known as its parts
  pub whole_parts : KnowsParts (known_by old.desk) (pair_of upper.number lower.number)
  whole_parts =
      let fits = halves.fits in let low = halves.upper.left.low in
      knows_parts old.table.now.key (known_by old.desk) (suc rank) upper.number lower.number (paired rank (cells upper.left) (cells upper.right)) (paired rank (cells lower.left) (cells lower.right)) (coherent_here old) (omega arith)
      halves.upper.shown bottom

  -- the square that is made of them
  pub whole_shown : (new : At) {number : ℕ} → IsPair (known_by old.desk) (known_by new.desk) upper.number lower.number number →
      Shows (book_here new) (level + 1) (joined_squares (book_here old) level (squares_of upper lower)) (numbered (level + 1) number)
  whole_shown new {number} is =
      let fits = halves.fits in let low = halves.upper.left.low in
      shows_of (work_store new.expansions new.table.now) new.table.now.key (known_by new.desk) (numbered (level + 1) number) (joined_squares (book_here old) level (squares_of upper lower)) (coherent_here new) (omega arith) (omega arith)
      (quad_shown (known_by old.desk) (known_by new.desk) level upper.number lower.number number (cells upper.left) (cells upper.right) (cells lower.left) (cells lower.right) low is halves.upper.shown bottom)

-- the halves that were read of a square
pub halves_read : {at : At} {level : ℕ} {plane : Plane} {upper lower a b c d : ℕ} {nw ne sw se : Sq} →
    nw ≡ numbered (level - 1) a → ne ≡ numbered (level - 1) b → sw ≡ numbered (level - 1) c → se ≡ numbered (level - 1) d →
    AreQuarters (book_here at) level plane (numbered (level - 1) a ∷ numbered (level - 1) b ∷ numbered (level - 1) c ∷ numbered (level - 1) d ∷ []) →
    IsHalf (known_by at.desk) (known_by at.desk) (numbered (level - 1) a) (numbered (level - 1) b) upper → IsHalf (known_by at.desk) (known_by at.desk) (numbered (level - 1) c) (numbered (level - 1) d) lower →
    AreHalves at level plane (record { left = nw; right = ne; number = upper }) (record { left = sw; right = se; number = lower })
halves_read {at} {level} {plane} {upper} {lower} {a} {b} {c} {d} e f g h are top bottom =
    let read : AreHalves at level plane (record { left = numbered (level - 1) a; right = numbered (level - 1) b; number = upper }) (record { left = numbered (level - 1) c; right = numbered (level - 1) d; number = lower }) = record {
      quarters = are;
      upper = record { left = are.nw.known; right = are.ne.known; shown = top };
      lower = record { left = are.sw.known; right = are.se.known; shown = bottom };
    } in
    subst (λ (halves : Half × Half). AreHalves at level plane halves.0 halves.1) (λ i. (record { left = sym e i; right = sym f i; number = upper }, record { left = sym g i; right = sym h i; number = lower })) read

-- what was joined in a later book, in the cells of an older one
pub joined_earlier : {old mid new : Book} {a b c d sq : Sq} → Keeps old mid → IsKnown old a.level a → IsKnown old a.level b → IsKnown old a.level c → IsKnown old a.level d →
    IsJoined mid new (a ∷ b ∷ c ∷ d ∷ []) sq → IsJoined old new (a ∷ b ∷ c ∷ d ∷ []) sq
joined_earlier {a = a} {b = b} {c = c} {d = d} keeps in_a in_b in_c in_d is = record {
  known = is.known;
  cells = same_trans is.cells (joined_same (2 ^ a.level) _ _ _ _ _ _ _ _ (keeps.cells a in_a.known) (keeps.cells b in_b.known) (keeps.cells c in_c.known) (keeps.cells d in_d.known));
}

-- a square that halves make, as that of the squares that stand in them
pub joined_of : (old new : Book) (upper lower : Half) (sq : Sq) {a b c d : Sq} → upper.left ≡ a → upper.right ≡ b → lower.left ≡ c → lower.right ≡ d → IsJoined old new (squares_of upper lower) sq → IsJoined old new (a ∷ b ∷ c ∷ d ∷ []) sq
joined_of old new upper lower sq e f g h is = subst (λ squares. IsJoined old new squares sq) (λ i. e i ∷ f i ∷ g i ∷ h i ∷ []) is

-- a known half, to one that knew its squares before
pub half_before : {old mid : At} (new : At) {level : ℕ} {half : Half} {left right : Sq} → LearnsBlocks old mid → Grows (known_by mid.desk) (known_by new.desk) → IsKnown (book_here old) level left → IsKnown (book_here old) level right →
    half.left ≡ left → half.right ≡ right → KnowsHalf mid level half → IsHalf (known_by old.desk) (known_by new.desk) left right half.number
half_before {old} {mid} new {level} {half} {left} {right} learns grows in_left in_right e f h =
    let keeps = book_kept learns in
    let is = subst (λ (two : Sq × Sq). IsHalf (known_by mid.desk) (known_by mid.desk) two.0 two.1 half.number) (λ i. (e i, f i)) h.shown in
    half_again (known_by mid.desk) (known_by mid.desk) (known_by new.desk) (known_by old.desk) left right half.number grows (keeps.cells left in_left.known) (keeps.cells right in_right.known) is

same_prop : (n m : ℕ) → IsProp (n ≡ m)
same_prop n m = hlevel props

-- a half shows its two squares
pub half_shown : {at : At} {left right : Sq} {half : Half} → IsHalfOf at left right half → IsHalf (known_by at.desk) (known_by at.desk) left right half.number
half_shown {at} {half = half} is = subst (λ (two : Sq × Sq). IsHalf (known_by at.desk) (known_by at.desk) two.0 two.1 half.number) (λ i. (is.left i, is.right i)) is.known.shown

-- a half has one number, to a desk that learns too
pub same_half : {old new : At} (left right : Sq) {number other : ℕ} → LearnsBlocks old new → IsHalf (known_by old.desk) (known_by old.desk) left right number → IsHalf (known_by old.desk) (known_by new.desk) left right other → number ≡ other
same_half {old} {new} left right {number} {other} learns is also =
    let rank = suc (square_rank left.level) in
    ∥∥₁_elim (coherent_here new) (same_prop number other) (λ t. t.consistent.one_number rank number other _ (knows_grown (known_by old.desk) (known_by new.desk) rank number _ learns.grows is) also)
