-- The nine overlapping squares, put together of halves.
use Rattle.std.proofs.Common.{ℕ, ◌-◌, ◌<◌, ◌≤◌, sym, subst, arith}
use Rattle.plane.specs.Plane.{Plane}
use Rattle.plane.proofs.Same.{plane_equal}
use Rattle.squares.specs.declared.sq.Sq.{Sq}
use Rattle.squares.specs.Book.{Book, IsKnown, Keeps, Shows}
use Rattle.squares.specs.Parts.{ArePartsOfParts}
use Rattle.squares.proofs.NineSquares.{quarters_kept}
use Rattle.node_table.specs.declared.at.At.{At}
use Rattle.node_table.specs.declared.halves.Half.{Half}
use Rattle.node_table.specs.declared.subsquares.HalvesOfQuarters.{HalvesOfQuarters}
use Rattle.node_table.specs.DesksAtWork.{LearnsBlocks, book_here}
use Rattle.node_table.specs.Halves.{AreBeside, AreHalves, AreHalvesOfQuarters, KnowsHalf, MakeSquare, squares_of}
use Rattle.node_table.proofs.TwoHalves.{beside, half_kept, make_square}
use Rattle.node_table.proofs.Working.{book_kept, learns_trans}

-- a known square, at its own level
pub own_level : {book : Book} {level : ℕ} {sq : Sq} → IsKnown book level sq → IsKnown book sq.level sq
own_level {book} {sq = sq} known = subst (λ n. IsKnown book n sq) (sym known.at_level) known

-- halves of a square that was shown before they were read
halves_again : (before : At) {now new : At} {level : ℕ} {plane : Plane} {upper lower : Half} {sq : Sq} → Shows (book_here before) level plane sq → Keeps (book_here before) (book_here new) →
    AreHalves now level ((book_here before).cells sq) upper lower → LearnsBlocks now new → AreHalves new level ((book_here new).cells sq) upper lower
halves_again before {new = new} {level} {upper = upper} {lower = lower} {sq = sq} shown keeps h learns =
    subst (λ p. AreHalves new level p upper lower) (sym (plane_equal _ _ (keeps.cells sq shown.known.known)))
    (record { quarters = quarters_kept (book_kept learns) h.quarters; upper = half_kept learns h.upper; lower = half_kept learns h.lower })

pub halves_later : {before now new : At} {level : ℕ} {plane : Plane} {upper lower : Half} {sq : Sq} → Shows (book_here before) level plane sq → LearnsBlocks before now →
    AreHalves now sq.level ((book_here before).cells sq) upper lower → LearnsBlocks now new → AreHalves new level ((book_here new).cells sq) upper lower
halves_later {before} {now} {upper = upper} {lower = lower} {sq = sq} shown learns h later =
    halves_again before shown (book_kept (learns_trans learns later)) (subst (λ n. AreHalves now n ((book_here before).cells sq) upper lower) shown.known.at_level h) later

halves_kept : {old new : At} {level : ℕ} {plane : Plane} {upper lower : Half} {sq : Sq} → LearnsBlocks old new → Shows (book_here old) level plane sq →
    AreHalves old level ((book_here old).cells sq) upper lower → AreHalves new level ((book_here new).cells sq) upper lower
halves_kept {old = old} learns shown h = halves_again old shown (book_kept learns) h learns

pub parts_kept : {old new : At} {level : ℕ} {plane : Plane} {parts : HalvesOfQuarters} → LearnsBlocks old new → AreHalvesOfQuarters old level plane parts → AreHalvesOfQuarters new level plane parts
parts_kept learns h = record {
  quarters = quarters_kept (book_kept learns) h.quarters;
  nw = halves_kept learns h.quarters.nw h.nw;
  ne = halves_kept learns h.quarters.ne h.ne;
  sw = halves_kept learns h.quarters.sw h.sw;
  se = halves_kept learns h.quarters.se h.se;
}

-- only the quarters of the quarters
pub are_parts : {at : At} {level : ℕ} {plane : Plane} {parts : HalvesOfQuarters} → AreHalvesOfQuarters at level plane parts →
    ArePartsOfParts (book_here at) level plane (record { whole = parts.quarters; nw = squares_of parts.nw.0 parts.nw.1; ne = squares_of parts.ne.0 parts.ne.1; sw = squares_of parts.sw.0 parts.sw.1; se = squares_of parts.se.0 parts.se.1 })
are_parts h = record { whole = h.quarters; nw = h.nw.quarters; ne = h.ne.quarters; sw = h.sw.quarters; se = h.se.quarters }

-- a quarter is known at its own level, which is above 3
pub quarter_known : {book : Book} (level : ℕ) {sq : Sq} → IsKnown book (level - 1) sq → IsKnown book sq.level sq
quarter_known {book} level {sq} known = subst (λ n. IsKnown book n sq) (sym known.at_level) known

pub quarter_above : {book : Book} {level : ℕ} {sq : Sq} → 4 < level → IsKnown book (level - 1) sq → 3 < sq.level
quarter_above above known = let same = known.at_level in omega arith

module _ {at : At} {level : ℕ} {plane : Plane} {parts : HalvesOfQuarters} (above : 4 < level) (high : level ≤ 65) (r : AreHalvesOfQuarters at level plane parts) where
  fits : level - 1 - 1 < 65
  fits = omega arith

  -- the two squares of a half of the middle column
  pub first_beside : AreBeside (book_here at) parts.nw.0.right parts.ne.0.left
  first_beside = beside fits r.nw.quarters.ne.known r.ne.quarters.nw.known

  pub second_beside : AreBeside (book_here at) parts.nw.1.right parts.ne.1.left
  second_beside = beside fits r.nw.quarters.se.known r.ne.quarters.sw.known

  pub third_beside : AreBeside (book_here at) parts.sw.0.right parts.se.0.left
  third_beside = beside fits r.sw.quarters.ne.known r.se.quarters.nw.known

  pub fourth_beside : AreBeside (book_here at) parts.sw.1.right parts.se.1.left
  fourth_beside = beside fits r.sw.quarters.se.known r.se.quarters.sw.known

  -- the halves of the squares beside the middle one
  pub left_halves : MakeSquare at parts.nw.1 parts.sw.0
  left_halves = make_square fits r.nw.lower r.sw.upper

  pub right_halves : MakeSquare at parts.ne.1 parts.se.0
  right_halves = make_square fits r.ne.lower r.se.upper

  -- and of those in the column
  pub column_halves : {upper lower : Half} → KnowsHalf at (level - 1 - 1) upper → KnowsHalf at (level - 1 - 1) lower → MakeSquare at upper lower
  column_halves = make_square fits
