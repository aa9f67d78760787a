-- Where one of the nine overlapping squares has no room.
use Rattle.std.proofs.Common.{ℕ, ◌<◌, ◌≤◌, List, [], ◌∷◌, arith}
use Rattle.plane.specs.Plane.{Plane}
use Rattle.squares.specs.declared.sq.Sq.{Sq}
use Rattle.squares.specs.Book.{AreQuarters, Shows}
use Rattle.squares.proofs.NineSquares.{make_upper, make_left, make_middle, make_right, make_lower}
use Rattle.table_core.specs.declared.shape.Kind.TheVariants.{Pair}
use Rattle.table_core.specs.Layout.{pair_of}
use Rattle.node_table.specs.declared.at.At.{At}
use Rattle.node_table.specs.declared.halves.Half.{Half}
use Rattle.node_table.specs.declared.subsquares.HalvesOfQuarters.{HalvesOfQuarters}
use Rattle.node_table.specs.Desks.{book_at}
use Rattle.node_table.specs.DesksAtWork.{book_here}
use Rattle.node_table.specs.Halves.{AreHalvesOfQuarters, IsHalfOf}
use Rattle.node_table.specs.Refusals.{HasNoRoom, HasNoRoomForQuad, HasNoRoomForSubsquare, word_of}
use Rattle.node_table.proofs.NineByHalves.{are_parts}
use Rattle.node_table.proofs.NineQuarters.{quarters_made}
use Rattle.node_table.proofs.Refusing.{no_upper_half, no_lower_half, no_whole}
use Rattle.node_table.proofs.TwoHalves.{half_shown}
use Rattle.node_table.proofs.Working.{book_is}

-- what a desk at work knows of a square is what the desk knows of it
shown_at_table : (at : At) {level : ℕ} {plane : Plane} {sq : Sq} → Shows (book_here at) level plane sq → Shows (book_at at.table.now at.desk) level plane sq
shown_at_table at s = record { known = record { known = s.known.known; at_level = s.known.at_level; low = s.known.low; high = s.known.high }; cells = s.cells }

at_table : (at : At) {level : ℕ} {plane : Plane} {quarters : List Sq} → AreQuarters (book_here at) level plane quarters → AreQuarters (book_at at.table.now at.desk) level plane quarters
at_table at h = record { nw = shown_at_table at h.nw; ne = shown_at_table at h.ne; sw = shown_at_table at h.sw; se = shown_at_table at h.se }

module _ {at : At} {level : ℕ} {plane : Plane} {parts : HalvesOfQuarters} (above : 4 < level) (high : level ≤ 65) (r : AreHalvesOfQuarters at level plane parts) where
  -- the five squares, by their quarters
  no_upper_square : HasNoRoomForQuad at.table.now at.desk at.desk (parts.nw.0.right ∷ parts.ne.0.left ∷ parts.nw.1.right ∷ parts.ne.1.left ∷ []) → HasNoRoomForSubsquare at.table.now at.desk level plane
  no_upper_square lack = record { row = 0; column = 1; above = omega arith; left = omega arith; quarters = _; known = at_table at (quarters_made (book_is at) (make_upper above high (are_parts r))); room = lack }

  no_left_square : HasNoRoomForQuad at.table.now at.desk at.desk (parts.nw.1.left ∷ parts.nw.1.right ∷ parts.sw.0.left ∷ parts.sw.0.right ∷ []) → HasNoRoomForSubsquare at.table.now at.desk level plane
  no_left_square lack = record { row = 1; column = 0; above = omega arith; left = omega arith; quarters = _; known = at_table at (quarters_made (book_is at) (make_left above high (are_parts r))); room = lack }

  no_middle_square : HasNoRoomForQuad at.table.now at.desk at.desk (parts.nw.1.right ∷ parts.ne.1.left ∷ parts.sw.0.right ∷ parts.se.0.left ∷ []) → HasNoRoomForSubsquare at.table.now at.desk level plane
  no_middle_square lack = record { row = 1; column = 1; above = omega arith; left = omega arith; quarters = _; known = at_table at (quarters_made (book_is at) (make_middle above high (are_parts r))); room = lack }

  no_right_square : HasNoRoomForQuad at.table.now at.desk at.desk (parts.ne.1.left ∷ parts.ne.1.right ∷ parts.se.0.left ∷ parts.se.0.right ∷ []) → HasNoRoomForSubsquare at.table.now at.desk level plane
  no_right_square lack = record { row = 1; column = 2; above = omega arith; left = omega arith; quarters = _; known = at_table at (quarters_made (book_is at) (make_right above high (are_parts r))); room = lack }

  no_lower_square : HasNoRoomForQuad at.table.now at.desk at.desk (parts.sw.0.right ∷ parts.se.0.left ∷ parts.sw.1.right ∷ parts.se.1.left ∷ []) → HasNoRoomForSubsquare at.table.now at.desk level plane
  no_lower_square lack = record { row = 2; column = 1; above = omega arith; left = omega arith; quarters = _; known = at_table at (quarters_made (book_is at) (make_lower above high (are_parts r))); room = lack }

  -- a half of the middle column
  pub no_first : HasNoRoom at.table.now at.desk Pair (word_of parts.nw.0.right parts.ne.0.left) → HasNoRoomForSubsquare at.table.now at.desk level plane
  no_first room = no_upper_square (no_upper_half at.table.now at.desk at.desk _ room)

  pub no_second : HasNoRoom at.table.now at.desk Pair (word_of parts.nw.1.right parts.ne.1.left) → HasNoRoomForSubsquare at.table.now at.desk level plane
  no_second room = no_upper_square (no_lower_half at.table.now at.desk at.desk _ room)

  pub no_third : HasNoRoom at.table.now at.desk Pair (word_of parts.sw.0.right parts.se.0.left) → HasNoRoomForSubsquare at.table.now at.desk level plane
  no_third room = no_lower_square (no_upper_half at.table.now at.desk at.desk _ room)

  pub no_fourth : HasNoRoom at.table.now at.desk Pair (word_of parts.sw.1.right parts.se.1.left) → HasNoRoomForSubsquare at.table.now at.desk level plane
  no_fourth room = no_lower_square (no_lower_half at.table.now at.desk at.desk _ room)

  -- two halves
  pub no_upper : {first second : Half} → IsHalfOf at parts.nw.0.right parts.ne.0.left first → IsHalfOf at parts.nw.1.right parts.ne.1.left second →
      HasNoRoom at.table.now at.desk Pair (pair_of first.number second.number) → HasNoRoomForSubsquare at.table.now at.desk level plane
  no_upper {first} {second} is also room = no_upper_square (no_whole at.table.now at.desk at.desk _ first.number second.number (half_shown is) (half_shown also) room)

  pub no_left : HasNoRoom at.table.now at.desk Pair (pair_of parts.nw.1.number parts.sw.0.number) → HasNoRoomForSubsquare at.table.now at.desk level plane
  no_left room = no_left_square (no_whole at.table.now at.desk at.desk _ parts.nw.1.number parts.sw.0.number r.nw.lower.shown r.sw.upper.shown room)

  pub no_middle : {second third : Half} → IsHalfOf at parts.nw.1.right parts.ne.1.left second → IsHalfOf at parts.sw.0.right parts.se.0.left third →
      HasNoRoom at.table.now at.desk Pair (pair_of second.number third.number) → HasNoRoomForSubsquare at.table.now at.desk level plane
  no_middle {second} {third} is also room = no_middle_square (no_whole at.table.now at.desk at.desk _ second.number third.number (half_shown is) (half_shown also) room)

  pub no_right : HasNoRoom at.table.now at.desk Pair (pair_of parts.ne.1.number parts.se.0.number) → HasNoRoomForSubsquare at.table.now at.desk level plane
  no_right room = no_right_square (no_whole at.table.now at.desk at.desk _ parts.ne.1.number parts.se.0.number r.ne.lower.shown r.se.upper.shown room)

  pub no_lower : {third fourth : Half} → IsHalfOf at parts.sw.0.right parts.se.0.left third → IsHalfOf at parts.sw.1.right parts.se.1.left fourth →
      HasNoRoom at.table.now at.desk Pair (pair_of third.number fourth.number) → HasNoRoomForSubsquare at.table.now at.desk level plane
  no_lower {third} {fourth} is also room = no_lower_square (no_whole at.table.now at.desk at.desk _ third.number fourth.number (half_shown is) (half_shown also) room)
