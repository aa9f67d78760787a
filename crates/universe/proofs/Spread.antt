-- Which boxes of cells stay in the range: those whose cells all have room on each side. Cells spread
-- by at most one place a generation, so later cells have the room that is left.
use Rattle.std.proofs.Common.{◌≡◌, ◌≢◌, ℕ, ◌+◌, ◌≤◌, ℤ, pos, ◌+ℤ◌, ◌-ℤ◌, ◌≤ℤ◌, ◌<ℤ◌, true, false, ◌||◌, Bool, Option, None, Some, List, [], ◌∷◌, IfSome, fold, cond, refl, sym, ◌∙◌, subst, arith}
use Rattle.std.specs.Int.{int_min, int_max}
use Rattle.std.specs.Prelude.{int_lt}
use Rattle.std.specs.List.{AllByRecursion, list_any}
use Rattle.std.proofs.lemmas.Bool.{false≢true}
use Rattle.std.proofs.lemmas.Int.{ints, by_lt_z}
use Rattle.rule_text.specs.CountRule.{CountRule, IsRule, has}
use Rattle.plane.specs.Bounds.{HasReach, IsWithin, bounds_of, box_with}
use Rattle.plane.specs.Laws.{IsNear}
use Rattle.plane.specs.Limits.{coordinate_limit}
use Rattle.plane.specs.Listing.{IsListing, is_at, plane_of}
use Rattle.plane.specs.Plane.{Plane, after}
use Rattle.plane.specs.Range.{IsBoxInRange, IsCoordinate, StaysWithin, widened}
use Rattle.plane.specs.declared.cell.Bounds.{Bounds}
use Rattle.plane.specs.declared.cell.Cell.{Cell}
use Rattle.plane.proofs.Around.{live_cell}
use Rattle.plane.proofs.Boxes.{box_at, coordinate_between, grown, some_box, within_bounds}
use Rattle.plane.proofs.Elements.{AllByRecursion-weaker}
use Rattle.plane.proofs.Listings.{is_at-own}
use Rattle.plane.proofs.Paddings.{quiet}

-- so many cells on each side of the cell lie in the range
pub record HasRoom (far : ℕ) (cell : Cell) : Type 0 where
  pub left : IsCoordinate (cell.x -ℤ pos far)
  pub right : IsCoordinate (cell.x +ℤ pos far)
  pub above : IsCoordinate (cell.y -ℤ pos far)
  pub below : IsCoordinate (cell.y +ℤ pos far)

-- ---- cells and their box

between : (far : ℕ) (first z last : ℤ) → first ≤ℤ z → z ≤ℤ last → IsCoordinate (first -ℤ pos far) → IsCoordinate (last +ℤ pos far) → IsCoordinate (z -ℤ pos far) × IsCoordinate (z +ℤ pos far)
between far first z last from to low high = (
  coordinate_between (first -ℤ pos far) (z -ℤ pos far) (last +ℤ pos far) low high (omega (arith, ints)) (omega (arith, ints)),
  coordinate_between (first -ℤ pos far) (z +ℤ pos far) (last +ℤ pos far) low high (omega (arith, ints)) (omega (arith, ints)),
)

pub room_in_box : (far : ℕ) (box : Bounds) (cell : Cell) → IsBoxInRange (widened far box) → IsWithin box cell → HasRoom far cell
room_in_box far box cell range within =
    let across = between far box.left cell.x box.right within.left within.right range.left range.right in
    let down = between far box.top cell.y box.bottom within.top within.bottom range.top range.bottom in
    record { left = across.0; right = across.1; above = down.0; below = down.1 }

room_by_box : (far : ℕ) (bounds : Option Bounds) (cells : List Cell) → IfSome bounds (λ box. AllByRecursion (IsWithin box) cells) → IfSome bounds (λ box. IsBoxInRange (widened far box)) → bounds ≢ None →
    AllByRecursion (HasRoom far) cells
room_by_box far None cells within range some = absurd (some refl)
room_by_box far (Some box) cells within range some = AllByRecursion-weaker (IsWithin box) (HasRoom far) (λ cell. room_in_box far box cell range) cells within

-- where the box stays in the range, each cell has room
pub rooms : (far : ℕ) (cells : List Cell) → HasReach far cells → AllByRecursion (HasRoom far) cells
rooms far [] reach = tt
rooms far (cell ∷ cells) reach = room_by_box far (bounds_of (cell ∷ cells)) (cell ∷ cells) (within_bounds (cell ∷ cells)) reach (some_box (box_at cell) cells)

less_of_two : (P : ℤ → Type 0) (a b : ℤ) → P a → P b → P (int_min a b)
less_of_two P a b first second = elim (int_lt b a) as (λ c. P (cond c b a)) [ true ↦ second | false ↦ first ]

more_of_two : (P : ℤ → Type 0) (a b : ℤ) → P a → P b → P (int_max a b)
more_of_two P a b first second = elim (int_lt b a) as (λ c. P (cond c a b)) [ true ↦ first | false ↦ second ]

grown_in_range : (far : ℕ) (box : Bounds) (cell : Cell) → IsBoxInRange (widened far box) → HasRoom far cell → IsBoxInRange (widened far (grown box cell))
grown_in_range far box cell range room = record {
  left = less_of_two (λ z. IsCoordinate (z -ℤ pos far)) box.left cell.x range.left room.left;
  top = less_of_two (λ z. IsCoordinate (z -ℤ pos far)) box.top cell.y range.top room.above;
  right = more_of_two (λ z. IsCoordinate (z +ℤ pos far)) box.right cell.x range.right room.right;
  bottom = more_of_two (λ z. IsCoordinate (z +ℤ pos far)) box.bottom cell.y range.bottom room.below;
}

fold_in_range : (far : ℕ) (box : Bounds) (cells : List Cell) → IsBoxInRange (widened far box) → AllByRecursion (HasRoom far) cells → IfSome (fold box_with (Some box) cells) (λ outer. IsBoxInRange (widened far outer))
fold_in_range far box [] range all = range
fold_in_range far box (cell ∷ cells) range all = fold_in_range far (grown box cell) cells (grown_in_range far box cell range all.0) all.1

-- where each cell has room, the box stays in the range
pub reach_of_rooms : (far : ℕ) (cells : List Cell) → AllByRecursion (HasRoom far) cells → HasReach far cells
reach_of_rooms far [] all = tt
reach_of_rooms far (cell ∷ cells) all =
    fold_in_range far (box_at cell) cells (record { left = all.0.left; top = all.0.above; right = all.0.right; bottom = all.0.below }) all.1

or_left : (b c : Bool) → b ≡ true → (b || c) ≡ true
or_left true c is = refl
or_left false c is = cc

or_right : (b c : Bool) → c ≡ true → (b || c) ≡ true
or_right true c is = refl
or_right false c is = is

-- what holds of each live cell holds of each cell of a list of them
pub each_listed : (P : Cell → Type 0) (cells : List Cell) → ((cell : Cell) → plane_of cells cell.x cell.y ≡ true → P cell) → AllByRecursion P cells
unfolding plane_of
each_listed P [] each = tt
each_listed P (cell ∷ cells) each = (
  each cell (or_left (is_at cell.x cell.y cell) (list_any (is_at cell.x cell.y) cells) (is_at-own cell)),
  each_listed P cells (λ other live. each other (or_right (is_at other.x other.y cell) (list_any (is_at other.x other.y) cells) live)),
)

-- ---- fewer generations

less_far : (less more : ℕ) (z : ℤ) → less ≤ more → IsCoordinate (z -ℤ pos more) → IsCoordinate (z +ℤ pos more) → IsCoordinate (z -ℤ pos less) × IsCoordinate (z +ℤ pos less)
less_far less more z fewer low high = (
  coordinate_between (z -ℤ pos more) (z -ℤ pos less) (z +ℤ pos more) low high (omega (arith, ints)) (omega (arith, ints)),
  coordinate_between (z -ℤ pos more) (z +ℤ pos less) (z +ℤ pos more) low high (omega (arith, ints)) (omega (arith, ints)),
)

less_room : (less more : ℕ) (cell : Cell) → less ≤ more → HasRoom more cell → HasRoom less cell
less_room less more cell fewer room =
    let across = less_far less more cell.x fewer room.left room.right in
    let down = less_far less more cell.y fewer room.above room.below in
    record { left = across.0; right = across.1; above = down.0; below = down.1 }

-- what stays in the range for so many generations does for fewer
pub stays_shorter : (cells : List Cell) (start less more : ℕ) → less ≤ more → StaysWithin (bounds_of cells) start more → StaysWithin (bounds_of cells) start less
stays_shorter cells start less more fewer stays = record {
  last_generation = let last = stays.last_generation in omega (arith, last, fewer);
  coordinates = reach_of_rooms less cells (AllByRecursion-weaker (HasRoom more) (HasRoom less) (λ cell. less_room less more cell fewer) cells (rooms more cells stays.coordinates));
}

-- ---- later generations

-- a live cell of a later generation has a live cell near it
near_live : (rule : CountRule) → has rule.birth 0 ≡ false → (plane : Plane) (n : ℕ) (x y : ℤ) → after rule plane n x y ≡ true → ((u v : ℤ) → IsNear n x u → IsNear n y v → plane u v ≡ true → ⊥) → ⊥
near_live rule none plane n x y live never = false≢true (sym (quiet rule none plane n x y (λ u v near_u near_v.
    elim (plane u v) as (λ b. plane u v ≡ b → b ≡ false) [
      | true ↦ λ there. absurd (never u v near_u near_v there)
      | false ↦ λ _. refl
    ] refl)) ∙ live)

not_below : (a b : ℤ) → (b <ℤ a → ⊥) → a ≤ℤ b
not_below a b never = by_lt_z b a (λ below. absurd (never below)) (λ above. above)

not_above : (a b : ℤ) → (b ≤ℤ a → ⊥) → a <ℤ b
not_above a b never = by_lt_z a b (λ below. below) (λ above. absurd (never above))

-- a coordinate has the room that is left where some near one has room
in_reach : (done more : ℕ) (z : ℤ) → (((w : ℤ) → IsNear done z w → IsCoordinate (w -ℤ pos (done + more)) → IsCoordinate (w +ℤ pos (done + more)) → ⊥) → ⊥) → IsCoordinate (z -ℤ pos more) × IsCoordinate (z +ℤ pos more)
in_reach done more z some =
    let low = not_below (pos 0 -ℤ coordinate_limit) (z -ℤ pos more) (λ out. some (λ w near first last. omega (arith, ints, out, near.before, near.behind, first.low))) in
    let high = not_above (z +ℤ pos more) coordinate_limit (λ out. some (λ w near first last. omega (arith, ints, out, near.before, near.behind, last.high))) in
    (record { low = low; high = omega (arith, ints, low, high) }, record { low = omega (arith, ints, low, high); high = high })

-- so a later live cell has it
room_later : (rule : CountRule) → has rule.birth 0 ≡ false → (plane : Plane) (cells : List Cell) (done more : ℕ) → IsListing cells plane → AllByRecursion (HasRoom (done + more)) cells → (cell : Cell) →
    after rule plane done cell.x cell.y ≡ true → HasRoom more cell
room_later rule none plane cells done more listing all cell live =
    let near = near_live rule none plane done cell.x cell.y live in
    let from = λ (u v : ℤ) (there : plane u v ≡ true). live_cell (HasRoom (done + more)) cells u v all (listing.live u v ∙ there) in
    let across = in_reach done more cell.x (λ never. near (λ u v near_u near_v there.
    let one = from u v there in never one.cell.x (subst (IsNear done cell.x) one.x_is near_u) one.holds.left one.holds.right)) in
    let down = in_reach done more cell.y (λ never. near (λ u v near_u near_v there.
    let one = from u v there in never one.cell.y (subst (IsNear done cell.y) one.y_is near_v) one.holds.above one.holds.below)) in
    record { left = across.0; right = across.1; above = down.0; below = down.1 }

-- what is left of a run that stays in the range stays there, from each of its generations on
pub stays_on : (rule : CountRule) → IsRule rule → (plane : Plane) (cells later : List Cell) (start done more : ℕ) → IsListing cells plane → IsListing later (after rule plane done) →
    StaysWithin (bounds_of cells) start (done + more) → StaysWithin (bounds_of later) (start + done) more
stays_on rule is plane cells later start done more listing listed stays = record {
  last_generation = let last = stays.last_generation in omega (arith, last);
  coordinates = reach_of_rooms more later (each_listed (HasRoom more) later (λ cell live.
      room_later rule is.no_birth_on_zero plane cells done more listing (rooms (done + more) cells stays.coordinates) cell (sym (listed.live cell.x cell.y) ∙ live)));
}
