-- Runs that stay in the range, by the square or by the box of the cells, and what follows of them.
use Rattle.std.proofs.Common.{◌≡◌, ℕ, ◌+◌, ◌-◌, ◌^◌, ◌<◌, ◌≤◌, ℤ, pos, ◌+ℤ◌, ◌-ℤ◌, ◌≤ℤ◌, Bool, true, false, ◌&&◌, Some, List, refl, sym, ◌∙◌, ap, arith}
use Rattle.std.proofs.lemmas.Int.{ints}
use Rattle.rule_text.specs.CountRule.{CountRule, IsRule}
use Rattle.plane.specs.Centred.{Holds, is_in_root}
use Rattle.plane.specs.Listing.{IsListing}
use Rattle.plane.specs.Plane.{Plane, after}
use Rattle.plane.specs.Range.{StaysWithin}
use Rattle.plane.specs.Square.{IsSame, empty, spans}
use Rattle.plane.specs.Window.{cells_in}
use Rattle.plane.specs.declared.cell.Bounds.{Bounds}
use Rattle.plane.specs.declared.cell.Cell.{Cell}
use Rattle.plane.proofs.Paddings.{square_held, twice_half}
use Rattle.plane.proofs.Windows.{listing_in}
use Rattle.node_table.specs.Desks.{store_of}
use Rattle.universe.specs.Cells.{live_cells}
use Rattle.universe.specs.StaysWithinRoot.{StaysWithinRoot}
use Rattle.universe.specs.Ranges.{Encloses, KeepsToRange}
use Rattle.universe.specs.Tables.{known_at}
use Rattle.universe.specs.declared.universe.Universe.{Universe}
use Rattle.universe.proofs.StaysWithinRoot.{held, short_run}
use Rattle.universe.proofs.Spread.{each_listed, reach_of_rooms, room_in_box, stays_on}

-- a plane that a square around (0,0) holds has a listing
pub held_listing : (level : ℕ) (plane : Plane) → Holds level plane → (cells : List Cell) × IsListing cells plane
held_listing level plane holds =
    let half = 2 ^ (level - 1) in
    let first : ℤ = pos 0 -ℤ pos half in
    let far : (z : ℤ) → (z -ℤ first) ≡ (z +ℤ pos half) = λ z. omega (arith, ints) in (
      cells_in first first (2 ^ level) (2 ^ level) plane,
      listing_in first first (2 ^ level) (2 ^ level) plane
          (record { dead = λ x y outside. holds.dead x y (ap (λ z. spans (2 ^ level) z && spans (2 ^ level) (y +ℤ pos half)) (sym (far x)) ∙ ap (λ z. spans (2 ^ level) (x -ℤ first) && spans (2 ^ level) z) (sym (far y)) ∙ outside) }),
    )

-- the square of a universe holds its cells
pub held_by_root : (universe : Universe) → Holds universe.root.level (live_cells universe)
held_by_root universe =
    let here = universe.here in
    let laws = (here.desk.sound here.table.key here.of_table.same_key).book (store_of here.table) in
    square_held universe.root.level ((known_at here).cells universe.root) (laws.square universe.root universe.known.known)

-- ---- the box of a square

both_true : (a b : Bool) → (a && b) ≡ true → (a ≡ true) × (b ≡ true)
both_true true b is = (refl, is)
both_true false b is = cc

inside : (plane : Plane) (x y : ℤ) (b : Bool) → (b ≡ false → plane x y ≡ false) → plane x y ≡ true → b ≡ true
inside plane x y true dead live = refl
inside plane x y false dead live = let twice = sym live ∙ dead refl in cc

-- a square around (0,0) that holds the cells has them between its sides
pub square_encloses : (level : ℕ) (plane : Plane) (box : Bounds) → 1 ≤ level → Holds level plane →
    box.left ≡ (pos 0 -ℤ pos (2 ^ (level - 1))) → box.top ≡ (pos 0 -ℤ pos (2 ^ (level - 1))) → box.right ≡ (pos (2 ^ (level - 1)) -ℤ pos 1) → box.bottom ≡ (pos (2 ^ (level - 1)) -ℤ pos 1) → Encloses box plane
square_encloses level plane box some holds left top right bottom = λ cell live.
    let parts = both_true _ _ (inside plane cell.x cell.y (is_in_root level cell.x cell.y) (holds.dead cell.x cell.y) live) in
    let whole = twice_half level some in
    let across = between (2 ^ (level - 1)) (2 ^ level) cell.x whole parts.0 in
    let down = between (2 ^ (level - 1)) (2 ^ level) cell.y whole parts.1 in
    record {
      left = omega (arith, ints, left, across.0);
      top = omega (arith, ints, top, down.0);
      right = omega (arith, ints, right, across.1);
      bottom = omega (arith, ints, bottom, down.1);
    }
  where
    between : (half side : ℕ) (z : ℤ) → side ≡ half + half → spans side (z +ℤ pos half) ≡ true → ((pos 0 -ℤ pos half) ≤ℤ z) × (z ≤ℤ (pos half -ℤ pos 1))
    between half side z is there = (grind (arith, ints), grind (arith, ints))

-- ---- the judgement

-- cells in a box whose run stays in the range stay there
pub keeps_in_box : (level start generations : ℕ) (plane : Plane) (box : Bounds) → Holds level plane → Encloses box plane → StaysWithin (Some box) start generations → KeepsToRange plane start generations
keeps_in_box level start generations plane box holds encloses stays =
    let listed = held_listing level plane holds in
    record {
      cells = listed.0;
      listing = listed.1;
      stays = record {
        last_generation = stays.last_generation;
        coordinates = reach_of_rooms generations listed.0 (each_listed _ listed.0 (λ cell live.
            room_in_box generations box cell stays.coordinates (encloses cell (sym (listed.1.live cell.x cell.y) ∙ live))));
      };
    }

-- ---- runs that stay in the range

-- each of their generations lies in the range
pub keeps_held : (rule : CountRule) → IsRule rule → (plane : Plane) (start generations : ℕ) → KeepsToRange plane start generations → StaysWithinRoot rule plane generations
keeps_held rule is plane start generations keeps = λ n less. held rule is.no_birth_on_zero keeps.cells plane generations n keeps.listing keeps.stays.coordinates less

-- they are short, unless nothing is live
pub keeps_short : (plane : Plane) (start generations : ℕ) → KeepsToRange plane start generations → (IsSame plane empty → ⊥) → generations < 2 ^ 63
keeps_short plane start generations keeps some = short_run keeps.cells plane generations keeps.listing keeps.stays.coordinates some

-- the same cells stay there
pub keeps_same : (plane other : Plane) (start generations : ℕ) → IsSame plane other → KeepsToRange plane start generations → KeepsToRange other start generations
keeps_same plane other start generations same keeps = record {
  cells = keeps.cells;
  listing = record { rising = keeps.listing.rising; live = λ x y. keeps.listing.live x y ∙ same.same x y };
  stays = keeps.stays;
}

-- what is left of them stays there
pub keeps_on : (rule : CountRule) → IsRule rule → (plane : Plane) (start done more : ℕ) → KeepsToRange plane start (done + more) → KeepsToRange (after rule plane done) (start + done) more
keeps_on rule is plane start done more keeps =
    let within : done ≤ done + more = omega arith in
    let later = held_listing 63 (after rule plane done) (keeps_held rule is plane start (done + more) keeps done within) in
    record { cells = later.0; listing = later.1; stays = stays_on rule is plane keeps.cells later.0 start done more keeps.listing later.1 keeps.stays }
