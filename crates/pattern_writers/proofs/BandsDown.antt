-- The bands of a frame hold all rows of its cells.
use Rattle.std.proofs.Common.{◌≡◌, ◌≢◌, ℕ, ◌+◌, ◌*◌, ◌/◌, ◌<◌, ◌≤◌, ◌^◌, ℤ, pos, ◌+ℤ◌, ◌-ℤ◌, ◌≤ℤ◌, ◌<ℤ◌, true, Option, None, Some, IfSome, List, [], ◌∷◌, map, flat_map, Vec, Global, Ok, Err, IfOk, IsOk, MatchResult, SFits, w64, refl, ap, sym, ◌∙◌, subst, arith}
use Rattle.std.specs.declared.result.Result.{Result}
use Rattle.std.specs.List.{AllByRecursion, AllZip, range_with_len}
use Rattle.std.proofs.lemmas.Int.{ints}
use Rattle.plane.specs.Bounds.{IsWithin, bounds_of}
use Rattle.plane.specs.Centred.{Holds}
use Rattle.plane.specs.Listing.{IsListing, plane_of}
use Rattle.plane.specs.Plane.{Plane}
use Rattle.plane.specs.declared.cell.Bounds.{Bounds}
use Rattle.plane.specs.declared.cell.Cell.{Cell}
use Rattle.plane.proofs.Around.{live_cell}
use Rattle.plane.proofs.Boxes.{Covers, box_at, covers_bounds, some_box, within_bounds}
use Rattle.plane.specs.declared.refusal.Refusal.{Refusal}
use Rattle.viewport.specs.BoundingBox.{HasBounds}
use Rattle.pattern_writers.specs.Frame.{FitsRle, HasRoom, band_row, frame_of, side}
use Rattle.pattern_writers.specs.RleText.{HasFrame, HasRuns}
use Rattle.pattern_writers.specs.RowRuns.{rows_between}
use Rattle.pattern_writers.specs.declared.rle_text.frame.Frame.{Frame}
use Rattle.pattern_writers.specs.declared.rle_text.row_run.RowRun.{RowRun}
use Rattle.pattern_writers.proofs.RowsBetween.{AreBorders, bands_join, by_test, dead_between, found_all, in_between, runs_of_same}
use Rattle.pattern_writers.proofs.RowsDown.{live_in_range}

-- ---- where the bands begin

first_part : (n : ℕ) → n * 0 / 64 ≡ 0
first_part n = omega arith

all_parts : (n : ℕ) → n * 64 / 64 ≡ n
all_parts n = omega arith

more_parts : (a b : ℕ) → a ≤ b → a / 64 ≤ b / 64
more_parts a b less = omega arith

next_part : (n k : ℕ) → n * k ≤ n * (k + 1)
next_part n k = grind arith

pub bands_go_down : (frame : Frame) → AreBorders (band_row frame)
bands_go_down frame = λ band.
    let more = more_parts (frame.height * band) (frame.height * (band + 1)) (next_part frame.height band) in omega (arith, ints, more)

-- ---- the frame's numbers

abbrev pub whole_range : Bounds
whole_range = record { left = pos 0 -ℤ pos (2 ^ 62); top = pos 0 -ℤ pos (2 ^ 62); right = pos (2 ^ 62); bottom = pos (2 ^ 62) }

pub in_whole_range : (plane : Plane) (cells : List Cell) → Holds 63 plane → IsListing cells plane → AllByRecursion (IsWithin whole_range) cells
unfolding plane_of
in_whole_range plane cells is listing =
    found_all (IsWithin whole_range) cells (λ cell found.
    let at = live_in_range plane cell.x cell.y is (sym (listing.live cell.x cell.y) ∙ found) in
    record { left = omega (arith, ints, at.0.low); top = omega (arith, ints, at.1.low); right = omega (arith, ints, at.0.high); bottom = omega (arith, ints, at.1.high) })

row_after : (top bottom : ℤ) → (pos 0 -ℤ pos (2 ^ 62)) ≤ℤ top → bottom ≤ℤ pos (2 ^ 62) → side top bottom < 2 ^ 31 → SFits w64 (top +ℤ pos (side top bottom))
row_after top bottom low high tall = grind (arith, ints, low, high, tall)

room_of : (bounds : Option Bounds) → FitsRle bounds → IfSome bounds (Covers whole_range) → HasRoom (frame_of bounds)
room_of None fits covers = record { height = omega arith; bottom = grind (arith, ints) }
room_of (Some box) fits covers = record {
  height = fits.1;
  bottom = row_after box.top box.bottom covers.top covers.bottom fits.1;
}

pub frame_room : (plane : Plane) (cells : List Cell) → Holds 63 plane → IsListing cells plane → FitsRle (bounds_of cells) → HasRoom (frame_of (bounds_of cells))
frame_room plane cells is listing fits = room_of (bounds_of cells) fits (covers_bounds whole_range cells (in_whole_range plane cells is listing))

pub framed : (plane : Plane) (bounds : Option Bounds) (r : Result Frame Refusal) → HasBounds plane bounds → IfOk r (λ frame. frame ≡ frame_of bounds) → (IsOk r → FitsRle bounds) → IfOk r (HasFrame plane)
framed plane bounds (Ok frame) has is fits = record {
  cells = has.cells;
  listing = has.listing;
  fits = subst FitsRle has.bounds (fits refl);
  frame_is = is ∙ ap frame_of has.bounds;
}
framed plane bounds (Err refusal) has is fits = tt

pub framed_room : (plane : Plane) (r : Result Frame Refusal) → Holds 63 plane → IfOk r (HasFrame plane) → IfOk r HasRoom
framed_room plane (Ok frame) is has = subst HasRoom (sym has.frame_is) (frame_room plane has.cells is has.listing has.fits)
framed_room plane (Err refusal) is has = tt

-- ---- the frame's rows

-- the row is one of the frame's
record IsOfFrame (frame : Frame) (y : ℤ) : Type 0 where
  low : frame.corner.y ≤ℤ y
  high : y <ℤ (frame.corner.y +ℤ pos frame.height)

in_box : (box : Bounds) (y : ℤ) → box.top ≤ℤ y → y ≤ℤ box.bottom → IsOfFrame (frame_of (Some box)) y
in_box box y low high = record { low = low; high = omega (arith, ints, low, high) }

of_bounds : (bounds : Option Bounds) (cells : List Cell) (x y : ℤ) → bounds ≢ None → IfSome bounds (λ box. AllByRecursion (IsWithin box) cells) → plane_of cells x y ≡ true → IsOfFrame (frame_of bounds) y
of_bounds None cells x y some within live = absurd (some refl)
of_bounds (Some box) cells x y some within live =
    let at = live_cell (IsWithin box) cells x y within live in
    in_box box y (omega (arith, ints, at.holds.top, at.y_is)) (omega (arith, ints, at.holds.bottom, at.y_is))

of_cells : (cells : List Cell) (x y : ℤ) → plane_of cells x y ≡ true → IsOfFrame (frame_of (bounds_of cells)) y
unfolding plane_of
of_cells [] x y live = cc
of_cells (cell ∷ cells) x y live = of_bounds (bounds_of (cell ∷ cells)) (cell ∷ cells) x y (some_box (box_at cell) cells) (within_bounds (cell ∷ cells)) live

rows_of_frame : (plane : Plane) (frame : Frame) → HasFrame plane frame → (x y : ℤ) → rows_between (band_row frame 0) (band_row frame (0 + 64)) plane x y ≡ plane x y
rows_of_frame plane frame has x y =
    by_test (λ b. plane x y ≡ b → rows_between (band_row frame 0) (band_row frame 64) plane x y ≡ plane x y) (plane x y)
    (λ live _.
    let at : IsOfFrame frame y = subst (λ f. IsOfFrame f y) (sym has.frame_is) (of_cells has.cells x y (has.listing.live x y ∙ live)) in
    let first = first_part frame.height in
    let last = all_parts frame.height in
    in_between (band_row frame 0) (band_row frame 64) plane x y (omega (arith, ints, at.low, first)) (omega (arith, ints, at.high, last)))
    (λ dead _. dead_between (band_row frame 0) (band_row frame 64) plane x y dead ∙ sym dead)
    refl

-- ---- the bands

zip_ok : {T : Type 0} (E : Type 0) (P : ℕ → T → Type 0) (ns : List ℕ) (ys : List T) → AllZip (λ i (y : Result T E). IfOk y (P i)) ns (map Ok ys) → AllZip P ns ys
zip_ok E P [] [] h = h
zip_ok E P [] (y ∷ ys) h = h
zip_ok E P (n ∷ ns) [] h = h
zip_ok E P (n ∷ ns) (y ∷ ys) h = (h.0, zip_ok E P ns ys h.1)

pub collected : {T E C : Type 0} (P : ℕ → T → Type 0) (items : C → List T) (r : Result C E) (ns : List ℕ) (xs : List (Result T E)) (bad : E → Type 0)
    → AllZip (λ i (y : Result T E). IfOk y (P i)) ns xs
    → MatchResult r (λ c. (ys : List T) × (xs ≡ map Ok ys) × (items c ≡ ys)) bad
    → IfOk r (λ c. AllZip P ns (items c))
collected P items (Ok c) ns xs bad each h = subst (AllZip P ns) (sym h.2) (zip_ok _ P ns h.0 (subst (λ l. AllZip (λ i y. IfOk y (P i)) ns l) h.1 each))
collected P items (Err e) ns xs bad each h = tt

pub all_bands : (plane : Plane) (frame : Frame) (bands : List (Vec RowRun Global)) → HasFrame plane frame →
    AllZip (λ band (runs : Vec RowRun Global). HasRuns (rows_between (band_row frame band) (band_row frame (band + 1)) plane) runs.items) (range_with_len 0 64) bands →
    HasRuns plane (flat_map (λ (runs : Vec RowRun Global). runs.items) bands)
all_bands plane frame bands has each =
    runs_of_same (rows_between (band_row frame 0) (band_row frame (0 + 64)) plane) plane _ (bands_join plane (band_row frame) 0 64 bands (bands_go_down frame) each) (rows_of_frame plane frame has)
