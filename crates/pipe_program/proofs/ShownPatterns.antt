-- What an open pattern shows.
use Rattle.std.proofs.Common.{◌≡◌, ◌⊎◌, ◌↔◌, ℕ, ℤ, pos, Bool, true, IsTrue, Option, None, Some, IfNone, IfSome, Ok, List, [], ◌∷◌, refl, sym, ◌∙◌, subst, inl, inr}
use Rattle.std.specs.List.{list_any}
use Rattle.std.proofs.lemmas.Bool.{false≢true}
use Rattle.plane.specs.Laws.{moved}
use Rattle.plane.specs.Listing.{IsListing, is_at, plane_of}
use Rattle.plane.specs.Plane.{Plane}
use Rattle.plane.specs.Square.{IsSame, empty}
use Rattle.plane.specs.declared.cell.Bounds.{Bounds}
use Rattle.plane.specs.declared.cell.Cell.{Cell}
use Rattle.plane.specs.declared.refusal.Refusal.TheVariants.{BoxTooLarge, NoMemory, WriteFailed}
use Rattle.plane.proofs.Listings.{is_at-own}
use Rattle.plane.proofs.Same.{plane_equal, same_trans}
use Rattle.pattern_picture.specs.Scale.{IsShown, IsShownSide}
use Rattle.png_writer.specs.Picture.{IsPngFile, Picture}
use Rattle.view_program.specs.Drawn.{IsPictureOf}
use Rattle.viewport.proofs.BoxesOfPlanes.{or_left}
use Rattle.engine.specs.Formats.{Exceeds, FileFormat, format_of, rle}
use Rattle.engine.specs.Judgement.{Start, Judges}
use Rattle.engine.specs.Sessions.{IsOpenedFor, IsSameSession, cells_of, is_open, opening}
use Rattle.engine.specs.States.{is_there, state_cells}
use Rattle.engine.specs.declared.options.Format.{Format}
use Rattle.engine.specs.declared.session.Session.{Session}
use Rattle.engine.specs.declared.state.State.{State}
use Rattle.engine.specs.declared.state.State.TheVariants.{AtRest, AtWork, Lost}
use Rattle.rule_text.specs.CountRule.{CountRule}
use Rattle.pipe_requests.specs.declared.request.TextFormat.{TextFormat}
use Rattle.pipe_requests.specs.declared.request.TextFormat.TheVariants as text
use Rattle.pipe_program.specs.Answers.{IsDisplacement, IsPictureFile, file_format}

-- ---- rectangles

-- a rectangle can be shown where both its sides can
pub shown_by_sides : (shown : Bounds) (rows : Bool) → IsShownSide shown.left shown.right → (IsTrue rows ↔ IsShownSide shown.top shown.bottom) → IsTrue rows ↔ IsShown shown
shown_by_sides shown rows across down = (λ yes. record { columns = across; rows = down.0 yes }, λ whole. down.1 whole.rows)

-- the same of numbers that are equal
pub sides_as : {first last low high : ℤ} (shown : Bool) → first ≡ low → last ≡ high → (IsTrue shown ↔ IsShownSide first last) → IsTrue shown ↔ IsShownSide low high
sides_as {first} {last} {low} {high} shown is_low is_high are =
    subst (λ (z : ℤ). IsTrue shown ↔ IsShownSide low z) is_high (subst (λ (z : ℤ). IsTrue shown ↔ IsShownSide z last) is_low are)

-- the picture of the cells, as a file
pub picture_of_cells : (plane cells : Plane) (shown : Bounds) (size : ℕ) (image : Picture) (bytes : List ℕ) → plane ≡ cells → IsPictureOf plane shown size image → IsPngFile image.width image.rows bytes →
    IsPictureFile cells shown size bytes
picture_of_cells plane cells shown size image bytes same drawn file = (image, subst (λ (p : Plane). IsPictureOf p shown size image) same drawn, file)

-- ---- files that can't hold the cells

nothing_listed : (cells : List Cell) → IsListing cells empty → cells ≡ []
unfolding plane_of
nothing_listed [] listing = refl
nothing_listed (cell ∷ cells) listing =
    absurd (false≢true (sym (listing.live cell.x cell.y) ∙ or_left (is_at cell.x cell.y cell) (list_any (is_at cell.x cell.y) cells) (is_at-own cell)))

fits_nothing : (cells : List Cell) → IsListing cells empty → rle.CanHold cells
fits_nothing cells listing = subst rle.CanHold (sym (nothing_listed cells listing)) tt

-- a format can hold no cells at all, so cells that it can't hold are there
there_if_exceeding : (format : TextFormat) (state : State) → Exceeds (file_format format) (state_cells state) → is_there state ≡ true
there_if_exceeding format (AtWork universe) exceeds = refl
there_if_exceeding format (AtRest pattern) exceeds = refl
there_if_exceeding text.Rle Lost exceeds = absurd (exceeds.unfit (fits_nothing exceeds.cells exceeds.listing))
there_if_exceeding text.Macrocell Lost exceeds = absurd (exceeds.unfit tt)

too_large_not_full : BoxTooLarge ≡ NoMemory → ⊥
too_large_not_full is = cc

too_large_not_failed : BoxTooLarge ≡ WriteFailed → ⊥
too_large_not_failed is = cc

pub exceeding : {Untouched Full Failed Begins : Type 0} (format : TextFormat) (written : Option Format) (old new : Session) → ((P : FileFormat → Type 0) → P (format_of written) → P (file_format format)) → IsSameSession old new →
    ((BoxTooLarge ≡ BoxTooLarge) × Exceeds (format_of written) (cells_of new) × Untouched) ⊎ ((BoxTooLarge ≡ NoMemory) × Full) ⊎ (((BoxTooLarge ≡ WriteFailed) × Failed) × Begins) →
    (is_open old ≡ true) × Exceeds (file_format format) (cells_of old)
exceeding format written old new read same (inl (is, exceeds, untouched)) =
    let here = subst (λ (p : Plane). Exceeds (file_format format) p) (plane_equal (cells_of new) (cells_of old) same.cells) (read (λ f. Exceeds f (cells_of new)) exceeds) in
    (there_if_exceeding format old.state here, here)
exceeding format written old new read same (inr (inl (memory, untouched))) = absurd (too_large_not_full memory)
exceeding format written old new read same (inr (inr (failed, begins))) = absurd (too_large_not_failed failed.0)

-- ---- cells of another file

displacement_as : (plane first live : Plane) (found : Option (ℤ × ℤ)) → first ≡ live → IfSome found (λ by. IsSame plane (moved by.0 by.1 first)) → IfSome found (λ by. IsSame first empty → (by.0 ≡ pos 0) × (by.1 ≡ pos 0)) →
    IfNone found ((right down : ℤ) → IsSame plane (moved right down first) → ⊥) → IsDisplacement plane live found
displacement_as plane first live None same some still none = subst (λ (p : Plane). (right down : ℤ) → IsSame plane (moved right down p) → ⊥) same none
displacement_as plane first live (Some (right, down)) same some still none = (
  subst (λ (p : Plane). IsSame plane (moved right down p)) same some,
  λ nothing. nowhere (still (subst (λ (p : Plane). IsSame p empty) (sym same) nothing)),
) where
  nowhere : (right ≡ pos 0) × (down ≡ pos 0) → ◌≡◌ {A = ℤ × ℤ} (right, down) (pos 0, pos 0)
  nowhere (across, below) = cc

pub displaced : (file : List ℕ) (rule : CountRule) (pairs : ℕ) (plane first : Plane) (other : Session) (found : Option (ℤ × ℤ)) → IsOpenedFor file (opening (Some rule) pairs) other → IsSame first (cells_of other) →
    IfSome found (λ by. IsSame plane (moved by.0 by.1 first)) → IfSome found (λ by. IsSame first empty → (by.0 ≡ pos 0) × (by.1 ≡ pos 0)) →
    IfNone found ((right down : ℤ) → IsSame plane (moved right down first) → ⊥) →
    (start : Start) × Judges file (opening (Some rule) pairs) (Ok start) × IsDisplacement plane start.meaning.live found
displaced file rule pairs plane first other found opened same some still none =
    let accepted = opened.accepted in
    let start : Start = record { meaning = opened.meaning; rule = other.rule; cells = accepted.cells } in
    (start, accepted.accepted, displacement_as plane first opened.meaning.live found (plane_equal first opened.meaning.live (same_trans same accepted.same)) some still none)
