-- What is replied to a look at the pattern that a session has open.
use Rattle.std.proofs.Common.{◌≡◌, ℕ, ℤ, Bool, true, false, None, Some, Ok, Err, List, Vec, Global, ◌⊎◌, refl, sym, ◌∙◌, ap, subst, inl, inr}
use Rattle.plane.specs.Fault.{placeless}
use Rattle.plane.specs.Plane.{Plane}
use Rattle.plane.specs.Square.{IsSame, empty}
use Rattle.plane.specs.Window.{IsWindow, Rectangle}
use Rattle.plane.specs.declared.cell.Bounds.{Bounds}
use Rattle.plane.specs.declared.refusal.Refusal.{Refusal}
use Rattle.plane.specs.declared.refusal.Refusal.TheVariants.{BoxTooLarge, NoMemory, WindowTooLarge}
use Rattle.pattern_picture.specs.Scale.{IsShown}
use Rattle.engine.specs.Formats.{Exceeds}
use Rattle.engine.specs.Report.{window_text}
use Rattle.engine.specs.Sessions.{IsSameSession, cells_of, is_open}
use Rattle.engine.specs.declared.session.Session.{Session}
use Rattle.pipe_requests.specs.declared.request.Request.{Request}
use Rattle.pipe_requests.specs.declared.request.Request.TheVariants as request
use Rattle.pipe_requests.specs.declared.request.TextFormat.{TextFormat}
use Rattle.pipe_program.specs.Answers.{AnswersOpened, IsFileOf, IsPictureFile, Looks, RepliesRefused, ShowsCells, file_format}
use Rattle.pipe_program.specs.Replies.{Reply}
use Rattle.pipe_program.specs.States.{AreSameCells, IsSameOpened, cells_if, opened_of}
use Rattle.pipe_program.specs.declared.answering.Answer.TheVariants as answer
use Rattle.pipe_program.specs.declared.answering.Failure.TheVariants as failure

same_cells : (before after : Bool) (plane other : Plane) → after ≡ before → IsSame other plane → AreSameCells (cells_if after other) (cells_if before plane)
same_cells true after plane other is same = subst (λ (b : Bool). AreSameCells (cells_if b other) (Some plane)) (sym is) same
same_cells false after plane other is same = subst (λ (b : Bool). AreSameCells (cells_if b other) None) (sym is) tt

pub same_opened : (old new : Session) → IsSameSession old new → IsSameOpened (opened_of old) (opened_of new)
same_opened old new same = record {
  rule = same.pattern.rule;
  generation = same.generation;
  comments = same.pattern.comments;
  cells = same_cells (is_open old) (is_open new) (cells_of old) (cells_of new) same.pattern.opened same.cells;
}

-- the request is one for the cells
abbrev pub AsksForCells : Request → Type 0
AsksForCells request.Population = Unit {0}
AsksForCells request.Bounds = Unit {0}
AsksForCells request.Runs = Unit {0}
AsksForCells (request.Window x y width height) = Unit {0}
AsksForCells (request.Write format) = Unit {0}
AsksForCells (request.Picture left top right bottom size) = Unit {0}
AsksForCells other = ⊥

module _ (pairs : ℕ) (block : List ℕ) (old new : Session) (same : IsSameSession old new) where
  abbrev Told : Request → Reply → Type 0
  Told asked reply = AnswersOpened pairs (opened_of old) asked block reply (Some (opened_of new))

  told : (asked : Request) (reply : Reply) → AsksForCells asked → Looks pairs (opened_of old) asked block reply (opened_of new) → Told asked reply
  told request.Population reply is looks = (opened_of new, looks, refl)
  told request.Bounds reply is looks = (opened_of new, looks, refl)
  told request.Runs reply is looks = (opened_of new, looks, refl)
  told (request.Window x y width height) reply is looks = (opened_of new, looks, refl)
  told (request.Write format) reply is looks = (opened_of new, looks, refl)
  told (request.Picture left top right bottom size) reply is looks = (opened_of new, looks, refl)
  told (request.Open length rule) reply is looks = absurd is
  told (request.Advance generations) reply is looks = absurd is
  told (request.Period most) reply is looks = absurd is
  told (request.Multiple whole) reply is looks = absurd is
  told (request.Same length) reply is looks = absurd is
  told request.Generation reply is looks = absurd is
  told request.Rule reply is looks = absurd is
  told request.Close reply is looks = absurd is

  looked : (asked : Request) (reply : Reply) → AsksForCells asked → is_open old ≡ true → ShowsCells pairs (opened_of old) (cells_of old) asked block reply → Told asked reply
  looked asked reply one opened shows = told asked reply one (same_opened old new same, inl (cells_of old, ap (λ (b : Bool). cells_if b (cells_of old)) opened, shows))

  -- what is replied where memory ran out
  pub tells_memory : (given asked : Request) (reply : Reply) → given ≡ asked → AsksForCells asked → RepliesRefused reply NoMemory → Told given reply
  tells_memory given asked reply is one refused = subst (λ (r : Request). Told r reply) (sym is) (told asked reply one (same_opened old new same, inr (inl refused)))

  -- what is replied where no window or picture has these numbers
  unshown : (asked : Request) (reply : Reply) (here : Bool) → is_open old ≡ here → AsksForCells asked → RepliesRefused reply WindowTooLarge → ((plane : Plane) → ShowsCells pairs (opened_of old) plane asked block reply) → Told asked reply
  unshown asked reply true opened one refused shows = looked asked reply one opened (shows (cells_of old))
  unshown asked reply false closed one refused shows =
      told asked reply one (same_opened old new same, inr (inr (inl (ap (λ (b : Bool). cells_if b (cells_of old)) closed, refused, shows empty))))

  module _ (given : Request) where
    -- what is replied where a call refuses this
    refused_as : {refusal known : Refusal} → refusal ≡ known → Told given (Err (failure.Refused (placeless known))) → Told given (Err (failure.Refused (placeless refusal)))
    refused_as is = subst (λ (r : Refusal). Told given (Err (failure.Refused (placeless r)))) (sym is)

    module _ (width height : ℕ) (x y read_x read_y : ℤ) (x_is : read_x ≡ x) (y_is : read_y ≡ y) (is : given ≡ request.Window x y width height) where
      abbrev window_at : ℤ → ℤ → Rectangle
      window_at a b = record { x = a; y = b; width = width; height = height }

      window_is : window_at read_x read_y ≡ window_at x y
      window_is = ap (λ (z : ℤ). window_at z read_y) x_is ∙ ap (λ (z : ℤ). window_at x z) y_is

      pub tells_window : is_open old ≡ true → (window : Rectangle) → IsWindow window → window ≡ window_at read_x read_y → (bytes : Vec ℕ Global) → bytes.items ≡ window_text (Some window) (cells_of old) →
          Told given (Ok (answer.Bytes bytes))
      tells_window opened window one known bytes are =
          let same_window : window ≡ window_at x y = known ∙ window_is in
          subst (λ (r : Request). Told r (Ok (answer.Bytes bytes))) (sym is)
          (looked (request.Window x y width height) (Ok (answer.Bytes bytes)) tt opened
          (inl (subst IsWindow same_window one, (answer.Bytes bytes, refl, are ∙ ap (λ (w : Rectangle). window_text (Some w) (cells_of old)) same_window))))

      pub tells_no_window : (refusal : Refusal) → refusal ≡ WindowTooLarge → (IsWindow (window_at read_x read_y) → ⊥) → Told given (Err (failure.Refused (placeless refusal)))
      tells_no_window refusal known none =
          refused_as known (subst (λ (r : Request). Told r (Err (failure.Refused (placeless WindowTooLarge)))) (sym is)
          (unshown (request.Window x y width height) (Err (failure.Refused (placeless WindowTooLarge))) (is_open old) refl tt refl
          (λ plane. inr ((λ one. none (subst IsWindow (sym window_is) one)), refl))))

    module _ (format : TextFormat) (is : given ≡ request.Write format) where
      pub tells_file : is_open old ≡ true → (bytes : Vec ℕ Global) → IsFileOf (file_format format) (opened_of old) (cells_of old) bytes.items → Told given (Ok (answer.Bytes bytes))
      tells_file opened bytes are =
          subst (λ (r : Request). Told r (Ok (answer.Bytes bytes))) (sym is) (looked (request.Write format) (Ok (answer.Bytes bytes)) tt opened (inl (answer.Bytes bytes, refl, are)))

      pub tells_no_file : (refusal : Refusal) → (refusal ≡ NoMemory) ⊎ ((refusal ≡ BoxTooLarge) × (is_open old ≡ true) × Exceeds (file_format format) (cells_of old)) → Told given (Err (failure.Refused (placeless refusal)))
      tells_no_file refusal (inl known) = refused_as known (tells_memory given (request.Write format) (Err (failure.Refused (placeless NoMemory))) is tt refl)
      tells_no_file refusal (inr (known, opened, exceeds)) =
          refused_as known (subst (λ (r : Request). Told r (Err (failure.Refused (placeless BoxTooLarge)))) (sym is)
          (looked (request.Write format) (Err (failure.Refused (placeless BoxTooLarge))) tt opened (inr (exceeds, refl))))

    module _ (left top right bottom : ℤ) (size : ℕ) (is : given ≡ request.Picture left top right bottom size) (shown : Bounds) (shown_is : shown ≡ record { left = left; top = top; right = right; bottom = bottom }) where
      pub tells_picture : is_open old ≡ true → (bytes : Vec ℕ Global) → IsShown shown × IsPictureFile (cells_of old) shown size bytes.items → Told given (Ok (answer.Bytes bytes))
      tells_picture opened bytes are =
          let both = subst (λ (b : Bounds). IsShown b × IsPictureFile (cells_of old) b size bytes.items) shown_is are in
          subst (λ (r : Request). Told r (Ok (answer.Bytes bytes))) (sym is)
          (looked (request.Picture left top right bottom size) (Ok (answer.Bytes bytes)) tt opened (inl (both.0, (answer.Bytes bytes, refl, both.1))))

      pub tells_no_picture : (refusal : Refusal) → (refusal ≡ NoMemory) ⊎ ((refusal ≡ WindowTooLarge) × (IsShown shown → ⊥)) → Told given (Err (failure.Refused (placeless refusal)))
      tells_no_picture refusal (inl known) = refused_as known (tells_memory given (request.Picture left top right bottom size) (Err (failure.Refused (placeless NoMemory))) is tt refl)
      tells_no_picture refusal (inr (known, none)) =
          refused_as known (subst (λ (r : Request). Told r (Err (failure.Refused (placeless WindowTooLarge)))) (sym is)
          (unshown (request.Picture left top right bottom size) (Err (failure.Refused (placeless WindowTooLarge))) (is_open old) refl tt refl
          (λ plane. inr ((λ one. none (subst IsShown (sym shown_is) one)), refl))))

-- a box as it is read
pub box_read : {left top right bottom a b c d : ℤ} → a ≡ left → b ≡ top → c ≡ right → d ≡ bottom →
    ◌≡◌ {A = Bounds} (record { left = a; top = b; right = c; bottom = d }) (record { left = left; top = top; right = right; bottom = bottom })
box_read {left} {top} {right} {bottom} {a} {b} {c} {d} is_left is_top is_right is_bottom =
    λ i. record { left = is_left i; top = is_top i; right = is_right i; bottom = is_bottom i }
