-- What is replied to a request, and what is open then.
use Rattle.std.specs.Prelude.{◌≡◌, ◌⊎◌, ℕ, ◌-◌, ◌<◌, ◌≤◌, ℤ, List, Option, None, Some, Result, Ok, Err}
use Rattle.rule_text.specs.CountRule.{CountRule}
use Rattle.rule_text.specs.declared.fault.RuleFault.{RuleFault}
use Rattle.plane.specs.Fault.{placeless}
use Rattle.plane.specs.Laws.{moved}
use Rattle.plane.specs.Plane.{Plane}
use Rattle.plane.specs.Refusal.{rule_refusal}
use Rattle.plane.specs.Square.{IsSame, empty}
use Rattle.plane.specs.Window.{IsWindow}
use Rattle.plane.specs.declared.cell.Bounds.{Bounds}
use Rattle.plane.specs.declared.fault.Fault.{Fault}
use Rattle.plane.specs.declared.refusal.Refusal.{Refusal}
use Rattle.plane.specs.declared.refusal.Refusal.TheVariants.{BoxTooLarge, NodesFull, NoMemory, TooFar, WindowTooLarge}
use Rattle.universe.specs.Ranges.{LeavesRange}
use Rattle.viewport.specs.BoundingBox.{HasBounds}
use Rattle.viewport.specs.Population.{HasPopulation}
use Rattle.engine.specs.Formats.{Exceeds, FileFormat, HasText, macrocell, rle}
use Rattle.engine.specs.Judgement.{Start, Judges}
use Rattle.pattern_picture.specs.Scale.{IsShown, IsSize}
use Rattle.engine.specs.Refused.{IsRefused}
use Rattle.engine.specs.Report.{window_text}
use Rattle.engine.specs.Room.{IsStuckWithin}
use Rattle.engine.specs.Sessions.{opening}
use Rattle.period_search.specs.Candidates.{IsNext, last_of}
use Rattle.period_search.specs.Searches.{IsAnswer, NoneIsPeriod}
use Rattle.period_search.specs.declared.candidates.Candidates.{Candidates}
use Rattle.period_search.specs.declared.candidates.Candidates.TheVariants as candidates
use Rattle.period_search.specs.declared.period.Period.{Period}
use Rattle.png_writer.specs.Picture.{IsPngFile, Picture}
use Rattle.view_program.specs.Drawn.{IsPictureOf}
use Rattle.pipe_requests.specs.declared.bad.Bad.TheVariants as bad
use Rattle.pipe_requests.specs.declared.request.Request.{Request}
use Rattle.pipe_requests.specs.declared.request.Request.TheVariants as request
use Rattle.pipe_requests.specs.declared.request.TextFormat.{TextFormat}
use Rattle.pipe_requests.specs.declared.request.TextFormat.TheVariants as format
use Rattle.pipe_program.specs.Replies.{Reply}
use Rattle.pipe_program.specs.RunBytes.{AreRunBytes}
use Rattle.pipe_program.specs.States.{IsLaterOpened, IsLost, IsSameOpened, Opened, State}
use Rattle.pipe_program.specs.declared.answering.Answer.{Answer}
use Rattle.pipe_program.specs.declared.answering.Answer.TheVariants as answer
use Rattle.pipe_program.specs.declared.answering.Failure.TheVariants as failure

abbrev pub RepliesOk : Reply → Answer → Type 0
RepliesOk reply said = reply ≡ Ok said

abbrev pub RepliesRefused : Reply → Refusal → Type 0
RepliesRefused reply refusal = reply ≡ Err (failure.Refused (placeless refusal))

-- ---- opening

-- a pattern that was opened of a file's bytes by a rule that is given, or the file's
pub record IsOpened (file : List ℕ) (given : Option CountRule) (pairs : ℕ)
    (opened : Opened) : Type 0 where
  pub start : Start
  pub plane : Plane
  pub accepted : Judges file (opening given pairs) (Ok start)
  pub rule : opened.rule ≡ start.rule
  pub generation : opened.generation ≡ start.meaning.generation
  pub comments : opened.comments ≡ start.meaning.comments
  pub cells : opened.cells ≡ Some plane
  pub same : IsSame plane start.meaning.live

-- the file is opened, and nothing else is open; or it is refused, and nothing is open
abbrev pub OpensBy : ℕ → Option CountRule → List ℕ → Reply → State → Type 0
OpensBy pairs given file reply new =
    ((opened : Opened) × IsOpened file given pairs opened
    × RepliesOk reply (answer.Generation opened.generation) × (new ≡ Some opened))
    ⊎ ((fault : Fault) × IsRefused file (opening given pairs) fault
    × (reply ≡ Err (failure.Refused fault)) × (new ≡ None))

-- the same by the rule that the line gives, if it gives one. A text that is no rule is refused; or
-- there is no memory for the block
abbrev pub Opens : ℕ → Option (Result CountRule RuleFault) → List ℕ → Reply → State → Type 0
Opens pairs None file reply new =
    OpensBy pairs None file reply new ⊎ (RepliesRefused reply NoMemory × (new ≡ None))
Opens pairs (Some (Ok rule)) file reply new =
    OpensBy pairs (Some rule) file reply new ⊎ (RepliesRefused reply NoMemory × (new ≡ None))
Opens pairs (Some (Err fault)) file reply new =
    (RepliesRefused reply (rule_refusal fault) ⊎ RepliesRefused reply NoMemory) × (new ≡ None)

-- ---- going on

-- why it did not go so many generations on, and what it is then. They leave the range, and it is as
-- it was; or it came to a generation before, and tables of so many pair slots are too small for the
-- next; or memory ran out, and it is as it was, or its cells are lost
abbrev pub IsNotAdvanced : ℕ → ℕ → Opened → Refusal → Opened → Type 0
IsNotAdvanced pairs generations old refusal new =
    ((refusal ≡ TooFar) × IsSameOpened old new
    × ((plane : Plane) × (old.cells ≡ Some plane) × LeavesRange plane old.generation generations))
    ⊎ ((refusal ≡ NodesFull)
    × ((done : ℕ) × (done < generations) × IsLaterOpened old done new)
    × ((here : Plane) × (new.cells ≡ Some here) × IsStuckWithin new.rule here pairs 1))
    ⊎ ((refusal ≡ NoMemory) × (IsSameOpened old new ⊎ IsLost old new))

-- so many generations on, or it stops
abbrev pub Advances : ℕ → ℕ → Opened → Reply → Opened → Type 0
Advances pairs generations old reply new =
    (IsLaterOpened old generations new × RepliesOk reply (answer.Generation new.generation))
    ⊎ ((refusal : Refusal) × IsNotAdvanced pairs generations old refusal new
    × RepliesRefused reply refusal)

-- how far a search goes: to the period, or to the last number that is tried
abbrev pub reach_of : Candidates → Option Period → ℕ
reach_of tried None = last_of tried
reach_of tried (Some period) = period.generations

-- it came to a number that was tried, or to none yet; none up to there is a period; and it did not
-- go on from there to the next
pub record IsStoppedSearch (pairs : ℕ) (tried : Candidates) (old : Opened) (refusal : Refusal)
    (new : Opened) : Type 0 where
  pub plane : Plane
  pub before : old.cells ≡ Some plane
  pub here : Opened
  pub done : ℕ
  pub next : ℕ
  pub later : IsLaterOpened old done here
  pub none : NoneIsPeriod old.rule plane tried done
  pub is_next : IsNext tried done next
  pub stops : IsNotAdvanced pairs (next - done) here refusal new

-- the least period among some numbers, or none, and the pattern is as many generations on; or the
-- search stops on its way; or memory ran out, in a generation that it came to, up to the last one
-- that it tries
abbrev pub Searches : ℕ → Candidates → Opened → Reply → Opened → Type 0
Searches pairs tried old reply new =
    ((plane : Plane) × (found : Option Period) × (old.cells ≡ Some plane)
    × IsAnswer old.rule plane tried found × IsLaterOpened old (reach_of tried found) new
    × RepliesOk reply (answer.Period found))
    ⊎ ((refusal : Refusal) × IsStoppedSearch pairs tried old refusal new
    × RepliesRefused reply refusal)
    ⊎ (RepliesRefused reply NoMemory
    × (IsSameOpened old new
    ⊎ ((done : ℕ) × (done ≤ last_of tried) × IsLaterOpened old done new)))

-- ---- looking

-- a file of these cells in the format
abbrev pub file_format : TextFormat → FileFormat
file_format format.Rle = rle
file_format format.Macrocell = macrocell

-- the bytes are the file of the pattern's cells
abbrev pub IsFileOf : FileFormat → Opened → Plane → List ℕ → Type 0
IsFileOf format opened plane bytes =
    HasText format plane opened.comments opened.rule opened.generation (λ text. bytes ≡ text)

-- the bytes are the PNG file of a rectangle of the plane
abbrev pub IsPictureFile : Plane → Bounds → ℕ → List ℕ → Type 0
IsPictureFile plane shown size bytes =
    (picture : Picture) × IsPictureOf plane shown size picture
    × IsPngFile picture.width picture.rows bytes

-- the plane's cells are those of the file, moved so far; or they are not, however they are moved
abbrev pub IsDisplacement : Plane → Plane → Option (ℤ × ℤ) → Type 0
IsDisplacement plane first (Some by) =
    IsSame plane (moved by.0 by.1 first) × (IsSame first empty → by ≡ (ℤ.pos 0, ℤ.pos 0))
IsDisplacement plane first None =
    (right down : ℤ) → IsSame plane (moved right down first) → ⊥

-- the file is that of a pattern, and so far the plane's cells are its cells, moved; or the file is
-- refused
abbrev pub Compares : ℕ → Opened → Plane → List ℕ → Reply → Type 0
Compares pairs opened plane file reply =
    ((meaning : Start) × (by : Option (ℤ × ℤ))
    × Judges file (opening (Some opened.rule) pairs) (Ok meaning)
    × IsDisplacement plane meaning.meaning.live by × RepliesOk reply (answer.Moved by))
    ⊎ ((fault : Fault) × IsRefused file (opening (Some opened.rule) pairs) fault
    × (reply ≡ Err (failure.Refused fault)))

-- the answer is a block of which this holds
abbrev pub HasBytes : Answer → (List ℕ → Type 0) → Type 0
HasBytes (answer.Bytes bytes) Are = Are bytes.items
HasBytes other Are = ⊥

-- the reply is a block of which this holds
abbrev pub RepliesBytes : Reply → (List ℕ → Type 0) → Type 0
RepliesBytes reply Are = (said : Answer) × RepliesOk reply said × HasBytes said Are

-- what is replied to a question for these cells
abbrev pub ShowsCells : ℕ → Opened → Plane → Request → List ℕ → Reply → Type 0
ShowsCells pairs opened plane request.Population block reply =
    (count : ℕ) × HasPopulation plane count × RepliesOk reply (answer.Population count)
ShowsCells pairs opened plane request.Bounds block reply =
    (bounds : Option Bounds) × HasBounds plane bounds × RepliesOk reply (answer.Bounds bounds)
ShowsCells pairs opened plane request.Runs block reply = RepliesBytes reply (AreRunBytes plane)
ShowsCells pairs opened plane (request.Window x y width height) block reply =
    (IsWindow (record { x = x; y = y; width = width; height = height })
    × RepliesBytes reply (λ bytes. bytes ≡ window_text
    (Some (record { x = x; y = y; width = width; height = height })) plane))
    ⊎ ((IsWindow (record { x = x; y = y; width = width; height = height }) → ⊥)
    × RepliesRefused reply WindowTooLarge)
ShowsCells pairs opened plane (request.Write format) block reply =
    RepliesBytes reply (IsFileOf (file_format format) opened plane)
    ⊎ (Exceeds (file_format format) plane × RepliesRefused reply BoxTooLarge)
ShowsCells pairs opened plane (request.Picture left top right bottom size) block reply =
    (IsShown (record { left = left; top = top; right = right; bottom = bottom })
    × RepliesBytes reply (IsPictureFile plane
    (record { left = left; top = top; right = right; bottom = bottom }) size))
    ⊎ ((IsShown (record { left = left; top = top; right = right; bottom = bottom }) → ⊥)
    × RepliesRefused reply WindowTooLarge)
ShowsCells pairs opened plane (request.Same length) block reply =
    Compares pairs opened plane block reply
ShowsCells pairs opened plane other block reply = ⊥

-- a question for the cells is answered, or memory has run out. Nothing changes. Where no window or
-- picture has these numbers, cells that are lost are not asked for
abbrev pub Looks : ℕ → Opened → Request → List ℕ → Reply → Opened → Type 0
Looks pairs old asked block reply new =
    IsSameOpened old new
    × (((plane : Plane) × (old.cells ≡ Some plane) × ShowsCells pairs old plane asked block reply)
    ⊎ RepliesRefused reply NoMemory
    ⊎ ((old.cells ≡ None) × RepliesRefused reply WindowTooLarge
    × ShowsCells pairs old empty asked block reply)
    ⊎ ((old.cells ≡ None) × Compares pairs old empty block reply
    × ((fault : Fault) × (reply ≡ Err (failure.Refused fault)))))

-- ---- all requests

-- what is replied where a pattern is open
abbrev pub AnswersOpened : ℕ → Opened → Request → List ℕ → Reply → State → Type 0
AnswersOpened pairs old request.Close block reply new =
    RepliesOk reply answer.Done × (new ≡ None)
AnswersOpened pairs old request.Generation block reply new =
    RepliesOk reply (answer.Generation old.generation)
    × ((same : Opened) × IsSameOpened old same × (new ≡ Some same))
AnswersOpened pairs old request.Rule block reply new =
    RepliesOk reply (answer.Rule old.rule)
    × ((same : Opened) × IsSameOpened old same × (new ≡ Some same))
AnswersOpened pairs old (request.Advance generations) block reply new =
    (later : Opened) × Advances pairs generations old reply later × (new ≡ Some later)
AnswersOpened pairs old (request.Period most) block reply new =
    (later : Opened) × Searches pairs (candidates.UpTo most) old reply later × (new ≡ Some later)
AnswersOpened pairs old (request.Multiple whole) block reply new =
    (later : Opened) × Searches pairs (candidates.DivisorsOf whole) old reply later
    × (new ≡ Some later)
AnswersOpened pairs old other block reply new =
    (same : Opened) × Looks pairs old other block reply same × (new ≡ Some same)

-- the reply, where a request is answered or refused
abbrev pub reply_by : Result Answer Fault → Reply
reply_by (Ok said) = Ok said
reply_by (Err fault) = Err (failure.Refused fault)

-- the request is one for the pattern that is open, which stays open
abbrev pub IsForPattern : Request → Type 0
IsForPattern (request.Open length rule) = ⊥
IsForPattern request.Close = ⊥
IsForPattern other = Unit {0}

-- the same, and the pattern does not advance, nor is another one read
abbrev pub IsLook : Request → Type 0
IsLook (request.Open length rule) = ⊥
IsLook request.Close = ⊥
IsLook (request.Advance generations) = ⊥
IsLook (request.Period most) = ⊥
IsLook (request.Multiple whole) = ⊥
IsLook (request.Same length) = ⊥
IsLook other = Unit {0}

-- the request has a size of a picture, or a number to be tried, that there can be
abbrev pub CanBeAsked : Request → Type 0
CanBeAsked (request.Picture left top right bottom size) = IsSize size
CanBeAsked (request.Period most) = 1 ≤ most
CanBeAsked (request.Multiple whole) = 1 ≤ whole
CanBeAsked other = Unit {0}

-- what is replied to a request with this block, and what is open then
abbrev pub Answers : ℕ → State → Request → List ℕ → Reply → State → Type 0
Answers pairs old (request.Open length rule) block reply new = Opens pairs rule block reply new
Answers pairs None other block reply new =
    (reply ≡ Err (failure.Bad bad.Closed)) × (new ≡ None)
Answers pairs (Some old) other block reply new = AnswersOpened pairs old other block reply new
