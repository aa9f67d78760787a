-- The session of a census, line by line.
use Rattle.std.proofs.Common.{◌≡◌, ℕ, ◌-◌, ◌<◌, ◌≤◌, ◌^◌, List, [], None, Option, Err, refl, sym, subst, arith, inl}
use Rattle.std.proofs.KnownBytes.{Appends-nil}
use Rattle.plane.specs.Fault.{placeless}
use Rattle.plane.specs.Range.{StaysWithin}
use Rattle.plane.specs.SinkChange.{SinkChange}
use Rattle.plane.specs.declared.cell.Bounds.{Bounds}
use Rattle.plane.specs.declared.fault.Fault.{Fault}
use Rattle.plane.specs.declared.refusal.Refusal.{Refusal}
use Rattle.plane.specs.declared.refusal.Refusal.TheVariants.{NoMemory, TooFar}
use Rattle.universe.specs.Ranges.{KeepsToRange}
use Rattle.viewport.specs.BoundingBox.{HasBounds}
use Rattle.engine.specs.Refused.{IsRefused}
use Rattle.engine.specs.Sessions.{IsLaterSession, IsNotAdvanced, IsOpenedFor, IsSameSession, cells_of, opening}
use Rattle.engine.specs.declared.running.Summary.{Summary}
use Rattle.engine.specs.declared.session.Session.{Session}
use Rattle.engine.specs.Accepted.{SumsUp}
use Rattle.engine.proofs.Endings.{stays_as}
use Rattle.engine.proofs.SessionRuns.{IsLonger, later_ends, later_refused, memory_refused_for, refused_for, too_far_for}
use Rattle.engine.proofs.Sessions.{later_on, later_same}
use Rattle.example_census.specs.Census.{IsCensusRun, IsSummaryAfter, TakesCensus, run_of}

-- a session of the file that came so many generations on, and the box of its first cells
pub record HasCome (bytes : List ℕ) (first : ℕ) (bounds : Option Bounds) (done : ℕ) (session : Session) : Type 0 where
  pub start : Session
  pub opened : IsOpenedFor bytes (opening None 4194304) start
  pub later : IsLaterSession start done session
  pub number : first ≡ start.generation
  pub box : HasBounds (cells_of start) bounds

longer : (generations : ℕ) → IsLonger (opening None 4194304) (run_of generations)
longer generations = record { rule = refl; pairs = refl; gens = omega arith }

-- a census that ends early before the line of so many generations
pub stops_before : {W : Type 0} (bytes : List ℕ) (power lines : ℕ) (out : SinkChange W) (fault : Fault) → power < lines → TakesCensus bytes power out → IsRefused bytes (run_of (2 ^ power)) fault → IsCensusRun bytes lines out (Err fault)
stops_before bytes power lines out fault within takes refused = record { finished = tt; refused = inl (power, within, takes, refused) }

-- before the first line
pub no_line : {W : Type 0} (bytes : List ℕ) (out : SinkChange W) → out.new ≡ out.old → TakesCensus bytes 0 out
no_line bytes out same = rw same (([], refl, Appends-nil _), refl)

pub not_opened : (bytes : List ℕ) (fault : Fault) → IsRefused bytes (opening None 4194304) fault → IsRefused bytes (run_of (2 ^ 0)) fault
not_opened bytes fault refused = refused_for bytes (longer (2 ^ 0)) fault refl refused

pub opened_no_memory : {bytes : List ℕ} {session : Session} → IsOpenedFor bytes (opening None 4194304) session → IsRefused bytes (run_of (2 ^ 0)) (placeless NoMemory)
opened_no_memory {bytes} {session} opened = memory_refused_for bytes (longer (2 ^ 0)) {session = session} opened

module _ {bytes : List ℕ} {first done : ℕ} {bounds : Option Bounds} {session : Session} (come : HasCome bytes first bounds done session) where
  keeps : (generations : ℕ) → StaysWithin bounds first generations → KeepsToRange (cells_of come.start) come.start.generation generations
  keeps generations stays = record { cells = come.box.cells; listing = come.box.listing; stays = stays_as come.box.bounds come.number stays }

  pub too_far : (power : ℕ) → ¬ StaysWithin bounds first (2 ^ power) → IsRefused bytes (run_of (2 ^ power)) (placeless TooFar)
  too_far power far = too_far_for bytes (longer (2 ^ power)) {session = come.start} come.opened (record {
    cells = come.box.cells;
    listing = come.box.listing;
    outside = λ stays. far (stays_as (sym come.box.bounds) (sym come.number) stays);
  })

  pub no_memory : (power : ℕ) → IsRefused bytes (run_of (2 ^ power)) (placeless NoMemory)
  no_memory power = memory_refused_for bytes (longer (2 ^ power)) {session = come.start} come.opened

  pub not_advanced : {there : Session} (power : ℕ) (refusal : Refusal) → done ≤ 2 ^ power → StaysWithin bounds first (2 ^ power) → IsNotAdvanced session (2 ^ power - done) there refusal →
      IsRefused bytes (run_of (2 ^ power)) (placeless refusal)
  not_advanced {there} power refusal within stays refused =
      later_refused bytes (longer (2 ^ power)) {first = come.start} {here = session} {there = there} done (2 ^ power - done) refusal come.opened (keeps (2 ^ power) stays) come.later (omega (arith, within)) refused

  pub comes_on : {there : Session} (generations : ℕ) → done ≤ generations → IsLaterSession session (generations - done) there → HasCome bytes first bounds generations there
  comes_on {there} generations within is_later = record {
    start = come.start;
    opened = come.opened;
    later = subst (λ (n : ℕ). IsLaterSession come.start n there) (omega (arith, within)) (later_on {first = come.start} {second = session} {third = there} done (generations - done) come.later is_later);
    number = come.number;
    box = come.box;
  }

  pub same_come : {there : Session} → IsSameSession session there → HasCome bytes first bounds done there
  same_come same = record { start = come.start; opened = come.opened; later = later_same done come.later same; number = come.number; box = come.box }

  pub summed_up : (power : ℕ) (summary : Summary) → done ≡ 2 ^ power → StaysWithin bounds first (2 ^ power) → SumsUp session.generation (cells_of session) summary → IsSummaryAfter bytes (2 ^ power) summary
  summed_up power summary is stays sums = (
    cells_of session,
    later_ends bytes (longer (2 ^ power)) {first = come.start} {later = session} summary come.opened (keeps (2 ^ power) stays) (subst (λ (n : ℕ). IsLaterSession come.start n session) is come.later) sums,
  )
