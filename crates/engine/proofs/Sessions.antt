-- Sessions that are the same or later.
use Rattle.std.proofs.Common.{◌≡◌, ◌⊎◌, ℕ, ◌+◌, ◌≤◌, ◌^◌, Bool, true, false, List, Option, Result, Ok, Err, refl, sym, ◌∙◌, ap, subst, arith, inl, inr}
use Rattle.std.specs.Prelude.{IfErr, OnErr, OnOk}
use Rattle.std.proofs.lemmas.Bool.{false≢true}
use Rattle.rule_text.specs.CountRule.{CountRule}
use Rattle.plane.specs.Plane.{Plane, after}
use Rattle.plane.specs.Square.{IsSame, empty}
use Rattle.plane.specs.Centred.{Holds}
use Rattle.plane.specs.declared.refusal.Refusal.{Refusal}
use Rattle.plane.specs.declared.refusal.Refusal.TheVariants.{NodesFull, NoMemory, TooFar}
use Rattle.plane.proofs.Parts.{after_same}
use Rattle.plane.proofs.Same.{plane_equal, same_refl, same_sym, same_trans}
use Rattle.plane.specs.Window.{Rectangle}
use Rattle.table_core.specs.declared.key.Key.{Key}
use Rattle.table_core.specs.declared.shape.Shape.{Shape}
use Rattle.universe.specs.Cells.{live_cells, resting_limit, resting_rule, rule_of}
use Rattle.universe.specs.StaysWithinRoot.{StaysWithinRoot}
use Rattle.universe.specs.Outcomes.{LacksMemoryOrRoom}
use Rattle.universe.specs.Ranges.{LeavesRange}
use Rattle.universe.specs.Later.{IsLater, IsSameUniverse, IsStuckAt}
use Rattle.universe.specs.Rests.{IsAtRest}
use Rattle.universe.specs.declared.other_tables.OtherTables.{OtherTables}
use Rattle.universe.specs.declared.universe.Universe.{Universe}
use Rattle.universe.proofs.Later.{after_step, empty_later, held_later}
use Rattle.universe.proofs.Onward.{held_again}
use Rattle.engine.specs.Accepted.{SumsUp}
use Rattle.engine.specs.Pattern.{plane_of}
use Rattle.engine.specs.Report.{window_text}
use Rattle.engine.specs.declared.running.Summary.{Summary}
use Rattle.engine.proofs.Acceptance.{leaves_as}
use Rattle.engine.proofs.Endings.{listing_as, population_as}
use Rattle.engine.specs.Room.{IsStuckWithin}
use Rattle.engine.specs.Sessions.{IsLaterSession, IsLostSession, IsNotAdvanced, IsSameSession, IsStuckOnTheWay, cells_of, comments_of, pairs_of}
use Rattle.engine.specs.States.{IsByRule, IsSameState, is_there, state_cells, state_limit}
use Rattle.engine.specs.declared.pattern.Pattern.{Pattern}
use Rattle.engine.specs.declared.session.Session.{Session}
use Rattle.engine.specs.declared.state.State.{State}
use Rattle.engine.specs.declared.state.State.TheVariants.{AtRest, AtWork}

-- ---- states

pub state_then : {first second third : State} → IsSameState first second → IsSameState second third → IsSameState first third
state_then before now = record {
  cells = same_trans now.cells before.cells;
  rule = λ rule is. now.rule rule (before.rule rule is);
  limit = now.limit ∙ before.limit;
  there = now.there ∙ before.there;
}

-- a universe that was asked
pub asked : {old new : Universe} → IsSameUniverse old new → IsSameState (AtWork old) (AtWork new)
asked same = record {
  cells = same.cells;
  rule = λ rule by. same.rule ∙ by;
  limit = ap (λ (s : Shape). 2 ^ s.bits) same.limit;
  there = refl;
}

-- a pattern that is at work again
pub resumed : (state : State) (pattern : Pattern) (universe : Universe) → state ≡ AtRest pattern → IsAtRest universe pattern.resting →
    IsSameState state (AtWork universe)
resumed state pattern universe is same = subst (λ (s : State). IsSameState s (AtWork universe)) (sym is) (record {
  cells = same_sym same.cells;
  rule = λ rule by. ap (λ (key : Key). key.rule) (sym same.key) ∙ by;
  limit = ap (λ (others : OtherTables). 2 ^ others.limit.bits) (sym same.others);
  there = refl;
})

-- ---- sessions

pub same_session : (session : Session) → IsSameSession session session
same_session session = record {
  pattern = record { comments = refl; rule = refl; limit = refl; opened = refl };
  generation = refl;
  cells = same_refl (cells_of session);
}

pub same_then : {first second third : Session} → IsSameSession first second → IsSameSession second third → IsSameSession first third
same_then before now = record {
  pattern = record {
    comments = now.pattern.comments ∙ before.pattern.comments;
    rule = now.pattern.rule ∙ before.pattern.rule;
    limit = now.pattern.limit ∙ before.pattern.limit;
    opened = now.pattern.opened ∙ before.pattern.opened;
  };
  generation = now.generation ∙ before.generation;
  cells = same_trans now.cells before.cells;
}

-- the same session, as its state tells
pub same_by_state : (old new : Session) → comments_of new ≡ comments_of old → new.rule ≡ old.rule → new.generation ≡ old.generation → IsSameState old.state new.state → IsSameSession old new
same_by_state old new comments rule generation same = record {
  pattern = record { comments = comments; rule = rule; limit = same.limit; opened = same.there };
  generation = generation;
  cells = same.cells;
}

pub none_later : {first second : Session} → IsSameSession first second → IsLaterSession first 0 second
none_later same = record { pattern = same.pattern; generation = let is = same.generation in omega (arith, is); cells = same.cells }

pub later_same : {first second third : Session} (generations : ℕ) → IsLaterSession first generations second → IsSameSession second third → IsLaterSession first generations third
later_same generations later same = record {
  pattern = record {
    comments = same.pattern.comments ∙ later.pattern.comments;
    rule = same.pattern.rule ∙ later.pattern.rule;
    limit = same.pattern.limit ∙ later.pattern.limit;
    opened = same.pattern.opened ∙ later.pattern.opened;
  };
  generation = same.generation ∙ later.generation;
  cells = same_trans same.cells later.cells;
}

pub later_on : {first second third : Session} (done more : ℕ) → IsLaterSession first done second → IsLaterSession second more third → IsLaterSession first (done + more) third
later_on {first} {second} {third} done more before now = record {
  pattern = record {
    comments = now.pattern.comments ∙ before.pattern.comments;
    rule = now.pattern.rule ∙ before.pattern.rule;
    limit = now.pattern.limit ∙ before.pattern.limit;
    opened = now.pattern.opened ∙ before.pattern.opened;
  };
  generation = let second_is = now.generation in let first_is = before.generation in omega (arith, second_is, first_is);
  cells = after_step first.rule (cells_of first) (cells_of second) (cells_of third) done more before.cells
      (subst (λ (r : CountRule). IsSame (cells_of third) (after r (cells_of second) more)) before.pattern.rule now.cells);
}

-- a session whose universe went so many generations on
pub later_by : (old new : Session) (universe later : Universe) (generations : ℕ) → comments_of new ≡ comments_of old → new.rule ≡ old.rule → new.generation ≡ old.generation + generations →
    IsSameState old.state (AtWork universe) → IsLater universe generations later → new.state ≡ AtWork later → IsLaterSession old generations new
later_by old new universe later generations comments rule generation same is state =
    let by_rule : rule_of universe ≡ old.rule = same.rule old.rule old.by_rule in
    record {
      pattern = record {
        comments = comments;
        rule = rule;
        limit = ap state_limit state ∙ ap (λ (s : Shape). 2 ^ s.bits) is.limit ∙ same.limit;
        opened = ap is_there state ∙ same.there;
      };
      generation = generation;
      cells = subst (λ (s : State). IsSame (state_cells s) (after old.rule (cells_of old) generations)) (sym state)
          (subst (λ (r : CountRule). IsSame (live_cells later) (after r (cells_of old) generations)) by_rule
          (same_trans is.cells (after_same (rule_of universe) (live_cells universe) (cells_of old) generations same.cells)));
    }

-- a session whose universe came to a generation before so many, and is stuck
pub stuck_by : (old new : Session) (universe there : Universe) (generations done : ℕ) → comments_of new ≡ comments_of old → new.rule ≡ old.rule → new.generation ≡ old.generation + done →
    IsSameState old.state (AtWork universe) → IsStuckAt universe generations there done → new.state ≡ AtWork there → IsStuckOnTheWay old generations new
stuck_by old new universe there generations done comments rule generation same is state = record {
  done = done;
  before = is.before;
  later = later_by old new universe there done comments rule generation same is.later state;
  stuck = record { universe = there; is = state; one = is.one; exhausted = is.exhausted };
}

-- ---- what follows for runs

-- where a session is stuck, a run of its cells is
pub stuck_within : {old new : Session} (generations : ℕ) → IsStuckOnTheWay old generations new → IsStuckWithin old.rule (cells_of old) (pairs_of old) generations
stuck_within {old} {new} generations stuck =
    let there = stuck.stuck.universe in
    record {
      done = stuck.done;
      before = stuck.before;
      there = there;
      cells = subst (λ (s : State). IsSame (state_cells s) (after old.rule (cells_of old) stuck.done)) stuck.stuck.is stuck.later.cells;
      rule = subst (λ (s : State). IsByRule new.rule s) stuck.stuck.is new.by_rule ∙ stuck.later.pattern.rule;
      limit = ap state_limit (sym stuck.stuck.is) ∙ stuck.later.pattern.limit;
      one = stuck.stuck.one;
      exhausted = stuck.stuck.exhausted;
    }

-- where a later session is stuck, a run of the first one's cells is
pub stuck_from_later : {first second third : Session} (generations done more : ℕ) → IsLaterSession first done second → done + more ≤ generations → IsStuckOnTheWay second more third → IsStuckOnTheWay first generations third
stuck_from_later {first} {second} {third} generations done more before within stuck = record {
  done = done + stuck.done;
  before = let less = stuck.before in omega (arith, less, within);
  later = later_on {first = first} {second = second} {third = third} done stuck.done before stuck.later;
  stuck = stuck.stuck;
}

-- so many generations more stay in the range
pub held_from : {first second : Session} (generations done more : ℕ) → StaysWithinRoot first.rule (cells_of first) generations → IsLaterSession first done second → done + more ≤ generations →
    StaysWithinRoot second.rule (cells_of second) more
held_from {first} {second} generations done more held before within = subst (λ (r : CountRule). StaysWithinRoot r (cells_of second) more) (sym before.pattern.rule)
    (λ n less. held_later first.rule (cells_of first) (cells_of second) generations done n held before.cells (omega (arith, within, less)))

-- where nothing was live, nothing is live later
pub empty_from : {first second : Session} (done : ℕ) → IsLaterSession first done second → IsSame (cells_of first) empty → IsSame (cells_of second) empty
empty_from {first} {second} done before none = empty_later first.rule first.lawful.no_birth_on_zero (cells_of first) (cells_of second) done none before.cells

pub same_then_later : {first second third : Session} (generations : ℕ) → IsSameSession first second → IsLaterSession second generations third → IsLaterSession first generations third
same_then_later {first} {second} {third} generations same later = record {
  pattern = record {
    comments = later.pattern.comments ∙ same.pattern.comments;
    rule = later.pattern.rule ∙ same.pattern.rule;
    limit = later.pattern.limit ∙ same.pattern.limit;
    opened = later.pattern.opened ∙ same.pattern.opened;
  };
  generation = let is = later.generation in let was = same.generation in omega (arith, is, was);
  cells = same_trans (subst (λ (r : CountRule). IsSame (cells_of third) (after r (cells_of second) generations)) same.pattern.rule later.cells)
      (after_same first.rule (cells_of second) (cells_of first) generations same.cells);
}

pub same_then_stuck : {first second third : Session} (generations : ℕ) → IsSameSession first second → IsStuckOnTheWay second generations third → IsStuckOnTheWay first generations third
same_then_stuck {first} {second} {third} generations same stuck = record {
  done = stuck.done;
  before = stuck.before;
  later = same_then_later {first = first} {second = second} {third = third} stuck.done same stuck.later;
  stuck = stuck.stuck;
}

pub same_then_lost : {first second third : Session} → IsSameSession first second → IsLostSession second third → IsLostSession first third
same_then_lost same lost = record {
  comments = lost.comments ∙ same.pattern.comments;
  rule = lost.rule ∙ same.pattern.rule;
  generation = lost.generation ∙ same.generation;
  closed = lost.closed;
}

-- ---- at work

pub cells_at_work : (state : State) (universe : Universe) → state ≡ AtWork universe → IsSame (state_cells state) (live_cells universe)
cells_at_work state universe is = subst (λ (s : State). IsSame (state_cells s) (live_cells universe)) (sym is) (same_refl (live_cells universe))

pub held_at_work : (session : Session) (universe : Universe) (generations : ℕ) → IsSameState session.state (AtWork universe) → StaysWithinRoot session.rule (cells_of session) generations → StaysWithinRoot (rule_of universe) (live_cells universe) generations
held_at_work session universe generations same held =
    let by_rule : rule_of universe ≡ session.rule = same.rule session.rule session.by_rule in
    λ n less. subst (λ (r : CountRule). Holds 63 (after r (live_cells universe) n)) (sym by_rule) (held_again session.rule (cells_of session) (live_cells universe) n same.cells (held n less))

-- a session that was judged and then advanced
pub judged : (old : Session) (universe judged : Universe) (new : Session) → IsSameState old.state (AtWork universe) → IsSameUniverse universe judged →
    comments_of new ≡ comments_of old → new.rule ≡ old.rule → new.generation ≡ old.generation → new.state ≡ AtWork judged → IsSameSession old new
judged old universe after_judging new same asked_same comments rule generation state =
    same_by_state old new comments rule generation (subst (λ (s : State). IsSameState old.state s) (sym state) (state_then same (asked {old = universe} {new = after_judging} asked_same)))

pub later_result : (first second third : Session) (generations : ℕ) (result : Result Unit Refusal) → IsSameSession first second → OnOk result (IsLaterSession second generations third) → OnOk result (IsLaterSession first generations third)
later_result first second third generations (Ok done) same later = same_then_later {first = first} {second = second} {third = third} generations same later
later_result first second third generations (Err refusal) same later = tt

pub refused_result : (first second third : Session) (generations : ℕ) (result : Result Unit Refusal) → IsSameSession first second →
    IfErr result (λ refusal. ((refusal ≡ NodesFull) × IsStuckOnTheWay second generations third) ⊎ ((refusal ≡ NoMemory) × IsLostSession second third)) → IfErr result (IsNotAdvanced first generations third)
refused_result first second third generations (Ok done) same refused = tt
refused_result first second third generations (Err refusal) same (inl (full, stuck)) = inr (inl (full, same_then_stuck {first = first} {second = second} {third = third} generations same stuck))
refused_result first second third generations (Err refusal) same (inr (memory, lost)) = inr (inr (memory, inr (same_then_lost {first = first} {second = second} {third = third} same lost)))

-- what holds at any rate holds of an answer
pub whenever : {T E P : Type 0} (result : Result T E) → P → OnOk result P
whenever (Ok done) holds = holds
whenever (Err refusal) holds = tt

-- what holds at any rate holds of a refusal
pub at_any_rate : {T E P : Type 0} (Is : E → Type 0) (result : Result T E) → P → IfErr result (λ refusal. Is refusal ⊎ P)
at_any_rate Is (Ok done) holds = tt
at_any_rate Is (Err refusal) holds = inr holds

-- a session whose range was not judged, or leaves the range
pub not_judged : (old new : Session) (universe : Universe) (generations : ℕ) (refusal : Refusal) → IsSame (live_cells universe) (cells_of old) → IsSameSession old new →
    (refusal ≡ NoMemory) ⊎ ((refusal ≡ TooFar) × LeavesRange (live_cells universe) old.generation generations) → IsNotAdvanced old generations new refusal
not_judged old new universe generations refusal cells same (inl memory) = inr (inr (memory, inl same))
not_judged old new universe generations refusal cells same (inr (far, leaves)) = inl (far, leaves_as cells refl leaves, same)

-- ---- at rest

pub without_other_tables : (state : State) (pattern fresh : Pattern) → state ≡ AtRest pattern → plane_of fresh ≡ plane_of pattern → resting_rule fresh.resting ≡ resting_rule pattern.resting →
    resting_limit fresh.resting ≡ resting_limit pattern.resting → IsSameState state (AtRest fresh)
without_other_tables state pattern fresh is cells rule limit = subst (λ (s : State). IsSameState s (AtRest fresh)) (sym is) (record {
  cells = subst (λ (p : Plane). IsSame p (plane_of pattern)) (sym cells) (same_refl (plane_of pattern));
  rule = λ r by. rule ∙ by;
  limit = limit;
  there = refl;
})

-- what a run tells of a session that did not come to its last generation
pub lacks : {old new : Session} (generations : ℕ) (refusal : Refusal) → ((refusal ≡ NodesFull) × IsStuckOnTheWay old generations new) ⊎ ((refusal ≡ NoMemory) × IsLostSession old new) → LacksMemoryOrRoom refusal
lacks generations refusal (inl (full, stuck)) = inr full
lacks generations refusal (inr (memory, lost)) = inl memory

memory_not_full : (refusal : Refusal) → refusal ≡ NoMemory → refusal ≡ NodesFull → ⊥
memory_not_full refusal memory full = cc

pub stuck_if_full : {first second third : Session} (generations done more : ℕ) (refusal : Refusal) → IsLaterSession first done second → done + more ≤ generations →
    ((refusal ≡ NodesFull) × IsStuckOnTheWay second more third) ⊎ ((refusal ≡ NoMemory) × IsLostSession second third) → refusal ≡ NodesFull → IsStuckWithin first.rule (cells_of first) (pairs_of first) generations
stuck_if_full {first} {second} {third} generations done more refusal before within (inl (full, stuck)) is =
    stuck_within {old = first} {new = third} generations (stuck_from_later {first = first} {second = second} {third = third} generations done more before within stuck)
stuck_if_full {first} {second} {third} generations done more refusal before within (inr (memory, lost)) is = absurd (memory_not_full refusal memory is)

-- a sink that failed took a beginning of the text
pub refused_window : (Begins : Type 0) (Failed Closed : Refusal → Type 0) (result : Result Unit Refusal) → IfErr result Failed → OnErr result Begins → IfErr result (λ refusal. (Failed refusal × Begins) ⊎ Closed refusal)
refused_window Begins Failed Closed (Ok done) failed begins = tt
refused_window Begins Failed Closed (Err refusal) failed begins = inl (failed, begins)

pub only_failed : {Failed Refused Same : Type 0} {opened : Bool} → opened ≡ true → Failed ⊎ (Refused × (opened ≡ false) × Same) → Failed
only_failed is (inl failed) = failed
only_failed is (inr (refused, closed, same)) = absurd (false≢true (sym closed ∙ is))

-- ---- what is said of the same cells

pub subst2 : {A B : Type 0} (P : A → B → Type 0) {a a' : A} {b b' : B} → a ≡ a' → b ≡ b' → P a b → P a' b'
subst2 P {a} {a'} {b} {b'} first second p = subst (λ (y : _). P a' y) second (subst (λ (x : _). P x b) first p)

pub sums_up_as : {generation number : ℕ} {plane other : Plane} {answer : Summary} → generation ≡ number → IsSame plane other → SumsUp generation plane answer → SumsUp number other answer
sums_up_as is same sums = record { last = sums.last ∙ is; population = population_as same sums.population; bounds = record { cells = sums.bounds.cells; listing = listing_as same sums.bounds.listing; bounds = sums.bounds.bounds } }

pub text_as : (Appended : List ℕ → Type 0) (window : Option Rectangle) {plane other : Plane} → IsSame plane other → Appended (window_text window plane) → Appended (window_text window other)
text_as Appended window {plane} {other} same = subst (λ (p : Plane). Appended (window_text window p)) (plane_equal plane other same)
