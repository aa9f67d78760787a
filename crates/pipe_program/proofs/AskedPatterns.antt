-- What is replied where the pattern that a session has open goes on, or is compared with another.
use Rattle.std.proofs.Common.{◌≡◌, ◌⊎◌, ℕ, ℤ, Bool, true, false, Option, Some, Result, Ok, Err, List, refl, sym, ap, subst, inl, inr}
use Rattle.rule_text.specs.CountRule.{CountRule}
use Rattle.rule_text.specs.declared.fault.RuleFault.{RuleFault}
use Rattle.plane.specs.Fault.{placeless}
use Rattle.plane.specs.declared.fault.Fault.{Fault}
use Rattle.plane.specs.declared.refusal.Refusal.{Refusal}
use Rattle.plane.specs.declared.refusal.Refusal.TheVariants.{NoMemory}
use Rattle.engine.specs.Judgement.{Start, Judges}
use Rattle.engine.specs.Refused.{IsRefused}
use Rattle.engine.specs.Sessions.{IsLaterSession, IsSameSession, cells_of, is_open, opening}
use Rattle.engine.specs.Sessions as sessions
use Rattle.engine.specs.declared.session.Session.{Session}
use Rattle.period_search.specs.declared.candidates.Candidates.TheVariants.{UpTo, DivisorsOf}
use Rattle.pipe_requests.specs.declared.request.Request.{Request}
use Rattle.pipe_requests.specs.declared.request.Request.TheVariants as request
use Rattle.pipe_program.specs.Answers.{Answers, AnswersOpened, IsDisplacement, Looks, Opens, Searches}
use Rattle.pipe_program.specs.Replies.{Reply}
use Rattle.pipe_program.specs.States.{HasLimit, Opened, State, cells_if, opened_of}
use Rattle.pipe_program.specs.declared.answering.Answer.TheVariants as answer
use Rattle.pipe_program.specs.declared.answering.Failure.TheVariants as failure
use Rattle.pipe_program.proofs.Looks.{same_opened}
use Rattle.pipe_program.proofs.SearchedPatterns.{later_opened}
use Rattle.pipe_program.proofs.StoppedPatterns.{cells_there, not_advanced}

module _ (pairs : ℕ) (block : List ℕ) (old new : Session) (given : Request) where
  abbrev Told : Request → Reply → Type 0
  Told asked reply = AnswersOpened pairs (opened_of old) asked block reply (Some (opened_of new))

  told_as : (asked : Request) (reply : Reply) → given ≡ asked → Told asked reply → Told given reply
  told_as asked reply is = subst (λ (r : Request). Told r reply) (sym is)

  pub tells_later : (generations : ℕ) → given ≡ request.Advance generations → is_open old ≡ true → IsLaterSession old generations new → Told given (Ok (answer.Generation new.generation))
  tells_later generations is opened later =
      told_as (request.Advance generations) (Ok (answer.Generation new.generation)) is (opened_of new, inl (later_opened old new generations opened later, refl), refl)

  pub tells_not_advanced : (generations : ℕ) (refusal : Refusal) → given ≡ request.Advance generations → HasLimit pairs old → (refusal ≡ NoMemory) ⊎ (is_open old ≡ true) →
      sessions.IsNotAdvanced old generations new refusal → Told given (Err (failure.Refused (placeless refusal)))
  tells_not_advanced generations refusal is limit opened refused =
      told_as (request.Advance generations) (Err (failure.Refused (placeless refusal))) is
      (opened_of new, inr (refusal, not_advanced pairs generations old new refusal limit opened refused, refl), refl)

  pub tells_period : (most : ℕ) (reply : Reply) → given ≡ request.Period most → Searches pairs (UpTo most) (opened_of old) reply (opened_of new) → Told given reply
  tells_period most reply is searches = told_as (request.Period most) reply is (opened_of new, searches, refl)

  pub tells_multiple : (whole : ℕ) (reply : Reply) → given ≡ request.Multiple whole → Searches pairs (DivisorsOf whole) (opened_of old) reply (opened_of new) → Told given reply
  tells_multiple whole reply is searches = told_as (request.Multiple whole) reply is (opened_of new, searches, refl)

  module _ (length : ℕ) (is : given ≡ request.Same length) (same : IsSameSession old new) where
    compared : (reply : Reply) → Looks pairs (opened_of old) (request.Same length) block reply (opened_of new) → Told given reply
    compared reply looks = told_as (request.Same length) reply is (opened_of new, looks, refl)

    pub tells_moved : (by : Option (ℤ × ℤ)) → is_open old ≡ true → (start : Start) × Judges block (opening (Some old.rule) pairs) (Ok start) × IsDisplacement (cells_of old) start.meaning.live by →
        Told given (Ok (answer.Moved by))
    tells_moved by opened (start, judges, is_moved) =
        compared (Ok (answer.Moved by)) (same_opened old new same, inl (cells_of old, cells_there old opened, inl (start, by, judges, is_moved, refl)))

    refused_file : (fault : Fault) (here : Bool) → is_open old ≡ here → IsRefused block (opening (Some old.rule) pairs) fault → Told given (Err (failure.Refused fault))
    refused_file fault true opened refused = compared (Err (failure.Refused fault)) (same_opened old new same, inl (cells_of old, cells_there old opened, inr (fault, refused, refl)))
    refused_file fault false closed refused =
        compared (Err (failure.Refused fault))
        (same_opened old new same, inr (inr (inr (ap (λ (b : Bool). cells_if b (cells_of old)) closed, inr (fault, refused, refl), (fault, refl)))))

    pub tells_not_moved : (fault : Fault) → (fault ≡ placeless NoMemory) ⊎ IsRefused block (opening (Some old.rule) pairs) fault → Told given (Err (failure.Refused fault))
    tells_not_moved fault (inl memory) =
        compared (Err (failure.Refused fault)) (same_opened old new same, inr (inl (ap (λ (f : Fault). Err (failure.Refused f)) memory)))
    tells_not_moved fault (inr refused) = refused_file fault (is_open old) refl refused

-- ---- opened files, and what is asked of a pattern that is open

pub opens_as : (pairs : ℕ) (old : State) (given : Request) (length : ℕ) (rule : Option (Result CountRule RuleFault)) (file : List ℕ) (reply : Reply) (new : State) → given ≡ request.Open length rule →
    Opens pairs rule file reply new → Answers pairs old given file reply new
opens_as pairs old given length rule file reply new is opens = subst (λ (r : Request). Answers pairs old r file reply new) (sym is) opens

-- what is replied to a request that opens no file, where a pattern is open
pub answers_open : (pairs : ℕ) (old : State) (opened : Opened) (given : Request) (block : List ℕ) (reply : Reply) (new : State) → old ≡ Some opened →
    ((length : ℕ) (rule : Option (Result CountRule RuleFault)) → given ≡ request.Open length rule → ⊥) → AnswersOpened pairs opened given block reply new → Answers pairs old given block reply new
answers_open pairs old opened given block reply new is other answers = subst (λ (s : State). Answers pairs s given block reply new) (sym is) (by_request given other answers) where
  by_request : (r : Request) → ((length : ℕ) (rule : Option (Result CountRule RuleFault)) → r ≡ request.Open length rule → ⊥) → AnswersOpened pairs opened r block reply new → Answers pairs (Some opened) r block reply new
  by_request (request.Open length rule) other answers = absurd (other length rule refl)
  by_request (request.Advance generations) other answers = answers
  by_request request.Generation other answers = answers
  by_request request.Rule other answers = answers
  by_request request.Population other answers = answers
  by_request request.Bounds other answers = answers
  by_request request.Runs other answers = answers
  by_request (request.Window x y width height) other answers = answers
  by_request (request.Write format) other answers = answers
  by_request (request.Picture left top right bottom size) other answers = answers
  by_request (request.Period most) other answers = answers
  by_request (request.Multiple whole) other answers = answers
  by_request (request.Same length) other answers = answers
  by_request request.Close other answers = answers
