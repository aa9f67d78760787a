-- What a search says of the pattern that a session has open.
use Rattle.std.proofs.Common.{◌≡◌, ℕ, Bool, true, Option, None, Some, Ok, IfNone, IfSome, refl, sym, ◌∙◌, ap, inl}
use Rattle.engine.specs.Sessions.{IsLaterSession, cells_of, is_open}
use Rattle.engine.specs.declared.session.Session.{Session}
use Rattle.period_search.specs.Candidates.{last_of}
use Rattle.period_search.specs.Searches.{IsAnswer}
use Rattle.period_search.specs.declared.candidates.Candidates.{Candidates}
use Rattle.period_search.specs.declared.period.Period.{Period}
use Rattle.pipe_program.specs.Answers.{Searches, reach_of}
use Rattle.pipe_program.specs.States.{HasLimit, IsLaterOpened, cells_if, opened_of}
use Rattle.pipe_program.specs.declared.answering.Answer.TheVariants as answer

-- an open session that is later is a pattern that is later
pub later_opened : (old new : Session) (generations : ℕ) → is_open old ≡ true → IsLaterSession old generations new → IsLaterOpened (opened_of old) generations (opened_of new)
later_opened old new generations opened later = record {
  plane = cells_of old;
  later = cells_of new;
  rule = later.pattern.rule;
  generation = later.generation;
  comments = later.pattern.comments;
  before = ap (λ (b : Bool). cells_if b (cells_of old)) opened;
  cells = ap (λ (b : Bool). cells_if b (cells_of new)) (later.pattern.opened ∙ opened);
  same = later.cells;
}

-- a later session has the limit, too
pub limit_later : (pairs done : ℕ) (old new : Session) → HasLimit pairs old → IsLaterSession old done new → HasLimit pairs new
limit_later pairs done old new limit later = λ opened. later.pattern.limit ∙ limit (sym later.pattern.opened ∙ opened)

-- a search that came to its end
pub search_ended : (pairs : ℕ) (candidates : Candidates) (old new : Session) (found : Option Period) → is_open old ≡ true → IsAnswer old.rule (cells_of old) candidates found →
    IfSome found (λ period. IsLaterSession old period.generations new) → IfNone found (IsLaterSession old (last_of candidates) new) → Searches pairs candidates (opened_of old) (Ok (answer.Period found)) (opened_of new)
search_ended pairs candidates old new found opened answers later ended =
    inl (cells_of old, found, ap (λ (b : Bool). cells_if b (cells_of old)) opened, answers, reached found later ended, refl) where
      reached : (found : Option Period) → IfSome found (λ period. IsLaterSession old period.generations new) → IfNone found (IsLaterSession old (last_of candidates) new) → IsLaterOpened (opened_of old) (reach_of candidates found) (opened_of new)
      reached None later ended = later_opened old new (last_of candidates) opened ended
      reached (Some period) later ended = later_opened old new period.generations opened later

-- a search that came to its end leaves the limit
pub limit_ended : (pairs : ℕ) (candidates : Candidates) (old new : Session) (found : Option Period) → HasLimit pairs old → IfSome found (λ period. IsLaterSession old period.generations new) →
    IfNone found (IsLaterSession old (last_of candidates) new) → HasLimit pairs new
limit_ended pairs candidates old new None limit later ended = limit_later pairs (last_of candidates) old new limit ended
limit_ended pairs candidates old new (Some period) limit later ended = limit_later pairs period.generations old new limit later
