-- The session of a run's last generation.
use Rattle.std.specs.Prelude.{◌≡◌, ℕ, List, Ok}
use Rattle.plane.specs.Plane.{after}
use Rattle.plane.specs.Square.{IsSame}
use Rattle.run_options.specs.declared.options.RunOptions.{RunOptions}
use Rattle.engine.specs.Judgement.{Start, Judges, last_generation}
use Rattle.engine.specs.Sessions.{cells_of, pairs_of}
use Rattle.engine.specs.declared.session.Session.{Session}

-- a run of these bytes is accepted, and the session is its last generation, by its rule and in
-- tables of its size
pub record IsLastSession (bytes : List ℕ) (run : RunOptions) (session : Session) : Type 0 where
  pub start : Start
  pub accepted : Judges bytes run (Ok start)
  pub rule : session.rule ≡ start.rule
  pub cells : IsSame (cells_of session) (after start.rule start.meaning.live run.gens)
  pub generation : session.generation ≡ last_generation start run
  pub limit : pairs_of session ≡ run.pairs
