use Rattle.std.proofs.lemmas.Result.{IfOk-weaker}
use Rattle.plane.proofs.Same.{same_sym}
use Rattle.engine.specs.Accepted.{SumsUp}
use Rattle.engine.specs.Sessions.{cells_of}
use Rattle.engine.proofs.Endings.{population_as}
use Rattle.engine.proofs.Sessions.{same_then, sums_up_as}
use Rattle.engine.proofs.session.Session.summary.Goals as goal

pub returns-in_err-population-clause-same : goal.returns-in_err-population-clause-same
returns-in_err-population-clause-same c = c.population.ensures.same

pub returns-clause-same : goal.returns-clause-same
returns-clause-same c = same_then {first = c.args.self.now} {second = c.population.new.self} {third = c.summary_with.new.self} c.population.ensures.same c.summary_with.ensures.same

pub summary_with-requires : goal.summary_with-requires
summary_with-requires c = population_as (same_sym c.in_ok-population.ensures.same.cells) c.in_ok-population.ensures.ok

pub returns-clause-ok : goal.returns-clause-ok
returns-clause-ok c =
    let same = c.in_ok-population.ensures.same in
    IfOk-weaker c.summary_with.result (SumsUp c.population.new.self.generation (cells_of c.population.new.self))
    (SumsUp c.args.self.now.generation (cells_of c.args.self.now)) (λ answer. sums_up_as same.generation same.cells) c.summary_with.ensures.ok
