use Rattle.std.proofs.Common.{◌≡◌, ◌∙◌, ℕ, ap, refl}
use Rattle.std.specs.Prelude.{[], length}
use Rattle.std.proofs.KnownBytes.{Appends-nil}
use Rattle.plane.proofs.Same.{same_sym}
use Rattle.engine.specs.Report.{report_line}
use Rattle.engine.proofs.Endings.{population_as}
use Rattle.engine.proofs.report.report_generation.Goals as goal

pub returns-clause-counted : goal.returns-clause-counted
returns-clause-counted g c = population_as (same_sym c.in_ok-population.ensures.same.cells) c.in_ok-population.ensures.ok

pub returns-then-quiet-clause-written : goal.returns-then-quiet-clause-written
returns-then-quiet-clause-written g c = rw c.if-quiet.true ([], refl, Appends-nil (g.W.Sink.taken c.args.report.now))

pub returns-clause-written : goal.returns-clause-written
returns-clause-written g c =
    let counted = c.in_ok-population.ensures.ok in
    let line = report_line c.generation.result c.in_ok-population.population in
    let is : line ≡ report_line c.args.session.now.generation (length counted.cells) =
    ap (λ (n : ℕ). report_line n c.in_ok-population.population) (c.generation.ensures ∙ c.in_ok-population.ensures.same.generation)
    ∙ ap (λ (n : ℕ). report_line c.args.session.now.generation n) counted.count in
    rw c.if-quiet.false (line, (counted.cells, counted.listing, is), c.in_ok-write_report_line.ensures.written)
