use Rattle.std.proofs.Common.{rules}
use Rattle.rule_text.specs.CountRule.{IsRule}
use Rattle.plane.proofs.Same.{same_sym}
use Rattle.universe.specs.Cells.{live_cells, rule_of}
use Rattle.universe.proofs.InRange.{keeps_held, keeps_same, keeps_short}
use Rattle.worked_tables.proofs.tests.universes.in_range.Goals as goal

pub returns-clause-held : goal.returns-clause-held
returns-clause-held c =
    let here = c.judge_range.new.self in
    let rule : IsRule (rule_of here) = search rules in
    let keeps = keeps_same (live_cells c.args.universe) (live_cells here) 0 c.args.generations (same_sym c.judge_range.ensures.same.cells) c.in_ok-judge_range.ensures.ok in
    keeps_held (rule_of here) rule (live_cells here) 0 c.args.generations keeps

pub returns-clause-short : goal.returns-clause-short
returns-clause-short c =
    let here = c.judge_range.new.self in
    let keeps = keeps_same (live_cells c.args.universe) (live_cells here) 0 c.args.generations (same_sym c.judge_range.ensures.same.cells) c.in_ok-judge_range.ensures.ok in
    keeps_short (live_cells here) 0 c.args.generations keeps
