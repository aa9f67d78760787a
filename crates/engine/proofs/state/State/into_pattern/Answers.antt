use Rattle.engine.proofs.Sessions.{without_other_tables}
use Rattle.engine.proofs.state.State.into_pattern.Goals as goal

pub returns-in-AtRest-clause-ok : goal.returns-in-AtRest-clause-ok
returns-in-AtRest-clause-ok c =
    without_other_tables c.args.self c.in-AtRest.pattern c.without_other_tables-in-AtRest.result c.in-AtRest.is
    c.without_other_tables-in-AtRest.ensures.cells c.without_other_tables-in-AtRest.ensures.rule c.without_other_tables-in-AtRest.ensures.limit
