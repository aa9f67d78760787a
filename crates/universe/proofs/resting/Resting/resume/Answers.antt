use Rattle.std.proofs.Common.{subst}
use Rattle.std.specs.Prelude.{IfOk}
use Rattle.node_table.specs.Openings.{SaysAll}
use Rattle.table_core.specs.declared.key.Key.{Key}
use Rattle.universe.specs.Cells.{known_by, rooted_of, shown_by}
use Rattle.universe.specs.Rests.{IsAtRest}
use Rattle.universe.specs.Stills.{IsOpenedAt}
use Rattle.universe.proofs.AtRest.{resumed, resumed_says}
use Rattle.universe.proofs.Halves.{ok_then}
use Rattle.universe.proofs.resting.Resting.resume.Goals as goal

pub returns-clause-same : goal.returns-clause-same
returns-clause-same c =
    let opened = subst (λ (k : Key). IfOk c.open_at.result (IsOpenedAt (rooted_of c.args.self) k.exponent c.args.self.others)) c.key.ensures c.open_at.ensures in
    ok_then _ (λ universe. IsAtRest universe c.args.self) c.open_at.result (λ universe is. resumed c.args.self universe is) opened

pub returns-clause-knows : goal.returns-clause-knows
returns-clause-knows c =
    let opened = subst (λ (k : Key). IfOk c.open_at.result (IsOpenedAt (rooted_of c.args.self) k.exponent c.args.self.others)) c.key.ensures c.open_at.ensures in
    ok_then _ (λ universe. SaysAll (shown_by c.args.self) (known_by universe)) c.open_at.result (λ universe is. resumed_says c.args.self universe is) opened
