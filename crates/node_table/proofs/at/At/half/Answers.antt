use Rattle.std.proofs.lemmas.Result.{IfOk-from_err}
use Rattle.plane.proofs.SentErrors.{sent_on}
use Rattle.node_table.proofs.Refusing.{on_err}
use Rattle.node_table.proofs.TwoHalves.{beside_parts, half_made}
use Rattle.node_table.proofs.at.At.half.Goals as goal

pub pair-requires : goal.pair-requires
pair-requires c = beside_parts c.args.self.now c.requires

pub returns-clause-ok : goal.returns-clause-ok
returns-clause-ok c = half_made c.pair.ensures.learns c.requires c.in_ok-number.ensures.ok

pub returns-in_err-number-clause-ok : goal.returns-in_err-number-clause-ok
returns-in_err-number-clause-ok c = IfOk-from_err c.from_residual.result _ c.from_residual.ensures.0

pub returns-in_err-number-clause-refusal : goal.returns-in_err-number-clause-refusal
returns-in_err-number-clause-refusal c = sent_on _ c.from_residual.result c.in_err-number.field-0.0 c.from_residual.ensures.1 c.in_err-number.ensures.refusal

pub returns-in_err-number-clause-full : goal.returns-in_err-number-clause-full
returns-in_err-number-clause-full c = on_err c.from_residual.result c.in_err-number.ensures.full

pub returns-in_err-number-clause-refused : goal.returns-in_err-number-clause-refused
returns-in_err-number-clause-refused c = λ room. c.from_residual.ensures.0
