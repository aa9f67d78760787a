use Rattle.squares.proofs.NumberMaps.{inserted, refused}
use Rattle.squares.proofs.Pushed.{popped}
use Rattle.plane.proofs.SentErrors.{sent_on}
use Rattle.squares.proofs.plain_book.add_node.Goals as goal

pub returns-then-is_err-clause-err : goal.returns-then-is_err-clause-err
returns-then-is_err-clause-err g c =
    popped c.args.records.now.items _ c.push_node.new.records.items c.pop.new.self.items _ _ c.in_ok-num.ensures.ok c.in_ok-num.ensures.number c.in_ok-num.ensures.len c.pop.ensures.rest

pub returns-then-is_err-clause-same : goal.returns-then-is_err-clause-same
returns-then-is_err-clause-same g c = refused c.insert.result c.if-is_err.ensures.value c.insert.ensures.err

pub returns-clause-noted : goal.returns-clause-noted
returns-clause-noted g c = inserted c.insert.result c.if-is_err.ensures.value c.insert.ensures.updates

pub returns-in_err-num-clause-err : goal.returns-in_err-num-clause-err
returns-in_err-num-clause-err g c = sent_on _ c.from_residual.result c.in_err-num.field-0.0 c.from_residual.ensures.1 c.in_err-num.ensures.err
