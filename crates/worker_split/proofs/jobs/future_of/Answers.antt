use Rattle.worker_split.proofs.Books.{found_future, refuses_full, tallied}
use Rattle.worker_split.proofs.jobs.future_of.Goals as goal

pub returns-clause-ok : goal.returns-clause-ok
returns-clause-ok c = found_future c.future_in_order.result c.future_in_order.ensures

pub returns-clause-refusal : goal.returns-clause-refusal
returns-clause-refusal c = refuses_full c.future_in_order.new.book c.future_in_order.result c.future_in_order.ensures.refusal

pub returns-clause-continues : goal.returns-clause-continues
returns-clause-continues c = tallied c.future_in_order.ensures.makes.keeps c.future_in_order.ensures.makes.tally
