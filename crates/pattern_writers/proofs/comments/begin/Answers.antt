use Rattle.std.proofs.Common.{[], ◌++◌, ap, sym, append-nil}
use Rattle.std.proofs.lemmas.Result.{on_err_weaker, on_ok_weaker}
use Rattle.pattern_writers.specs.RleText.{comment_lines}
use Rattle.pattern_writers.proofs.BlocksOut.{broken_off, buffered_more, first_broken_off, on_err}
use Rattle.pattern_writers.proofs.comments.begin.Goals as goal

pub returns-clause-written : goal.returns-clause-written
returns-clause-written g c =
    on_ok_weaker c.write_comments.result (λ wrote. buffered_more c.in_ok-put.ensures.written wrote) c.write_comments.ensures.written

pub returns-clause-beginning : goal.returns-clause-beginning
returns-clause-beginning g c =
    let lines = comment_lines c.args.comments in
    on_err_weaker c.write_comments.result (λ begun. broken_off _ [] (c.args.preamble.now ++ lines) c.in_ok-put.ensures.written begun (ap (λ l. c.args.preamble.now ++ l) (sym (append-nil lines)))) c.write_comments.ensures.beginning

pub returns-in_err-put-clause-beginning : goal.returns-in_err-put-clause-beginning
returns-in_err-put-clause-beginning g c =
    on_err c.from_residual.result (first_broken_off _ c.args.preamble.now (comment_lines c.args.comments) c.in_err-put.ensures.beginning)
