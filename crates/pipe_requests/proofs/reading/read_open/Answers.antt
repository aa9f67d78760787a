use Rattle.std.proofs.Common.{◌≡◌, Err}
use Rattle.std.proofs.result.Match.{err_is}
use Rattle.pipe_requests.specs.declared.name.Name.TheVariants as name
use Rattle.pipe_requests.proofs.AskLemmas.{bad_number, bad_words, no_length, no_word, rule_words, too_many}
use Rattle.pipe_requests.proofs.reading.read_open.Goals as goal

pub returns-in_err-word-clause-err : goal.returns-in_err-word-clause-err
returns-in_err-word-clause-err c =
    let is : c.from_residual.result ≡ Err c.in_err-word.field-0.0 = err_is _ _ c.from_residual.ensures.1 in
    rw is (bad_words name.Open _ _ c.in_err-word.ensures.err.0 (no_word _ c.in_err-word.ensures.err.1))

pub returns-in_err-rule-clause-err : goal.returns-in_err-rule-clause-err
returns-in_err-rule-clause-err c =
    let is : c.from_residual-in_err-rule.result ≡ Err c.in_err-rule.field-0.0 = err_is _ _ c.from_residual-in_err-rule.ensures.1 in
    rw is (bad_words name.Open _ _ c.in_err-rule.ensures.err.0 (too_many _ _ _ c.in_ok-word.ensures.ok c.in_err-rule.ensures.err.1))

pub returns-in_err-length-clause-err : goal.returns-in_err-length-clause-err
returns-in_err-length-clause-err c =
    let is : c.from_residual-in_err-length.result ≡ Err c.in_err-length.field-0.0 = err_is _ _ c.from_residual-in_err-length.ensures.1 in
    let words = c.in_ok-word.ensures.ok in
    rw is (bad_number name.Open _ _ c.in_err-length.ensures.err.0
    (rule_words _ _ _ words _ c.in_ok-rule.ensures.ok) (λ other. cc)
    (no_length _ _ _ words c.in_err-length.ensures.err.1))
