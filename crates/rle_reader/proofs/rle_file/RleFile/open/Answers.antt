use Rattle.std.proofs.lemmas.Result.{err_from_is_err_and}
use Rattle.rle_reader.proofs.MeaningLemmas.{judged-preamble_fault, judged-body_fault, judged-accepted}
use Rattle.rle_reader.proofs.PositionLemmas.{read-in_range}
use Rattle.rle_reader.proofs.ReachLemmas.{reach_accepted}
use Rattle.rle_reader.proofs.rle_file.RleFile.open.Goals as goal

pub returns-in_err-preamble : goal.returns-in_err-preamble
returns-in_err-preamble c =
    let p = err_from_is_err_and c.from_residual.result c.from_residual.ensures.1 in
    rw (p.1, p.2) (judged-preamble_fault c.args.source.now c.in_err-preamble.field-0.0 c.in_err-preamble.ensures.preamble)

pub returns-in_err-reach : goal.returns-in_err-reach
returns-in_err-reach c =
    let p = err_from_is_err_and c.from_residual-in_err-reach.result c.from_residual-in_err-reach.ensures.1 in
    rw (p.1, p.2) (judged-body_fault c.args.source.now c.in_ok-preamble.preamble c.in_ok-preamble.ensures.preamble c.in_err-reach.field-0.0 c.in_err-reach.ensures.err)

pub returns : goal.returns
returns c = judged-accepted c.args.source.now c.in_ok-preamble.preamble c.in_ok-preamble.ensures.preamble c.in_ok-reach.ensures.ok

pub check_body-requires-clause-in_range : goal.check_body-requires-clause-in_range
check_body-requires-clause-in_range c = read-in_range c.args.source.now c.in_ok-preamble.preamble c.in_ok-preamble.ensures.preamble

pub invariant_of-result : goal.invariant_of-result
invariant_of-result c =
    let preamble = c.in_ok-preamble.preamble in (
      c.in_ok-preamble.ensures.body,
      read-in_range c.args.source.now preamble c.in_ok-preamble.ensures.preamble,
      c.in_ok-reach.ensures.ok,
      c.in_ok-preamble.ensures.preamble,
      c.in_ok-reach.ensures.bound,
      reach_accepted c.args.source.now preamble c.in_ok-reach.reach (read-in_range c.args.source.now preamble c.in_ok-preamble.ensures.preamble)
          c.in_ok-reach.ensures.ok c.in_ok-reach.ensures.reach,
    )
