use Rattle.std.proofs.Common.{Err}
use Rattle.clap.specs.Words.{app_of}
use Rattle.clap.specs.declared.parser.matches.ArgMatches.{ArgMatches}
use Rattle.program_parts.specs.Texts.{texts_of}
use Rattle.program_parts.proofs.AskedWords.{fails_by, matches_by, told_by}
use Rattle.program_parts.proofs.entry.read_words.Goals as goal

pub returns-clause-asks : goal.returns-clause-asks
returns-clause-asks g c =
    let words = texts_of c.args.words.now in
    let line = g.A.Application.behaviour.line in
    c.asked_by.ensures.asks words (matches_by line.form (app_of c.in_ok-command.field-0) words c.in_ok-matches.matches g.met.A.Application.form_is_free c.in_ok-command.ensures
    c.in_ok-matches.ensures.matches c.in_ok-matches.ensures.kinds)

pub returns-clause-faults : goal.returns-clause-faults
returns-clause-faults g c =
    let words = texts_of c.args.words.now in
    let line = g.A.Application.behaviour.line in
    c.asked_by.ensures.faults words (matches_by line.form (app_of c.in_ok-command.field-0) words c.in_ok-matches.matches g.met.A.Application.form_is_free c.in_ok-command.ensures
    c.in_ok-matches.ensures.matches c.in_ok-matches.ensures.kinds)

pub returns-in_err-matches-clause-faults : goal.returns-in_err-matches-clause-faults
returns-in_err-matches-clause-faults g c =
    let words = texts_of c.args.words.now in
    let line = g.A.Application.behaviour.line in
    let fails = fails_by {T = ArgMatches} line.form (app_of c.in_ok-command.field-0) words (Err c.in_err-matches.field-0.0) g.met.A.Application.form_is_free c.in_ok-command.ensures c.in_err-matches.ensures.kinds in
    told_by line words c.in_err-matches.field-0.0 c.from_residual-in_err-matches.result fails c.from_residual-in_err-matches.ensures.1
