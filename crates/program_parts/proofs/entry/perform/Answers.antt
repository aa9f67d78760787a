use Rattle.plane.specs.SinkChange.{change_of}
use Rattle.program_parts.specs.Texts.{texts_of}
use Rattle.program_parts.proofs.WordsFaults.{done_by_words, stopped_by_words}
use Rattle.program_parts.proofs.entry.perform.Goals as goal

pub returns-in-Err-clause-done : goal.returns-in-Err-clause-done
returns-in-Err-clause-done g c =
    let out = change_of g.O.Sink.taken g.O.Sink.failure_count c.args.out.now c.end_of_words.new.out in
    done_by_words g.A.Application.behaviour (texts_of c.args.words.now) c.in-Err.reason c.in-Err.ensures.faults out c.end_of_words.result c.end_of_words.ensures.shown

pub returns-in-Err-clause-stopped : goal.returns-in-Err-clause-stopped
returns-in-Err-clause-stopped g c =
    let words = texts_of c.args.words.now in
    let out = change_of g.O.Sink.taken g.O.Sink.failure_count c.args.out.now c.end_of_words.new.out in
    stopped_by_words g.A.Application.behaviour words c.in-Err.reason c.in-Err.ensures.faults out c.end_of_words.result c.end_of_words.ensures.stopped
