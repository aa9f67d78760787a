use Rattle.std.proofs.Common.{◌∙◌, Err, ap, sym, inl, inr, ⊎_elim}
use Rattle.std.proofs.lemmas.Result.{err_from_is_err_and}
use Rattle.plane.specs.declared.fault.Fault.{Fault}
use Rattle.text_lines.specs.Lines.{lines_from}
use Rattle.macrocell_reader.specs.Seen.{said_seen}
use Rattle.macrocell_reader.proofs.MeaningLemmas.{body-is, judged-no_pattern, judged-fault_of, judged-accepted_of}
use Rattle.macrocell_reader.proofs.mc_file.McFile.open.Goals as goal

pub returns-then-not-begins_with-clause-refused : goal.returns-then-not-begins_with-clause-refused
returns-then-not-begins_with-clause-refused c =
    inl (judged-no_pattern c.args.source.now (sym c.begins_with.ensures ∙ c.if-not-begins_with.true) ∙ ap (λ (f : Fault). Err f) (sym c.fault_at.ensures))

pub returns-in_err-settings-clause-refused : goal.returns-in_err-settings-clause-refused
returns-in_err-settings-clause-refused c =
    let source = c.args.source.now in
    let body = lines_from c.next_line-first.new.self.source.now c.next_line-first.new.self.at in
    let body_is = body-is c.next_line-first.result (λ line. record { place = line.place; text = line.text.now }) _ source c.new-body.result.source.now c.next_line-first.new.self.source.now
    c.new-body.result.at c.next_line-first.new.self.at c.new-body.ensures.source c.new-body.ensures.start c.next_line-first.ensures.source c.next_line-first.ensures.place c.next_line-first.ensures.line in
    let p = err_from_is_err_and c.from_residual.result c.from_residual.ensures.1 in
    rw (p.1, p.2) (⊎_elim
    (λ found. inl (judged-fault_of source body (sym c.begins_with.ensures ∙ c.if-not-begins_with.false) body_is c.in_err-settings.field-0.0 found))
    (λ memory. inr memory) c.in_err-settings.ensures.refused)

pub returns-clause-accepted : goal.returns-clause-accepted
returns-clause-accepted c =
    let source = c.args.source.now in
    let body = lines_from c.next_line-first.new.self.source.now c.next_line-first.new.self.at in
    let body_is = body-is c.next_line-first.result (λ line. record { place = line.place; text = line.text.now }) _ source c.new-body.result.source.now c.next_line-first.new.self.source.now
    c.new-body.result.at c.next_line-first.new.self.at c.new-body.ensures.source c.new-body.ensures.start c.next_line-first.ensures.source c.next_line-first.ensures.place c.next_line-first.ensures.line in
    judged-accepted_of source body (sym c.begins_with.ensures ∙ c.if-not-begins_with.false) body_is (said_seen c.in_ok-settings.settings)
    c.in_ok-settings.ensures.accepted.0 c.in_ok-settings.ensures.accepted.1
