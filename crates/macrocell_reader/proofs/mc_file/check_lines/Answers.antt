use Rattle.std.proofs.Common.{◌∙◌, Some, ap, sym, inl, inr, ⊎_elim}
use Rattle.std.proofs.lemmas.Result.{err_from_is_err_and}
use Rattle.plane.specs.declared.fault.Fault.{Fault}
use Rattle.text_lines.specs.Lines.{Line, lines_from}
use Rattle.text_lines.proofs.LineLemmas.{lines_of_source, no_lines_of_source}
use Rattle.macrocell_reader.specs.Meaning.{first_fault}
use Rattle.macrocell_reader.specs.Seen.{said_seen}
use Rattle.macrocell_reader.specs.Settings.{Said, after_lines}
use Rattle.macrocell_reader.proofs.MeaningLemmas.{first_fault-nil, first_fault-said, first_fault-node, first_fault-next}
use Rattle.macrocell_reader.proofs.mc_file.check_lines.Goals as goal

pub returns-in_err-read_line-clause-refused : goal.returns-in_err-read_line-clause-refused
returns-in_err-read_line-clause-refused c =
    let source = c.args.body.source.now in
    let levels = c.loop-line.levels.items in
    let line : Line = record { place = c.in-Some.line.place; text = c.in-Some.line.text.now } in
    let rest = lines_from source c.next_line.new.self.at in
    let left = lines_of_source source _ _ c.loop-line.lines.at c.next_line.new.self.at line c.loop-line.invariant.source c.in-Some.ensures.source c.in-Some.ensures.line in
    let found = c.in_err-read_line.ensures.fault in
    let p = err_from_is_err_and c.from_residual.result c.from_residual.ensures.1 in
    rw (p.1, p.2) (inl (sym c.loop-line.invariant.fault ∙ ap (first_fault levels) left
    ∙ first_fault-said levels line rest found.0 found.1 ∙ ap (λ (f : Fault). Some f) (sym found.2)))

pub loop-line-preserved : goal.loop-line-preserved
loop-line-preserved c =
    let source = c.args.body.source.now in
    let levels = c.loop-line.levels.items in
    let line : Line = record { place = c.in-Some.line.place; text = c.in-Some.line.text.now } in
    let rest = lines_from source c.next_line.new.self.at in
    let left = lines_of_source source _ _ c.loop-line.lines.at c.next_line.new.self.at line c.loop-line.invariant.source c.in-Some.ensures.source c.in-Some.ensures.line in
    record {
      source = c.in-Some.ensures.source ∙ c.loop-line.invariant.source;
      fault = ap (λ l. first_fault l rest) c.in_ok-add_level.ensures.accepted.1
          ∙ sym (first_fault-next levels line rest c.in_ok-read_line.ensures.accepted c.in_ok-add_level.ensures.accepted.0)
          ∙ ap (first_fault levels) (sym left) ∙ c.loop-line.invariant.fault;
      said = ap (λ (s : Said). after_lines s rest) c.in_ok-read_line.ensures.settings
          ∙ ap (after_lines (said_seen c.loop-line.settings)) (sym left) ∙ c.loop-line.invariant.said;
    }

pub returns-in_err-add_level-clause-refused : goal.returns-in_err-add_level-clause-refused
returns-in_err-add_level-clause-refused c =
    let source = c.args.body.source.now in
    let levels = c.loop-line.levels.items in
    let line : Line = record { place = c.in-Some.line.place; text = c.in-Some.line.text.now } in
    let rest = lines_from source c.next_line.new.self.at in
    let left = lines_of_source source _ _ c.loop-line.lines.at c.next_line.new.self.at line c.loop-line.invariant.source c.in-Some.ensures.source c.in-Some.ensures.line in
    let p = err_from_is_err_and c.from_residual-in_err-add_level.result c.from_residual-in_err-add_level.ensures.1 in
    rw (p.1, p.2) (⊎_elim
    (λ found. inl (sym c.loop-line.invariant.fault ∙ ap (first_fault levels) left
    ∙ first_fault-node levels line rest c.in_ok-read_line.ensures.accepted found.0 found.1 ∙ ap (λ (f : Fault). Some f) (sym found.2)))
    (λ memory. inr memory) c.in_err-add_level.ensures.refused)

pub returns-clause-accepted : goal.returns-clause-accepted
returns-clause-accepted c =
    let source = c.args.body.source.now in
    let levels = c.loop-line.levels.items in
    let left = no_lines_of_source source _ c.loop-line.lines.at c.loop-line.invariant.source c.in_default.ensures.line in (
      sym c.loop-line.invariant.fault ∙ ap (first_fault levels) left ∙ first_fault-nil levels,
      sym (ap (after_lines (said_seen c.loop-line.settings)) left) ∙ c.loop-line.invariant.said,
    )
