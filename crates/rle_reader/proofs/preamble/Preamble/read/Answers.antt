use Rattle.std.proofs.Common.{◌∙◌, sym, ap, length, Err, ◌∷◌}
use Rattle.std.proofs.lemmas.Result.{err_from_is_err_and}
use Rattle.text_lines.specs.Lines.{Line, lines_from}
use Rattle.rle_reader.specs.Preamble.{before_header, with_header}
use Rattle.text_lines.specs.Comments.{comments_of}
use Rattle.rle_reader.specs.Seen.{preamble_result}
use Rattle.rle_reader.proofs.PreambleLemmas.{preamble_on, preamble_on-start, preamble_on-nil, preamble_on-line, preamble_on-fault, preamble_on-header, seen_with_header}
use Rattle.text_lines.proofs.LineLemmas.{lines_of_source, no_lines_of_source}
use Rattle.rle_reader.proofs.preamble.Preamble.read.Goals as goal

pub loop-line-init : goal.loop-line-init
loop-line-init c =
    let source = c.args.source.now in
    let comments = comments_of (before_header (lines_from source 0)) in (
      c.new-lines.ensures.source,
      ap (λ s. preamble_on (length source) comments s (lines_from source c.new-lines.result.at)) c.new-settings.ensures
          ∙ ap (λ at. preamble_on (length source) comments _ (lines_from source at)) c.new-lines.ensures.start
          ∙ preamble_on-start (length source) (lines_from source 0),
    )

pub returns-then-not-stands_before_header-clause-preamble : goal.returns-then-not-stands_before_header-clause-preamble
returns-then-not-stands_before_header-clause-preamble c =
    let source = c.args.source.now in
    let comments = comments_of (before_header (lines_from source 0)) in
    let settings = c.loop-line.settings in
    let at = c.next_line.new.self.at in
    let line : Line = record { place = c.in-Some.line.place; text = c.in-Some.line.text.now } in
    let left = lines_of_source source _ _ c.loop-line.lines.at at line c.loop-line.invariant.0 c.in-Some.ensures.source c.in-Some.ensures.line in
    seen_with_header source (length source) settings line c.place.result c.with_header.result c.with_header.ensures.ok c.with_header.ensures.err
    ∙ ap (λ body. with_header (length source) comments settings (line ∷ lines_from source body)) c.place.ensures.place
    ∙ sym (preamble_on-header (length source) comments settings line (lines_from source at) (sym c.stands_before_header.ensures ∙ c.if-not-stands_before_header.true))
    ∙ ap (preamble_on (length source) comments settings) (sym left)
    ∙ c.loop-line.invariant.1

pub returns-in_err-settings-clause-preamble : goal.returns-in_err-settings-clause-preamble
returns-in_err-settings-clause-preamble c =
    let source = c.args.source.now in
    let comments = comments_of (before_header (lines_from source 0)) in
    let settings = c.loop-line.settings in
    let at = c.next_line.new.self.at in
    let line : Line = record { place = c.in-Some.line.place; text = c.in-Some.line.text.now } in
    let left = lines_of_source source _ _ c.loop-line.lines.at at line c.loop-line.invariant.0 c.in-Some.ensures.source c.in-Some.ensures.line in
    let p = err_from_is_err_and c.from_residual.result c.from_residual.ensures.1 in
    ap (preamble_result source) p.1 ∙ ap Err p.2
    ∙ preamble_on-fault (length source) comments settings line (lines_from source at) c.in_err-settings.field-0.0 (sym c.stands_before_header.ensures ∙ c.if-not-stands_before_header.false) c.in_err-settings.ensures
    ∙ ap (preamble_on (length source) comments settings) (sym left)
    ∙ c.loop-line.invariant.1

pub loop-line-preserved : goal.loop-line-preserved
loop-line-preserved c =
    let source = c.args.source.now in
    let comments = comments_of (before_header (lines_from source 0)) in
    let settings = c.loop-line.settings in
    let at = c.next_line.new.self.at in
    let line : Line = record { place = c.in-Some.line.place; text = c.in-Some.line.text.now } in
    let left = lines_of_source source _ _ c.loop-line.lines.at at line c.loop-line.invariant.0 c.in-Some.ensures.source c.in-Some.ensures.line in (
      c.in-Some.ensures.source ∙ c.loop-line.invariant.0,
      preamble_on-line (length source) comments settings line (lines_from source at) c.in_ok-settings.settings (sym c.stands_before_header.ensures ∙ c.if-not-stands_before_header.false) c.in_ok-settings.ensures
          ∙ ap (preamble_on (length source) comments settings) (sym left)
          ∙ c.loop-line.invariant.1,
    )

pub returns-clause-preamble : goal.returns-clause-preamble
returns-clause-preamble c =
    let source = c.args.source.now in
    let comments = comments_of (before_header (lines_from source 0)) in
    let settings = c.loop-line.settings in
    let left = no_lines_of_source source _ c.loop-line.lines.at c.loop-line.invariant.0 c.in_default.ensures.line in
    ap Err c.fault_at.ensures
    ∙ sym (preamble_on-nil (length source) comments settings)
    ∙ ap (preamble_on (length source) comments settings) (sym left)
    ∙ c.loop-line.invariant.1
