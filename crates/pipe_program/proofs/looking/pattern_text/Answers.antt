use Rattle.std.proofs.Common.{Some, refl, sym, subst, inr}
use Rattle.engine.specs.Formats.{FileFormat, format_of}
use Rattle.engine.specs.declared.options.Format.{Format}
use Rattle.pipe_requests.specs.declared.request.TextFormat.{TextFormat}
use Rattle.pipe_program.specs.Answers.{file_format}
use Rattle.pipe_program.proofs.ShownPatterns.{exceeding}
use Rattle.pipe_program.proofs.looking.pattern_text.Goals.{in-Rle, in-Macrocell}
use Rattle.pipe_program.proofs.looking.pattern_text.Goals as goal

pub returns-in-Err-BoxTooLarge-clause-refused : goal.returns-in-Err-BoxTooLarge-clause-refused
returns-in-Err-BoxTooLarge-clause-refused g c =
    let read : (P : FileFormat → Type 0) → P (format_of (Some c.match-format.format)) → P (file_format c.args.format) = λ P p.
    elim c.match-format.branch [
      | in-Rle w ↦ subst (λ (f : TextFormat). P (file_format f)) (sym w.in-Rle.is) (subst (λ (f : Format). P (format_of (Some f))) w.format-is p)
      | in-Macrocell w ↦ subst (λ (f : TextFormat). P (file_format f)) (sym w.in-Macrocell.is) (subst (λ (f : Format). P (format_of (Some f))) w.format-is p)
    ] in
    let both = exceeding c.args.format (Some c.match-format.format) c.args.session.now c.write.new.self read c.write.ensures.same (rw c.in-Err-BoxTooLarge.field-0-is at c.in-Err-BoxTooLarge.ensures.refused) in
    inr (refl, both.0, both.1)
