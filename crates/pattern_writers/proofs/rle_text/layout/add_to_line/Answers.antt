use Rattle.std.proofs.Common.{◌≡◌, ◌+◌, ◌<◌, ◌≤◌, [], ◌++◌, Err, arith, codes, length, ap, refl, sym, subst, ◌∙◌, length-append}
use Rattle.std.proofs.result.Match.{err_is}
use Rattle.pattern_writers.proofs.BlocksOut.{buffered_none, passed_on}
use Rattle.pattern_writers.proofs.BodyText.{LaysOut-off, LaysOut-on}
use Rattle.pattern_writers.proofs.rle_text.layout.add_to_line.Goals as goal
use Rattle.pattern_writers.proofs.rle_text.layout.add_to_line.Goals.{then-len-piece-gt-LINE_LENGTH+in_ok-end_line, else-len-piece-gt-LINE_LENGTH}

pub returns-clause-line : goal.returns-clause-line
returns-clause-line g c =
    let line = c.args.line.now.bytes in
    let piece = c.args.piece.now in
    elim c.if-len-piece-gt-LINE_LENGTH.branch [
      | then-len-piece-gt-LINE_LENGTH+in_ok-end_line w ↦
          let next : c.push_str.new.self.bytes ≡ piece = c.push_str.ensures.bytes ∙ ap (λ l. l.bytes ++ piece) w.line-is ∙ ap (λ l. l ++ piece) w.in_ok-end_line.ensures.emptied in
          subst (λ l. length l ≤ 70) (sym next) c.requires.piece
      | else-len-piece-gt-LINE_LENGTH w ↦
          let next : c.push_str.new.self.bytes ≡ line ++ piece = c.push_str.ensures.bytes ∙ ap (λ l. l.bytes ++ piece) w.line-is in
          let fits : length line + length piece ≤ 70 = omega (arith, c.len.ensures.value, w.if-len-piece-gt-LINE_LENGTH.false) in
          subst (λ n. n ≤ 70) (sym (ap length next ∙ length-append line piece)) fits
    ]

pub returns-clause-laid : goal.returns-clause-laid
returns-clause-laid g c =
    let line = c.args.line.now.bytes in
    let piece = c.args.piece.now in
    elim c.if-len-piece-gt-LINE_LENGTH.branch [
      | then-len-piece-gt-LINE_LENGTH+in_ok-end_line w ↦
          let next : c.push_str.new.self.bytes ≡ piece = c.push_str.ensures.bytes ∙ ap (λ l. l.bytes ++ piece) w.line-is ∙ ap (λ l. l ++ piece) w.in_ok-end_line.ensures.emptied in
          let long : 70 < length line + length piece = subst (λ n. 70 < n + length piece) c.len.ensures.value w.if-len-piece-gt-LINE_LENGTH.true in
          (line ++ codes "\n", rw (w.file-is, w.block-is) w.in_ok-end_line.ensures.written, LaysOut-off line piece _ long next)
      | else-len-piece-gt-LINE_LENGTH w ↦
          let next : c.push_str.new.self.bytes ≡ line ++ piece = c.push_str.ensures.bytes ∙ ap (λ l. l.bytes ++ piece) w.line-is in
          let fits : length line + length piece ≤ 70 = subst (λ n. n + length piece ≤ 70) c.len.ensures.value w.if-len-piece-gt-LINE_LENGTH.false in
          ([], rw (w.file-is, w.block-is) (buffered_none (g.V.Sink.taken c.args.file.now) c.args.block.now.items), LaysOut-on line piece _ fits next)
    ]

pub returns-in_err-end_line-clause-failure : goal.returns-in_err-end_line-clause-failure
returns-in_err-end_line-clause-failure g c =
    passed_on _ _ _ c.in_err-end_line.field-0.0 _ refl c.from_residual.ensures.0 c.from_residual.ensures.1 c.in_err-end_line.ensures.failure

pub returns-in_err-end_line-clause-beginning : goal.returns-in_err-end_line-clause-beginning
returns-in_err-end_line-clause-beginning g c =
    let line = c.args.line.now.bytes in
    let piece = c.args.piece.now in
    let long : 70 < length line + length piece = subst (λ n. 70 < n + length piece) c.len.ensures.value c.if-len-piece-gt-LINE_LENGTH.true in
    let is : c.from_residual.result ≡ Err c.in_err-end_line.field-0.0 = err_is _ _ c.from_residual.ensures.1 in
    rw is (line ++ codes "\n", c.in_err-end_line.ensures.beginning, LaysOut-off line piece piece long refl)
