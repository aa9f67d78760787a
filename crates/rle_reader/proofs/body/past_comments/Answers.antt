use Rattle.std.proofs.Common.{◌≡◌, ◌≤◌, ◌+◌, ◌==◌, false, true, get_or, length, length-drop, min, sym, ap, subst, ◌∙◌, arith}
use Rattle.std.specs.List.{position_or_len}
use Rattle.std.proofs.lemmas.Bool.Decides.{nat_tests}
use Rattle.std.proofs.lemmas.List.{take_rest}
use Rattle.text_lines.specs.Lines.{is_line_feed}
use Rattle.rle_reader.proofs.BodyLemmas.{stripped_from-begun, stripped_from-comment, stripped_from-end}
use Rattle.rle_reader.proofs.body.past_comments.Goals as goal

pub loop-place-preserved : goal.loop-place-preserved
loop-place-preserved c =
    let source = c.args.source.now in
    let place = c.loop-place.place in
    let n = c.line_length.result in
    let rest_is = take_rest source place in
    let step = c.min-place.ensures ∙ ap (λ rest. min (n + 1) (length rest)) rest_is in (
      omega (arith, c.loop-place.invariant.0),
      omega (arith, length-drop place source, step, c.loop-place-test.true),
      sym (stripped_from-comment source place c.loop-place-test.true n c.min-place.result c.if-source-place-eq35.true
          (c.line_length.ensures.value ∙ ap (position_or_len is_line_feed) rest_is)
          (subst (λ rest. n ≤ length rest) rest_is c.line_length.ensures.within)
          step) ∙ c.loop-place.invariant.2,
    )

pub returns-else-source-place-eq35-clause-bytes : goal.returns-else-source-place-eq35-clause-bytes
returns-else-source-place-eq35-clause-bytes c =
    let source = c.args.source.now in
    let place = c.loop-place.place in
    let other : (get_or source place 0 == 35) ≡ false = grind (arith, nat_tests, c.if-source-place-eq35.false) in
    stripped_from-begun source place c.loop-place-test.true other ∙ c.loop-place.invariant.2

pub returns-after-loop-place-clause-bytes : goal.returns-after-loop-place-clause-bytes
returns-after-loop-place-clause-bytes c =
    let source = c.args.source.now in
    let place = c.loop-place.place in
    stripped_from-end source place false c.loop-place-test.false
    ∙ sym (stripped_from-end source place true c.loop-place-test.false) ∙ c.loop-place.invariant.2
