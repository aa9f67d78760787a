use Rattle.std.proofs.Common.{arith, refl, sym, subst, ◌∙◌}
use Rattle.std.specs.Prelude.{IfSome}
use Rattle.std.proofs.lemmas.Bool.{false≢true}
use Rattle.std.proofs.lemmas.Option.{slice_get-get_or, slice_get_past}
use Rattle.squares.specs.Strips.{EndsBefore}
use Rattle.squares.specs.declared.spans.Span.{Span}
use Rattle.squares.proofs.SpanOrder.{one_passed}
use Rattle.squares.proofs.leaf_rows.pass_spans.Goals as goal

pub loop-at-preserved : goal.loop-at-preserved
loop-at-preserved c = record {
  within = omega (arith, c.loop-at-test.true);
  passed = one_passed c.args.spans.now c.loop-at.at c.args.row c.args.left _ _ c.loop-at-test.true refl (c.ends_before.ensures.0 c.if-ends_before.true) c.loop-at.invariant.passed;
}

pub returns-else-ends_before-clause-next : goal.returns-else-ends_before-clause-next
returns-else-ends_before-clause-next c = subst (λ found. IfSome found (λ (span : Span). ¬ EndsBefore c.args.row c.args.left span)) (sym (slice_get-get_or c.args.spans.now c.loop-at.at _ c.loop-at-test.true))
    (λ ends. false≢true (sym c.if-ends_before.false ∙ c.ends_before.ensures.1 ends))

pub returns-after-loop-at-clause-next : goal.returns-after-loop-at-clause-next
returns-after-loop-at-clause-next c = subst (λ found. IfSome found (λ (span : Span). ¬ EndsBefore c.args.row c.args.left span)) (sym (slice_get_past c.args.spans.now c.loop-at.at (let past = c.loop-at-test.false in omega arith))) tt
