use Rattle.std.proofs.Common.{◌≤◌, ◌^◌, inl, inr, subst, sym}
use Rattle.std.specs.List.{AllByRecursion}
use Rattle.squares.specs.Strips.{AreInOrder, spans_left}
use Rattle.squares.specs.declared.spans.Span.{Span}
use Rattle.squares.proofs.StripLaws.{left_below, order_after}
use Rattle.squares.proofs.strips.take_spans.Given.{Over}
use Rattle.squares.proofs.strips.take_spans.Goals.{Joined-strips, in-Some+then-span-bottom, in_default}
use Rattle.squares.proofs.strips.take_spans.Goals as goal

order : (g : Over) (c : Joined-strips g) → AreInOrder (spans_left c.loop-strips.strips.half c.loop-strips.strips.next (g.R.RunSequence.left c.loop-strips.strips.runs))
order g c = order_after c.loop-strips.spans.items _ (subst AreInOrder c.loop-strips.invariant.whole c.requires.left.order)

below : (g : Over) (c : Joined-strips g) → AllByRecursion (λ (span : Span). c.args.bottom ≤ span.row) (spans_left c.loop-strips.strips.half c.loop-strips.strips.next (g.R.RunSequence.left c.loop-strips.strips.runs))
below g c = left_below c.loop-strips.strips.half c.args.bottom c.loop-strips.strips.next (g.R.RunSequence.left c.loop-strips.strips.runs) c.loop-strips.invariant.ended (order g c)
    (elim c.match-strips.branch [
      | in-Some+then-span-bottom w ↦ inr (w.in-Some.span, w.in-Some.is, w.if-span-bottom.true)
      | in_default w ↦ inl w.in_default.is
    ])

pub returns-clause-left : goal.returns-clause-left
returns-clause-left g c = record {
  bound = subst (λ n. n ≤ 2 ^ 62) (sym c.loop-strips.invariant.half) c.requires.left.bound;
  fit = c.loop-strips.invariant.fit;
  ended = c.loop-strips.invariant.ended;
  order = order g c;
  rows = below g c;
}

pub returns-clause-taken : goal.returns-clause-taken
returns-clause-taken g c = record { whole = c.loop-strips.invariant.whole; above = c.loop-strips.invariant.above; below = below g c }
