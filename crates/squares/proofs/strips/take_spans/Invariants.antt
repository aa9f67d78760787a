use Rattle.std.proofs.Common.{◌≡◌, ◌<◌, ◌++◌, [], None, length}
use Rattle.std.specs.List.{AllByRecursion}
use Rattle.squares.specs.Spans.{FitsInRoot}
use Rattle.squares.specs.Strips.{spans_left}
use Rattle.squares.specs.declared.spans.Span.{Span}
use Rattle.squares.proofs.strips.take_spans.Given as goal

-- the spans so far and what is left are all
abbrev pub invariant-loop-strips : goal.invariant-loop-strips
invariant-loop-strips g l = record {
  half : l.strips.half ≡ l.initial.strips.half;
  fit : AllByRecursion (FitsInRoot l.strips.half) (g.R.RunSequence.left l.strips.runs);
  ended : l.strips.next ≡ None → g.R.RunSequence.left l.strips.runs ≡ [];
  whole : spans_left l.initial.strips.half l.initial.strips.next (g.R.RunSequence.left l.initial.strips.runs) ≡ l.spans.items ++ spans_left l.strips.half l.strips.next (g.R.RunSequence.left l.strips.runs);
  above : AllByRecursion (λ (span : Span). span.row < l.bottom) l.spans.items;
}

abbrev pub decreases-loop-strips : goal.decreases-loop-strips
decreases-loop-strips g l = length (spans_left l.strips.half l.strips.next (g.R.RunSequence.left l.strips.runs))
