use Rattle.viewport.proofs.block_spans.+count_span.Given as goal

abbrev pub decreases-count_span : goal.decreases-count_span
decreases-count_span g l = l.sq.level
