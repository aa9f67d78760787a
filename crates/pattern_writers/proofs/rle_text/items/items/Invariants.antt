use Rattle.std.proofs.Common.{◌≡◌, ◌++◌, drop, flat_map, Vec, Global}
use Rattle.pattern_writers.specs.Items.{items_of}
use Rattle.pattern_writers.specs.declared.rle_text.row_run.RowRun.{RowRun}
use Rattle.pattern_writers.proofs.rle_text.items.items.Given as goal

abbrev pub invariant-loop-band : goal.invariant-loop-band
invariant-loop-band l =
    items_of l.corner.x l.corner (flat_map (λ (band : Vec RowRun Global). band.items) l.bands)
    ≡ l.items.items ++ items_of l.corner.x l.next (flat_map (λ (band : Vec RowRun Global). band.items) (drop l.band-index l.bands))
