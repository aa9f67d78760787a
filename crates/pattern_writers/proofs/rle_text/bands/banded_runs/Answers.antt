use Rattle.std.proofs.Common.{ℕ, ◌+◌, ◌<◌, ◌∙◌, Vec, Global, subst, IfOk}
use Rattle.std.specs.List.{AllZip, range_with_len}
use Rattle.rayon.specs.Numbers.{nat_range}
use Rattle.rayon.proofs.ListFacts.{IfOk-then}
use Rattle.rayon.proofs.ToStd.{nat_range-All}
use Rattle.plane.specs.Centred.{centred}
use Rattle.pattern_writers.specs.Frame.{band_row}
use Rattle.pattern_writers.specs.RleText.{HasRuns}
use Rattle.pattern_writers.specs.RowRuns.{rows_between}
use Rattle.pattern_writers.specs.declared.rle_text.row_run.RowRun.{RowRun}
use Rattle.pattern_writers.proofs.BandsDown.{all_bands, collected}
use Rattle.pattern_writers.proofs.rle_text.bands.banded_runs.Goals as goal

pub collect-requires-clause-ready : goal.collect-requires-clause-ready
collect-requires-clause-ready g c κs within =
    let ends = c.into_par_iter.ensures in
    let inside = nat_range-All (λ i. i < 64) 0 64 (λ i low high. high) in
    rw (c.map.ensures.base, c.map.ensures.f, c.with_min_len.ensures.base, ends.0, ends.1) (λ k d lt. ((inside k d lt, (c.requires.known, (c.requires.level, c.requires.room))), λ y p. tt))

pub returns : goal.returns
returns g c =
    let ends = c.into_par_iter.ensures in
    let book = g.B.Look.book c.args.book.now in
    let plane = centred c.args.sq.level (book.cells c.args.sq) in
    let IsBand : ℕ → Vec RowRun Global → Type 0 = λ band runs. HasRuns (rows_between (band_row c.args.frame band) (band_row c.args.frame (band + 1)) plane) runs.items in
    let h = c.in_ok-collect.ensures in
    let chain = rw (c.map.ensures.base, c.map.ensures.f, c.with_min_len.ensures.base) at h.1 in
    let places = chain.1 ∙ (λ i. nat_range (ends.0 i) (ends.1 i)) in
    let each = collected IsBand (λ v. v.items) c.in_ok-collect.field-0 (range_with_len 0 64) h.0 _ (subst (λ ns. AllZip (λ i y. IfOk y (IsBand i)) ns h.0) places chain.2) h.2 in
    IfOk-then c.in_ok-collect.field-0 _ _ each (λ bands every. all_bands plane c.args.frame bands.items c.requires.frame every)
