use Rattle.std.proofs.Common.{sym, ◌∙◌, ap}
use Rattle.plane.proofs.Uniqueness.{one_listing_lem}
use Rattle.pattern_writers.specs.RleText.{rle_text}
use Rattle.pattern_writers.proofs.laws.same_text.Goals as goal

pub returns : goal.returns
returns c = λ comments rule generation plane other cells others same listing also.
    ap (rle_text comments rule generation)
    (one_listing_lem plane cells others listing (record { rising = also.rising; live = λ x y. also.live x y ∙ sym (same x y) }))
