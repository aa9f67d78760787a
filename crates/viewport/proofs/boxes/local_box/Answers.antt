use Rattle.std.proofs.Common.{ℕ, ◌^◌, ◌<◌, pow_mono, arith}
use Rattle.plane.specs.Plane.{Plane}
use Rattle.squares.proofs.Kept.{adds_trans, keeps_trans, known_kept}
use Rattle.viewport.specs.declared.gaps.Side.TheVariants.{Left, Right, Top, Bottom}
use Rattle.viewport.proofs.BoxesOfGaps.{HasGaps, found_gap, near_fits, none_found, read_box}
use Rattle.viewport.proofs.GapsLater.{gap_before}
use Rattle.viewport.proofs.GapsOfHalves.{gap_inside}
use Rattle.viewport.proofs.Quarters.{known_square}
use Rattle.viewport.proofs.boxes.local_box.Given.{Over}
use Rattle.viewport.proofs.boxes.local_box.Goals.{After-side-last}
use Rattle.viewport.proofs.boxes.local_box.Goals as goal

pub side_gap-requires-2-clause-known : goal.side_gap-requires-2-clause-known
side_gap-requires-2-clause-known g c = known_kept c.in_ok-left.ensures.adds.keeps c.requires.known

pub side_gap-requires-3-clause-known : goal.side_gap-requires-3-clause-known
side_gap-requires-3-clause-known g c =
    let keeps = keeps_trans c.in_ok-left.ensures.adds.keeps c.in_ok-right.ensures.adds.keeps in
    known_kept keeps c.requires.known

pub side_gap-requires-4-clause-known : goal.side_gap-requires-4-clause-known
side_gap-requires-4-clause-known g c =
    let k2 = keeps_trans c.in_ok-left.ensures.adds.keeps c.in_ok-right.ensures.adds.keeps in
    known_kept (keeps_trans k2 c.in_ok-top.ensures.adds.keeps) c.requires.known

pub returns-in_err-right-clause-adds : goal.returns-in_err-right-clause-adds
returns-in_err-right-clause-adds g c = adds_trans c.in_ok-left.ensures.adds c.in_err-right.ensures.adds

pub returns-in_err-top-clause-adds : goal.returns-in_err-top-clause-adds
returns-in_err-top-clause-adds g c =
    adds_trans (adds_trans c.in_ok-left.ensures.adds c.in_ok-right.ensures.adds) c.in_err-top.ensures.adds

pub returns-in_err-bottom-clause-adds : goal.returns-in_err-bottom-clause-adds
returns-in_err-bottom-clause-adds g c =
    let a2 = adds_trans c.in_ok-left.ensures.adds c.in_ok-right.ensures.adds in
    adds_trans (adds_trans a2 c.in_ok-top.ensures.adds) c.in_err-bottom.ensures.adds

pub returns-in_default-2-clause-adds : goal.returns-in_default-2-clause-adds
returns-in_default-2-clause-adds g c = adds_trans c.in_ok-left.ensures.adds c.in_ok-right.ensures.adds

pub returns-in_default-3-clause-adds : goal.returns-in_default-3-clause-adds
returns-in_default-3-clause-adds g c =
    adds_trans (adds_trans c.in_ok-left.ensures.adds c.in_ok-right.ensures.adds) c.in_ok-top.ensures.adds

pub returns-in_default-4-clause-adds : goal.returns-in_default-4-clause-adds
returns-in_default-4-clause-adds g c =
    let a2 = adds_trans c.in_ok-left.ensures.adds c.in_ok-right.ensures.adds in
    adds_trans (adds_trans a2 c.in_ok-top.ensures.adds) c.in_ok-bottom.ensures.adds

pub returns-in_default-clause-ok : goal.returns-in_default-clause-ok
returns-in_default-clause-ok g c =
    none_found Left (2 ^ c.args.sq.level) _ _ c.in_default.is c.in_ok-left.ensures.ok

pub returns-in_default-2-clause-ok : goal.returns-in_default-2-clause-ok
returns-in_default-2-clause-ok g c =
    let was = g.R.Reading.book c.args.book.now in
    let sq = c.args.sq in
    let keeps = c.in_ok-left.ensures.adds.keeps in
    none_found Right (2 ^ sq.level) _ _ c.in_default-2.is
    (gap_before Right was _ sq _ keeps c.requires.known.known c.in_ok-right.ensures.ok)

pub returns-in_default-3-clause-ok : goal.returns-in_default-3-clause-ok
returns-in_default-3-clause-ok g c =
    let was = g.R.Reading.book c.args.book.now in
    let sq = c.args.sq in
    let keeps = keeps_trans c.in_ok-left.ensures.adds.keeps c.in_ok-right.ensures.adds.keeps in
    none_found Top (2 ^ sq.level) _ _ c.in_default-3.is
    (gap_before Top was _ sq _ keeps c.requires.known.known c.in_ok-top.ensures.ok)

pub returns-in_default-4-clause-ok : goal.returns-in_default-4-clause-ok
returns-in_default-4-clause-ok g c =
    let was = g.R.Reading.book c.args.book.now in
    let sq = c.args.sq in
    let k2 = keeps_trans c.in_ok-left.ensures.adds.keeps c.in_ok-right.ensures.adds.keeps in
    let keeps = keeps_trans k2 c.in_ok-top.ensures.adds.keeps in
    none_found Bottom (2 ^ sq.level) _ _ c.in_default-4.is
    (gap_before Bottom was _ sq _ keeps c.requires.known.known c.in_ok-bottom.ensures.ok)

pub returns-clause-adds : goal.returns-clause-adds
returns-clause-adds g c =
    let a2 = adds_trans c.in_ok-left.ensures.adds c.in_ok-right.ensures.adds in
    adds_trans (adds_trans a2 c.in_ok-top.ensures.adds) c.in_ok-bottom.ensures.adds

-- the gaps that were found, by what the book knew at first
found : (g : Over) (c : After-side-last g) → HasGaps (2 ^ c.args.sq.level) c.in-Some.left c.in-Some-2.right c.in-Some-3.top c.in-Some-4.bottom ((g.R.Reading.book c.args.book.now).cells c.args.sq)
found g c =
    let was = g.R.Reading.book c.args.book.now in
    let sq = c.args.sq in
    let plane : Plane = was.cells sq in
    let size : ℕ = 2 ^ sq.level in
    let known = c.requires.known.known in
    let k1 = c.in_ok-left.ensures.adds.keeps in
    let k2 = keeps_trans k1 c.in_ok-right.ensures.adds.keeps in
    let k3 = keeps_trans k2 c.in_ok-top.ensures.adds.keeps in
    record {
      square = known_square was sq.level sq (g.met.R.Reading.is_book c.args.book.now) c.requires.known;
      most = pow_mono {i = sq.level} {j = 63} c.requires.level;
      at_left = found_gap Left size c.in-Some.left plane _ c.in-Some.is c.in_ok-left.ensures.ok;
      at_right = found_gap Right size c.in-Some-2.right plane _ c.in-Some-2.is (gap_before Right was _ sq _ k1 known c.in_ok-right.ensures.ok);
      at_top = found_gap Top size c.in-Some-3.top plane _ c.in-Some-3.is (gap_before Top was _ sq _ k2 known c.in_ok-top.ensures.ok);
      at_bottom = found_gap Bottom size c.in-Some-4.bottom plane _ c.in-Some-4.is (gap_before Bottom was _ sq _ k3 known c.in_ok-bottom.ensures.ok);
    }

right_inside : (g : Over) (c : After-side-last g) → c.in-Some-2.right < c.side-last.result
right_inside g c = let h = found g c in rw c.side-last.ensures (gap_inside Right _ _ _ h.square h.at_right)

bottom_inside : (g : Over) (c : After-side-last g) → c.in-Some-4.bottom < c.side-last.result
bottom_inside g c = let h = found g c in rw c.side-last.ensures (gap_inside Bottom _ _ _ h.square h.at_bottom)

pub overflow_cast-result : goal.overflow_cast-result
overflow_cast-result g c = let h = found g c in near_fits _ _ h.most (gap_inside Left _ _ _ h.square h.at_left)

pub overflow_cast-result-2 : goal.overflow_cast-result-2
overflow_cast-result-2 g c = let h = found g c in near_fits _ _ h.most (gap_inside Top _ _ _ h.square h.at_top)

pub overflow_sub-result : goal.overflow_sub-result
overflow_sub-result g c = let h = right_inside g c in omega (arith, h)

pub overflow_sub-result-2 : goal.overflow_sub-result-2
overflow_sub-result-2 g c = let h = bottom_inside g c in omega (arith, h)

pub returns-clause-ok : goal.returns-clause-ok
returns-clause-ok g c =
    rw c.side-last.ensures (read_box _ _ _ _ _ _ (found g (goal.at.returns-clause-ok g c).After-side-last))

pub side_gap-requires : goal.side_gap-requires
side_gap-requires g c = record { known = c.requires.known; level = c.requires.level }

pub returns-in_err-left-clause-adds : goal.returns-in_err-left-clause-adds
returns-in_err-left-clause-adds g c = c.side_gap.ensures.adds

pub returns-in_default-clause-adds : goal.returns-in_default-clause-adds
returns-in_default-clause-adds g c = c.side_gap.ensures.adds
