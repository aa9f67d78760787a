use Rattle.std.proofs.Common.{◌≡◌, ℕ, ◌<◌, length, arith, rules}
use Rattle.squares.specs.Book.{Book, Keeps, MayRefuse, numbered}
use Rattle.squares.specs.declared.sq.Sq.{Sq}
use Rattle.squares.proofs.Kept.{adds_trans, keeps_none, keeps_trans, known_kept}
use Rattle.squares.proofs.FourKnown.{each_known}
use Rattle.hashlife_step.proofs.FourCentres.{middle_later}
use Rattle.plane.proofs.SentErrors.{sent_on}
use Rattle.hashlife_step.proofs.centres.leaf_centres.Goals as goal

pub leaf_centre-requires : goal.leaf_centre-requires
leaf_centre-requires g c =
    let nine : length c.args.nine ≡ 9 = search rules in
    record { known = each_known (c.requires.known 0 (numbered 0 0) (omega arith)) (c.requires.known 1 (numbered 0 0) (omega arith)) (c.requires.known 3 (numbered 0 0) (omega arith)) (c.requires.known 4 (numbered 0 0) (omega arith)) }

pub leaf_centre-requires-2 : goal.leaf_centre-requires-2
leaf_centre-requires-2 g c =
    let nine : length c.args.nine ≡ 9 = search rules in
    let k = c.leaf_centre.ensures.adds.keeps in
    record { known = each_known (known_kept k (c.requires.known 1 (numbered 0 0) (omega arith))) (known_kept k (c.requires.known 2 (numbered 0 0) (omega arith))) (known_kept k (c.requires.known 4 (numbered 0 0) (omega arith))) (known_kept k (c.requires.known 5 (numbered 0 0) (omega arith))) }

pub leaf_centre-requires-3 : goal.leaf_centre-requires-3
leaf_centre-requires-3 g c =
    let nine : length c.args.nine ≡ 9 = search rules in
    let k = keeps_trans c.leaf_centre.ensures.adds.keeps c.leaf_centre-2.ensures.adds.keeps in
    record { known = each_known (known_kept k (c.requires.known 3 (numbered 0 0) (omega arith))) (known_kept k (c.requires.known 4 (numbered 0 0) (omega arith))) (known_kept k (c.requires.known 6 (numbered 0 0) (omega arith))) (known_kept k (c.requires.known 7 (numbered 0 0) (omega arith))) }

pub leaf_centre-requires-4 : goal.leaf_centre-requires-4
leaf_centre-requires-4 g c =
    let nine : length c.args.nine ≡ 9 = search rules in
    let k = keeps_trans c.leaf_centre.ensures.adds.keeps (keeps_trans c.leaf_centre-2.ensures.adds.keeps c.leaf_centre-3.ensures.adds.keeps) in
    record { known = each_known (known_kept k (c.requires.known 4 (numbered 0 0) (omega arith))) (known_kept k (c.requires.known 5 (numbered 0 0) (omega arith))) (known_kept k (c.requires.known 7 (numbered 0 0) (omega arith))) (known_kept k (c.requires.known 8 (numbered 0 0) (omega arith))) }

pub returns-clause-ok : goal.returns-clause-ok
returns-clause-ok g c =
    let book = g.S.Squares.book in
    let nine : length c.args.nine ≡ 9 = search rules in
    let k1 = c.leaf_centre.ensures.adds.keeps in let k2 = c.leaf_centre-2.ensures.adds.keeps in let k3 = c.leaf_centre-3.ensures.adds.keeps in let k4 = c.leaf_centre-4.ensures.adds.keeps in
    let known = λ (b : Book) (keeps : Keeps (book c.args.book.now) b) (i : ℕ) (d : Sq) (less : i < length c.args.nine). known_kept keeps (c.requires.known i d less) in
    record {
      nw = middle_later _ _ _ 3 0 c.args.nine _ c.requires.known (omega arith) k1 (keeps_trans k2 (keeps_trans k3 k4)) c.in_ok-upper_left.ensures.ok;
      ne = middle_later _ _ _ 3 1 c.args.nine _ (known _ k1) (omega arith) k2 (keeps_trans k3 k4) c.in_ok-upper_right.ensures.ok;
      sw = middle_later _ _ _ 3 3 c.args.nine _ (known _ (keeps_trans k1 k2)) (omega arith) k3 k4 c.in_ok-lower_left.ensures.ok;
      se = middle_later _ _ _ 3 4 c.args.nine _ (known _ (keeps_trans k1 (keeps_trans k2 k3))) (omega arith) k4 (keeps_none _) c.in_ok-lower_right.ensures.ok;
    }

pub returns-in_err-upper_right-clause-adds : goal.returns-in_err-upper_right-clause-adds
returns-in_err-upper_right-clause-adds g c = adds_trans c.leaf_centre.ensures.adds c.leaf_centre-2.ensures.adds

pub returns-in_err-lower_left-clause-adds : goal.returns-in_err-lower_left-clause-adds
returns-in_err-lower_left-clause-adds g c = adds_trans c.leaf_centre.ensures.adds (adds_trans c.leaf_centre-2.ensures.adds c.leaf_centre-3.ensures.adds)

pub returns-in_err-lower_right-clause-adds : goal.returns-in_err-lower_right-clause-adds
returns-in_err-lower_right-clause-adds g c = adds_trans c.leaf_centre.ensures.adds (adds_trans c.leaf_centre-2.ensures.adds (adds_trans c.leaf_centre-3.ensures.adds c.leaf_centre-4.ensures.adds))

pub returns-clause-adds : goal.returns-clause-adds
returns-clause-adds g c = adds_trans c.leaf_centre.ensures.adds (adds_trans c.leaf_centre-2.ensures.adds (adds_trans c.leaf_centre-3.ensures.adds c.leaf_centre-4.ensures.adds))

pub returns-in_err-upper_left-clause-refusal : goal.returns-in_err-upper_left-clause-refusal
returns-in_err-upper_left-clause-refusal g c =
    sent_on (MayRefuse (g.S.Squares.book c.leaf_centre.new.book)) c.from_residual.result c.in_err-upper_left.field-0.0 c.from_residual.ensures.1 c.in_err-upper_left.ensures.refusal

pub returns-in_err-upper_right-clause-refusal : goal.returns-in_err-upper_right-clause-refusal
returns-in_err-upper_right-clause-refusal g c =
    sent_on (MayRefuse (g.S.Squares.book c.leaf_centre-2.new.book)) c.from_residual-in_err-upper_right.result c.in_err-upper_right.field-0.0 c.from_residual-in_err-upper_right.ensures.1 c.in_err-upper_right.ensures.refusal

pub returns-in_err-lower_left-clause-refusal : goal.returns-in_err-lower_left-clause-refusal
returns-in_err-lower_left-clause-refusal g c =
    sent_on (MayRefuse (g.S.Squares.book c.leaf_centre-3.new.book)) c.from_residual-in_err-lower_left.result c.in_err-lower_left.field-0.0 c.from_residual-in_err-lower_left.ensures.1 c.in_err-lower_left.ensures.refusal

pub returns-in_err-lower_right-clause-refusal : goal.returns-in_err-lower_right-clause-refusal
returns-in_err-lower_right-clause-refusal g c =
    sent_on (MayRefuse (g.S.Squares.book c.leaf_centre-4.new.book)) c.from_residual-in_err-lower_right.result c.in_err-lower_right.field-0.0 c.from_residual-in_err-lower_right.ensures.1 c.in_err-lower_right.ensures.refusal
