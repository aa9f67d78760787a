use Rattle.std.proofs.Common.{◌≡◌, All, length, arith, rules, subst, sym}
use Rattle.std.specs.Prelude.{IfOk}
use Rattle.squares.specs.Book.{IsKnown, MayRefuse, numbered}
use Rattle.squares.proofs.Kept.{adds_trans, keeps_none, keeps_trans}
use Rattle.hashlife_step.specs.Futures.{AreCentres}
use Rattle.plane.proofs.SentErrors.{sent_on}
use Rattle.hashlife_step.proofs.FourCentres.{inner_known, inner_low, middle_shown}
use Rattle.hashlife_step.proofs.centres.four_centres.Goals as goal

pub read_nine-requires-clause-low : goal.read_nine-requires-clause-low
read_nine-requires-clause-low g c =
    let nine : length c.args.nine ≡ 9 = search rules in
    let known = c.requires.known 0 (numbered 0 0) (omega arith) in
    let low = known.low in let other = c.if-level-eq-LEAF_LEVEL.false in omega arith

pub quad-requires-clause-known : goal.quad-requires-clause-known
quad-requires-clause-known g c =
    let nine : length c.args.nine ≡ 9 = search rules in
    inner_known _ _ _ _ _ c.requires.known c.read_nine.ensures.value _ 0 (omega arith) (keeps_none _)

pub quad-requires-2-clause-known : goal.quad-requires-2-clause-known
quad-requires-2-clause-known g c =
    let nine : length c.args.nine ≡ 9 = search rules in
    inner_known _ _ _ _ _ c.requires.known c.read_nine.ensures.value _ 1 (omega arith) c.quad.ensures.adds.keeps

pub quad-requires-3-clause-known : goal.quad-requires-3-clause-known
quad-requires-3-clause-known g c =
    let nine : length c.args.nine ≡ 9 = search rules in
    inner_known _ _ _ _ _ c.requires.known c.read_nine.ensures.value _ 3 (omega arith) (keeps_trans c.quad.ensures.adds.keeps c.quad-2.ensures.adds.keeps)

pub quad-requires-4-clause-known : goal.quad-requires-4-clause-known
quad-requires-4-clause-known g c =
    let nine : length c.args.nine ≡ 9 = search rules in
    inner_known _ _ _ _ _ c.requires.known c.read_nine.ensures.value _ 4 (omega arith) (keeps_trans c.quad.ensures.adds.keeps (keeps_trans c.quad-2.ensures.adds.keeps c.quad-3.ensures.adds.keeps))

pub returns-clause-ok : goal.returns-clause-ok
returns-clause-ok g c =
    let nine : length c.args.nine ≡ 9 = search rules in
    let laws = g.met.S.Squares.is_book c.args.book.now in
    let k0 = c.read_nine.ensures.adds.keeps in let k1 = c.quad.ensures.adds.keeps in let k2 = c.quad-2.ensures.adds.keeps in let k3 = c.quad-3.ensures.adds.keeps in let k4 = c.quad-4.ensures.adds.keeps in
    record {
      nw = middle_shown _ _ _ c.args.nine c.read_nine.result c.requires.known c.read_nine.ensures.value _ _ _ 0 _ laws (omega arith) k0 (keeps_none _) k1 (keeps_trans k2 (keeps_trans k3 k4)) c.in_ok-upper_left.ensures.ok;
      ne = middle_shown _ _ _ c.args.nine c.read_nine.result c.requires.known c.read_nine.ensures.value _ _ _ 1 _ laws (omega arith) k0 k1 k2 (keeps_trans k3 k4) c.in_ok-upper_right.ensures.ok;
      sw = middle_shown _ _ _ c.args.nine c.read_nine.result c.requires.known c.read_nine.ensures.value _ _ _ 3 _ laws (omega arith) k0 (keeps_trans k1 k2) k3 k4 c.in_ok-lower_left.ensures.ok;
      se = middle_shown _ _ _ c.args.nine c.read_nine.result c.requires.known c.read_nine.ensures.value _ _ _ 4 _ laws (omega arith) k0 (keeps_trans k1 (keeps_trans k2 k3)) k4 (keeps_none _) c.in_ok-lower_right.ensures.ok;
    }

pub returns-in_err-lower_left-clause-adds : goal.returns-in_err-lower_left-clause-adds
returns-in_err-lower_left-clause-adds g c = adds_trans c.read_nine.ensures.adds (adds_trans c.quad.ensures.adds (adds_trans c.quad-2.ensures.adds c.quad-3.ensures.adds))

pub returns-in_err-lower_right-clause-adds : goal.returns-in_err-lower_right-clause-adds
returns-in_err-lower_right-clause-adds g c =
    adds_trans c.read_nine.ensures.adds (adds_trans c.quad.ensures.adds (adds_trans c.quad-2.ensures.adds (adds_trans c.quad-3.ensures.adds c.quad-4.ensures.adds)))

pub returns-clause-adds : goal.returns-clause-adds
returns-clause-adds g c =
    adds_trans c.read_nine.ensures.adds (adds_trans c.quad.ensures.adds (adds_trans c.quad-2.ensures.adds (adds_trans c.quad-3.ensures.adds c.quad-4.ensures.adds)))

pub returns-in_err-upper_left-clause-adds : goal.returns-in_err-upper_left-clause-adds
returns-in_err-upper_left-clause-adds g c = adds_trans c.read_nine.ensures.adds c.quad.ensures.adds

pub returns-in_err-upper_right-clause-adds : goal.returns-in_err-upper_right-clause-adds
returns-in_err-upper_right-clause-adds g c = adds_trans c.read_nine.ensures.adds (adds_trans c.quad.ensures.adds c.quad-2.ensures.adds)

pub returns-then-level-eq-LEAF_LEVEL-clause-adds : goal.returns-then-level-eq-LEAF_LEVEL-clause-adds
returns-then-level-eq-LEAF_LEVEL-clause-adds g c = c.leaf_centres.ensures.adds

pub quad-requires-clause-level : goal.quad-requires-clause-level
quad-requires-clause-level g c =
    let nine : length c.args.nine ≡ 9 = search rules in
    inner_low _ _ _ _ _ c.requires.known c.read_nine.ensures.value 0 (omega arith)

pub quad-requires-2-clause-level : goal.quad-requires-2-clause-level
quad-requires-2-clause-level g c =
    let nine : length c.args.nine ≡ 9 = search rules in
    inner_low _ _ _ _ _ c.requires.known c.read_nine.ensures.value 1 (omega arith)

pub quad-requires-3-clause-level : goal.quad-requires-3-clause-level
quad-requires-3-clause-level g c =
    let nine : length c.args.nine ≡ 9 = search rules in
    inner_low _ _ _ _ _ c.requires.known c.read_nine.ensures.value 3 (omega arith)

pub quad-requires-4-clause-level : goal.quad-requires-4-clause-level
quad-requires-4-clause-level g c =
    let nine : length c.args.nine ≡ 9 = search rules in
    inner_low _ _ _ _ _ c.requires.known c.read_nine.ensures.value 4 (omega arith)

pub read_nine-requires-clause-known : goal.read_nine-requires-clause-known
read_nine-requires-clause-known g c = c.requires.known

pub leaf_centres-requires : goal.leaf_centres-requires
leaf_centres-requires g c =
    let book = g.S.Squares.book c.args.book.now in
    record { known = subst (λ n. All (IsKnown book n) c.args.nine) c.if-level-eq-LEAF_LEVEL.true c.requires.known }

pub returns-then-level-eq-LEAF_LEVEL-clause-ok : goal.returns-then-level-eq-LEAF_LEVEL-clause-ok
returns-then-level-eq-LEAF_LEVEL-clause-ok g c =
    let book = g.S.Squares.book c.leaf_centres.new.book in
    subst (λ n. IfOk c.leaf_centres.result (AreCentres book n c.args.nine)) (sym c.if-level-eq-LEAF_LEVEL.true) c.leaf_centres.ensures.ok

pub returns-in_err-upper_left-clause-refusal : goal.returns-in_err-upper_left-clause-refusal
returns-in_err-upper_left-clause-refusal g c =
    sent_on (MayRefuse (g.S.Squares.book c.quad.new.self)) c.from_residual.result c.in_err-upper_left.field-0.0 c.from_residual.ensures.1 c.in_err-upper_left.ensures.refusal

pub returns-in_err-upper_right-clause-refusal : goal.returns-in_err-upper_right-clause-refusal
returns-in_err-upper_right-clause-refusal g c =
    sent_on (MayRefuse (g.S.Squares.book c.quad-2.new.self)) c.from_residual-in_err-upper_right.result c.in_err-upper_right.field-0.0 c.from_residual-in_err-upper_right.ensures.1 c.in_err-upper_right.ensures.refusal

pub returns-in_err-lower_left-clause-refusal : goal.returns-in_err-lower_left-clause-refusal
returns-in_err-lower_left-clause-refusal g c =
    sent_on (MayRefuse (g.S.Squares.book c.quad-3.new.self)) c.from_residual-in_err-lower_left.result c.in_err-lower_left.field-0.0 c.from_residual-in_err-lower_left.ensures.1 c.in_err-lower_left.ensures.refusal

pub returns-in_err-lower_right-clause-refusal : goal.returns-in_err-lower_right-clause-refusal
returns-in_err-lower_right-clause-refusal g c =
    sent_on (MayRefuse (g.S.Squares.book c.quad-4.new.self)) c.from_residual-in_err-lower_right.result c.in_err-lower_right.field-0.0 c.from_residual-in_err-lower_right.ensures.1 c.in_err-lower_right.ensures.refusal
