use Rattle.std.proofs.lemmas.Result.{IfOk-weaker}
use Rattle.squares.proofs.Kept.{adds_trans, keeps_trans, known_kept}
use Rattle.squares.proofs.FourKnown.{four_known}
use Rattle.hashlife_step.proofs.Surrounded.{leaf_surrounded}
use Rattle.squares.specs.Book.{MayRefuse}
use Rattle.plane.proofs.SentErrors.{sent_on}
use Rattle.hashlife_step.proofs.leaf_squares.surround_leaf.Goals as goal

pub returns-clause-cells : goal.returns-clause-cells
returns-clause-cells g c =
    let book = g.S.Squares.book in
    IfOk-weaker c.quad.result _ _
    (λ whole shown. leaf_surrounded c.args.sq.level c.read_bits-word.result c.centre16.result c.centre16-2.result c.centre16-3.result c.centre16-4.result ((book c.args.book.now).cells c.args.sq)
    (book c.leaf.new.self) (book c.leaf-2.new.self) (book c.leaf-3.new.self) (book c.leaf-4.new.self) (book c.quad.new.self)
    c.in_ok-upper_left.upper_left c.in_ok-upper_right.upper_right c.in_ok-lower_left.lower_left c.in_ok-lower_right.lower_right whole
    c.requires.level c.read_bits-word.ensures.value.cells c.centre16.ensures c.centre16-2.ensures c.centre16-3.ensures c.centre16-4.ensures
    c.leaf-2.ensures.adds.keeps c.leaf-3.ensures.adds.keeps c.leaf-4.ensures.adds.keeps
    c.in_ok-upper_left.ensures.ok c.in_ok-upper_right.ensures.ok c.in_ok-lower_left.ensures.ok c.in_ok-lower_right.ensures.ok shown)
    c.quad.ensures.ok

pub quad-requires-clause-known : goal.quad-requires-clause-known
quad-requires-clause-known g c =
    let k4 = c.leaf-4.ensures.adds.keeps in let k3 = keeps_trans c.leaf-3.ensures.adds.keeps k4 in let k2 = keeps_trans c.leaf-2.ensures.adds.keeps k3 in
    four_known (known_kept k2 c.in_ok-upper_left.ensures.ok.known) (known_kept k3 c.in_ok-upper_right.ensures.ok.known) (known_kept k4 c.in_ok-lower_left.ensures.ok.known) c.in_ok-lower_right.ensures.ok.known

pub returns-in_err-upper_left-clause-adds : goal.returns-in_err-upper_left-clause-adds
returns-in_err-upper_left-clause-adds g c = adds_trans c.read_bits-word.ensures.adds c.leaf.ensures.adds

pub returns-in_err-upper_right-clause-adds : goal.returns-in_err-upper_right-clause-adds
returns-in_err-upper_right-clause-adds g c = adds_trans c.read_bits-word.ensures.adds (adds_trans c.leaf.ensures.adds c.leaf-2.ensures.adds)

pub returns-in_err-lower_left-clause-adds : goal.returns-in_err-lower_left-clause-adds
returns-in_err-lower_left-clause-adds g c = adds_trans c.read_bits-word.ensures.adds (adds_trans c.leaf.ensures.adds (adds_trans c.leaf-2.ensures.adds c.leaf-3.ensures.adds))

pub returns-in_err-lower_right-clause-adds : goal.returns-in_err-lower_right-clause-adds
returns-in_err-lower_right-clause-adds g c = adds_trans c.read_bits-word.ensures.adds (adds_trans c.leaf.ensures.adds (adds_trans c.leaf-2.ensures.adds (adds_trans c.leaf-3.ensures.adds c.leaf-4.ensures.adds)))

pub returns-clause-adds : goal.returns-clause-adds
returns-clause-adds g c = adds_trans c.read_bits-word.ensures.adds (adds_trans c.leaf.ensures.adds (adds_trans c.leaf-2.ensures.adds (adds_trans c.leaf-3.ensures.adds (adds_trans c.leaf-4.ensures.adds c.quad.ensures.adds))))

pub returns-in_err-upper_left-clause-refusal : goal.returns-in_err-upper_left-clause-refusal
returns-in_err-upper_left-clause-refusal g c =
    sent_on (MayRefuse (g.S.Squares.book c.leaf.new.self)) c.from_residual.result c.in_err-upper_left.field-0.0 c.from_residual.ensures.1 c.in_err-upper_left.ensures.refusal

pub returns-in_err-upper_right-clause-refusal : goal.returns-in_err-upper_right-clause-refusal
returns-in_err-upper_right-clause-refusal g c =
    sent_on (MayRefuse (g.S.Squares.book c.leaf-2.new.self)) c.from_residual-in_err-upper_right.result c.in_err-upper_right.field-0.0 c.from_residual-in_err-upper_right.ensures.1 c.in_err-upper_right.ensures.refusal

pub returns-in_err-lower_left-clause-refusal : goal.returns-in_err-lower_left-clause-refusal
returns-in_err-lower_left-clause-refusal g c =
    sent_on (MayRefuse (g.S.Squares.book c.leaf-3.new.self)) c.from_residual-in_err-lower_left.result c.in_err-lower_left.field-0.0 c.from_residual-in_err-lower_left.ensures.1 c.in_err-lower_left.ensures.refusal

pub returns-in_err-lower_right-clause-refusal : goal.returns-in_err-lower_right-clause-refusal
returns-in_err-lower_right-clause-refusal g c =
    sent_on (MayRefuse (g.S.Squares.book c.leaf-4.new.self)) c.from_residual-in_err-lower_right.result c.in_err-lower_right.field-0.0 c.from_residual-in_err-lower_right.ensures.1 c.in_err-lower_right.ensures.refusal

pub returns-clause-refusal : goal.returns-clause-refusal
returns-clause-refusal g c = c.quad.ensures.refusal
