use Rattle.std.proofs.lemmas.Result.{IfOk-weaker}
use Rattle.std.proofs.Common.{[], get_or}
use Rattle.plane.specs.Leaves.{leaves_plane}
use Rattle.squares.proofs.Kept.{adds_trans, keeps_trans, known_kept}
use Rattle.squares.proofs.FourKnown.{four_known, numbered_joined}
use Rattle.squares.specs.Book.{MayRefuse}
use Rattle.plane.proofs.SentErrors.{sent_on}
use Rattle.hashlife_step.proofs.leaf_squares.join_quarters.Goals as goal

pub returns-clause-ok : goal.returns-clause-ok
returns-clause-ok g c =
    let book = g.S.Squares.book in
    IfOk-weaker c.quad.result _ _
    (λ whole shown. numbered_joined 4 (leaves_plane (get_or c.args.quarters 0 [])) (leaves_plane (get_or c.args.quarters 1 [])) (leaves_plane (get_or c.args.quarters 2 [])) (leaves_plane (get_or c.args.quarters 3 []))
    (book c.join_leaves.new.book) (book c.join_leaves-2.new.book) (book c.join_leaves-3.new.book) (book c.join_leaves-4.new.book) (book c.quad.new.self)
    c.in_ok-upper_left.upper_left c.in_ok-upper_right.upper_right c.in_ok-lower_left.lower_left c.in_ok-lower_right.lower_right whole
    c.join_leaves-2.ensures.adds.keeps c.join_leaves-3.ensures.adds.keeps c.join_leaves-4.ensures.adds.keeps
    c.in_ok-upper_left.ensures.ok c.in_ok-upper_right.ensures.ok c.in_ok-lower_left.ensures.ok c.in_ok-lower_right.ensures.ok shown)
    c.quad.ensures.ok

pub quad-requires-clause-known : goal.quad-requires-clause-known
quad-requires-clause-known g c =
    let k4 = c.join_leaves-4.ensures.adds.keeps in let k3 = keeps_trans c.join_leaves-3.ensures.adds.keeps k4 in let k2 = keeps_trans c.join_leaves-2.ensures.adds.keeps k3 in
    four_known (known_kept k2 c.in_ok-upper_left.ensures.ok.known) (known_kept k3 c.in_ok-upper_right.ensures.ok.known) (known_kept k4 c.in_ok-lower_left.ensures.ok.known) c.in_ok-lower_right.ensures.ok.known

pub returns-in_err-upper_right-clause-adds : goal.returns-in_err-upper_right-clause-adds
returns-in_err-upper_right-clause-adds g c = adds_trans c.join_leaves.ensures.adds c.join_leaves-2.ensures.adds

pub returns-in_err-lower_left-clause-adds : goal.returns-in_err-lower_left-clause-adds
returns-in_err-lower_left-clause-adds g c = adds_trans c.join_leaves.ensures.adds (adds_trans c.join_leaves-2.ensures.adds c.join_leaves-3.ensures.adds)

pub returns-in_err-lower_right-clause-adds : goal.returns-in_err-lower_right-clause-adds
returns-in_err-lower_right-clause-adds g c = adds_trans c.join_leaves.ensures.adds (adds_trans c.join_leaves-2.ensures.adds (adds_trans c.join_leaves-3.ensures.adds c.join_leaves-4.ensures.adds))

pub returns-clause-adds : goal.returns-clause-adds
returns-clause-adds g c = adds_trans c.join_leaves.ensures.adds (adds_trans c.join_leaves-2.ensures.adds (adds_trans c.join_leaves-3.ensures.adds (adds_trans c.join_leaves-4.ensures.adds c.quad.ensures.adds)))

pub returns-in_err-upper_left-clause-refusal : goal.returns-in_err-upper_left-clause-refusal
returns-in_err-upper_left-clause-refusal g c =
    sent_on (MayRefuse (g.S.Squares.book c.join_leaves.new.book)) c.from_residual.result c.in_err-upper_left.field-0.0 c.from_residual.ensures.1 c.in_err-upper_left.ensures.refusal

pub returns-in_err-upper_right-clause-refusal : goal.returns-in_err-upper_right-clause-refusal
returns-in_err-upper_right-clause-refusal g c =
    sent_on (MayRefuse (g.S.Squares.book c.join_leaves-2.new.book)) c.from_residual-in_err-upper_right.result c.in_err-upper_right.field-0.0 c.from_residual-in_err-upper_right.ensures.1 c.in_err-upper_right.ensures.refusal

pub returns-in_err-lower_left-clause-refusal : goal.returns-in_err-lower_left-clause-refusal
returns-in_err-lower_left-clause-refusal g c =
    sent_on (MayRefuse (g.S.Squares.book c.join_leaves-3.new.book)) c.from_residual-in_err-lower_left.result c.in_err-lower_left.field-0.0 c.from_residual-in_err-lower_left.ensures.1 c.in_err-lower_left.ensures.refusal

pub returns-in_err-lower_right-clause-refusal : goal.returns-in_err-lower_right-clause-refusal
returns-in_err-lower_right-clause-refusal g c =
    sent_on (MayRefuse (g.S.Squares.book c.join_leaves-4.new.book)) c.from_residual-in_err-lower_right.result c.in_err-lower_right.field-0.0 c.from_residual-in_err-lower_right.ensures.1 c.in_err-lower_right.ensures.refusal

pub returns-clause-refusal : goal.returns-clause-refusal
returns-clause-refusal g c = c.quad.ensures.refusal
