use Rattle.std.proofs.Common.{arith, rules}
use Rattle.squares.specs.Book.{MayRefuse, numbered}
use Rattle.squares.proofs.Kept.{adds_trans, keeps_trans}
use Rattle.squares.proofs.OverlapsMade.{nine_kept, neighbours_fit, overlaps_made}
use Rattle.plane.proofs.SentErrors.{sent_on}
use Rattle.squares.proofs.book.Squares.overlaps.Goals as goal

pub returns-in_err-upper_right-clause-adds : goal.returns-in_err-upper_right-clause-adds
returns-in_err-upper_right-clause-adds g c = adds_trans c.quad.ensures.adds c.quad-2.ensures.adds

pub returns-in_err-lower_left-clause-adds : goal.returns-in_err-lower_left-clause-adds
returns-in_err-lower_left-clause-adds g c = adds_trans c.quad.ensures.adds (adds_trans c.quad-2.ensures.adds c.quad-3.ensures.adds)

pub returns-in_err-lower_right-clause-adds : goal.returns-in_err-lower_right-clause-adds
returns-in_err-lower_right-clause-adds g c = adds_trans c.quad.ensures.adds (adds_trans c.quad-2.ensures.adds (adds_trans c.quad-3.ensures.adds c.quad-4.ensures.adds))

pub returns-clause-adds : goal.returns-clause-adds
returns-clause-adds g c = adds_trans c.quad.ensures.adds (adds_trans c.quad-2.ensures.adds (adds_trans c.quad-3.ensures.adds c.quad-4.ensures.adds))

pub quad-requires : goal.quad-requires
quad-requires g c =
    let fit = neighbours_fit c.args.nine 0 (λ k less. c.requires.known k (numbered 0 0) (search rules)) c.requires.level (omega arith) in
    record { level = fit.0; known = fit.1 }

pub quad-requires-2 : goal.quad-requires-2
quad-requires-2 g c =
    let known = nine_kept c.args.nine c.quad.ensures.adds.keeps (λ k less. c.requires.known k (numbered 0 0) (search rules)) in
    let fit = neighbours_fit c.args.nine 1 known c.requires.level (omega arith) in
    record { level = fit.0; known = fit.1 }

pub quad-requires-3 : goal.quad-requires-3
quad-requires-3 g c =
    let known = nine_kept c.args.nine (keeps_trans c.quad.ensures.adds.keeps c.quad-2.ensures.adds.keeps) (λ k less. c.requires.known k (numbered 0 0) (search rules)) in
    let fit = neighbours_fit c.args.nine 3 known c.requires.level (omega arith) in
    record { level = fit.0; known = fit.1 }

pub quad-requires-4 : goal.quad-requires-4
quad-requires-4 g c =
    let keeps = keeps_trans c.quad.ensures.adds.keeps (keeps_trans c.quad-2.ensures.adds.keeps c.quad-3.ensures.adds.keeps) in
    let known = nine_kept c.args.nine keeps (λ k less. c.requires.known k (numbered 0 0) (search rules)) in
    let fit = neighbours_fit c.args.nine 4 known c.requires.level (omega arith) in
    record { level = fit.0; known = fit.1 }

pub returns-clause-ok : goal.returns-clause-ok
returns-clause-ok g c =
    overlaps_made (λ k less. c.requires.known k (numbered 0 0) (search rules))
    c.quad.ensures.adds.keeps c.quad-2.ensures.adds.keeps c.quad-3.ensures.adds.keeps c.quad-4.ensures.adds.keeps
    c.in_ok-upper_left.ensures.ok c.in_ok-upper_right.ensures.ok c.in_ok-lower_left.ensures.ok c.in_ok-lower_right.ensures.ok

pub returns-in_err-upper_left-clause-refusal : goal.returns-in_err-upper_left-clause-refusal
returns-in_err-upper_left-clause-refusal g c =
    sent_on (MayRefuse (g.Self.Squares.book c.quad.new.self)) c.from_residual.result c.in_err-upper_left.field-0.0 c.from_residual.ensures.1 c.in_err-upper_left.ensures.refusal

pub returns-in_err-upper_right-clause-refusal : goal.returns-in_err-upper_right-clause-refusal
returns-in_err-upper_right-clause-refusal g c =
    sent_on (MayRefuse (g.Self.Squares.book c.quad-2.new.self)) c.from_residual-in_err-upper_right.result c.in_err-upper_right.field-0.0 c.from_residual-in_err-upper_right.ensures.1 c.in_err-upper_right.ensures.refusal

pub returns-in_err-lower_left-clause-refusal : goal.returns-in_err-lower_left-clause-refusal
returns-in_err-lower_left-clause-refusal g c =
    sent_on (MayRefuse (g.Self.Squares.book c.quad-3.new.self)) c.from_residual-in_err-lower_left.result c.in_err-lower_left.field-0.0 c.from_residual-in_err-lower_left.ensures.1 c.in_err-lower_left.ensures.refusal

pub returns-in_err-lower_right-clause-refusal : goal.returns-in_err-lower_right-clause-refusal
returns-in_err-lower_right-clause-refusal g c =
    sent_on (MayRefuse (g.Self.Squares.book c.quad-4.new.self)) c.from_residual-in_err-lower_right.result c.in_err-lower_right.field-0.0 c.from_residual-in_err-lower_right.ensures.1 c.in_err-lower_right.ensures.refusal
