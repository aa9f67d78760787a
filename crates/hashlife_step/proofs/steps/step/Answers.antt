use Rattle.std.proofs.Common.{arith, ◌^◌, sym, ◌∙◌, subst, Result, Ok, Err, IfOk}
use Rattle.std.proofs.lemmas.Result.{IfOk-weaker}
use Rattle.squares.specs.declared.sq.Sq.{Sq}
use Rattle.plane.specs.Centred.{centred, IsSmallestLevel}
use Rattle.plane.specs.Plane.{Plane, after}
use Rattle.plane.proofs.Same.{plane_equal}
use Rattle.squares.proofs.Kept.{keeps_trans}
use Rattle.hashlife_step.specs.ShowsCentred.{ShowsCentred}
use Rattle.hashlife_step.proofs.Counted.{makes_none, makes_trans, makes_up_to}
use Rattle.hashlife_step.proofs.CentredSquares.{centred_as}
use Rattle.hashlife_step.proofs.Stepped.{future_centred}
use Rattle.hashlife_step.proofs.steps.step.Given as given
use Rattle.plane.proofs.SentErrors.{sent_on}
use Rattle.hashlife_step.proofs.steps.step.Goals as goal

both_ok : {E : Type 0} (r : Result Sq E) (P Q R : Sq → Type 0) → ((sq : Sq) → P sq → Q sq → R sq) → IfOk r P → IfOk r Q → IfOk r R
both_ok (Ok sq) P Q R join p q = join sq p q
both_ok (Err e) P Q R join p q = tt

-- what the future of the padded root shows
next_shown : (g : given.Over) (c : goal.After-trim g) →
    ShowsCentred (g.S.Squares.book c.future.new.book)
    (after (g.S.Squares.book c.args.book.now).rule (centred c.args.root.level ((g.S.Squares.book c.args.book.now).cells c.args.root)) (2 ^ (g.S.Squares.book c.args.book.now).exponent)) c.in_ok-next.next
next_shown g c =
    let book = g.S.Squares.book in
    let old = book c.args.book.now in
    let plane : Plane = centred c.args.root.level (old.cells c.args.root) in
    let keeps = keeps_trans c.pad.ensures.adds.keeps c.future.ensures.makes.keeps in
    let level = c.in_ok-padded.ensures.level in
    let shown = future_centred (book c.pad.new.book) (book c.future.new.book) old.rule c.exponent-exponent.result plane c.in_ok-padded.padded c.in_ok-next.next
    c.in_ok-padded.ensures.cells c.future.ensures.makes.keeps (omega arith) keeps.rule (keeps.exponent ∙ sym c.exponent-exponent.ensures) c.in_ok-padded.ensures.room c.in_ok-next.ensures.ok in
    subst (λ n. ShowsCentred (book c.future.new.book) (after old.rule plane (2 ^ n)) c.in_ok-next.next) c.exponent-exponent.ensures shown

pub returns-in_err-padded-clause-makes : goal.returns-in_err-padded-clause-makes
returns-in_err-padded-clause-makes g c = makes_none c.pad.ensures.adds

pub returns-in_err-next-clause-makes : goal.returns-in_err-next-clause-makes
returns-in_err-next-clause-makes g c =
    let level = c.in_ok-padded.ensures.level in let high = c.requires.high in let exponent = c.exponent-exponent.ensures in
    makes_trans (makes_none c.pad.ensures.adds) (makes_up_to (omega arith) c.future.ensures.makes)

pub returns-clause-ok : goal.returns-clause-ok
returns-clause-ok g c =
    let next = next_shown g c in
    let at_centre = IfOk-weaker c.trim.result _ _ (λ trimmed shown. centred_as shown next.cells) c.trim.ensures.cells in
    let smallest = IfOk-weaker c.trim.result _ _ (λ trimmed least. subst (IsSmallestLevel trimmed.level) (plane_equal _ _ next.cells) least) c.trim.ensures.level in
    both_ok c.trim.result _ _ _ (λ trimmed shown least. record { known = shown.known; smallest = least; cells = shown.cells }) at_centre smallest

pub returns-clause-makes : goal.returns-clause-makes
returns-clause-makes g c =
    let level = c.in_ok-padded.ensures.level in let high = c.requires.high in let exponent = c.exponent-exponent.ensures in
    makes_trans (makes_none c.pad.ensures.adds) (makes_trans (makes_up_to (omega arith) c.future.ensures.makes) (makes_none c.trim.ensures.adds))

pub returns-in_err-next-clause-refusal : goal.returns-in_err-next-clause-refusal
returns-in_err-next-clause-refusal g c = sent_on _ c.from_residual-in_err-next.result c.in_err-next.field-0.0 c.from_residual-in_err-next.ensures.1 c.in_err-next.ensures.refusal

pub returns-in_err-padded-clause-refusal : goal.returns-in_err-padded-clause-refusal
returns-in_err-padded-clause-refusal g c = sent_on _ c.from_residual.result c.in_err-padded.field-0.0 c.from_residual.ensures.1 c.in_err-padded.ensures.refusal
