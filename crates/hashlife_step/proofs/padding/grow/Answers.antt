use Rattle.std.proofs.Common.{◌≡◌, ℕ, ◌+◌, ◌≤◌, ◌∙◌, ap, arith, subst, sym}
use Rattle.std.proofs.lemmas.Result.{IfOk-weaker}
use Rattle.squares.specs.Book.{Book, IsBook, IsKnown, MayRefuse, numbered}
use Rattle.squares.specs.declared.sq.Sq.{Sq}
use Rattle.squares.proofs.Kept.{adds_trans, keeps_trans, known_kept}
use Rattle.squares.proofs.FourKnown.{empty_known, four_known, known_as}
use Rattle.plane.proofs.SentErrors.{sent_on}
use Rattle.hashlife_step.proofs.Grown.{grown_shown}
use Rattle.hashlife_step.proofs.padding.grow.Goals as goal

-- the empty square of a level is known
none_known : {book : Book} {level : ℕ} {sq : Sq} → sq ≡ numbered level 0 → IsBook book → 3 ≤ level → level ≤ 65 → IsKnown book level sq
none_known {book = book} {level = level} is law low high = subst (IsKnown book level) (sym is) (empty_known book level law low high)

pub returns-clause-cells : goal.returns-clause-cells
returns-clause-cells g c =
    let book = g.S.Squares.book in
    let law = g.met.S.Squares.is_book in
    let whole = law c.args.book.now in
    IfOk-weaker c.quad-5.result _ _
    (λ sq shown. grown_shown c.args.sq.level ((book c.args.book.now).cells c.args.sq)
    (book c.read_parts.new.self) (book c.quad.new.self) (book c.quad-2.new.self) (book c.quad-3.new.self) (book c.quad-4.new.self) (book c.quad-5.new.self)
    c.read_parts.result c.empty-empty.result c.in_ok-upper_left.upper_left c.in_ok-upper_right.upper_right c.in_ok-lower_left.lower_left c.in_ok-lower_right.lower_right sq
    c.requires.low (whole.square c.args.sq c.requires.known.known) (law c.read_parts.new.self) (law c.quad.new.self) (law c.quad-2.new.self) (law c.quad-3.new.self)
    c.read_parts.ensures.value c.quad.ensures.adds.keeps c.quad-2.ensures.adds.keeps c.quad-3.ensures.adds.keeps c.quad-4.ensures.adds.keeps c.empty-empty.ensures
    c.in_ok-upper_left.ensures.ok c.in_ok-upper_right.ensures.ok c.in_ok-lower_left.ensures.ok c.in_ok-lower_right.ensures.ok shown)
    c.quad-5.ensures.ok

pub quad-requires-clause-known : goal.quad-requires-clause-known
quad-requires-clause-known g c =
    let none = none_known c.empty-empty.ensures (g.met.S.Squares.is_book c.read_parts.new.self) (omega arith) (omega arith) in
    four_known none none none c.read_parts.ensures.value.nw.known

pub quad-requires-2-clause-known : goal.quad-requires-2-clause-known
quad-requires-2-clause-known g c =
    let none = none_known c.empty-empty.ensures (g.met.S.Squares.is_book c.quad.new.self) (omega arith) (omega arith) in
    four_known none none (known_kept c.quad.ensures.adds.keeps c.read_parts.ensures.value.ne.known) none

pub quad-requires-3-clause-known : goal.quad-requires-3-clause-known
quad-requires-3-clause-known g c =
    let none = none_known c.empty-empty.ensures (g.met.S.Squares.is_book c.quad-2.new.self) (omega arith) (omega arith) in
    four_known none (known_kept (keeps_trans c.quad.ensures.adds.keeps c.quad-2.ensures.adds.keeps) c.read_parts.ensures.value.sw.known) none none

pub quad-requires-4-clause-known : goal.quad-requires-4-clause-known
quad-requires-4-clause-known g c =
    let none = none_known c.empty-empty.ensures (g.met.S.Squares.is_book c.quad-3.new.self) (omega arith) (omega arith) in
    four_known (known_kept (keeps_trans c.quad.ensures.adds.keeps (keeps_trans c.quad-2.ensures.adds.keeps c.quad-3.ensures.adds.keeps)) c.read_parts.ensures.value.se.known) none none none

pub quad-requires-5-clause-known : goal.quad-requires-5-clause-known
quad-requires-5-clause-known g c =
    let k5 = c.quad-4.ensures.adds.keeps in let k4 = keeps_trans c.quad-3.ensures.adds.keeps k5 in let k3 = keeps_trans c.quad-2.ensures.adds.keeps k4 in
    let at_level = c.read_parts.ensures.value.se.known.at_level in
    let empty_level = ap (λ (sq : Sq). sq.level) c.empty-empty.ensures in
    four_known (known_kept k3 c.in_ok-upper_left.ensures.ok.known) (known_kept k4 c.in_ok-upper_right.ensures.ok.known) (known_kept k5 c.in_ok-lower_left.ensures.ok.known)
    (known_as (ap (λ n. n + 1) (at_level ∙ sym empty_level)) c.in_ok-lower_right.ensures.ok.known)

pub returns-in_err-upper_left-clause-adds : goal.returns-in_err-upper_left-clause-adds
returns-in_err-upper_left-clause-adds g c = adds_trans c.read_parts.ensures.adds c.quad.ensures.adds

pub returns-in_err-upper_right-clause-adds : goal.returns-in_err-upper_right-clause-adds
returns-in_err-upper_right-clause-adds g c = adds_trans c.read_parts.ensures.adds (adds_trans c.quad.ensures.adds c.quad-2.ensures.adds)

pub returns-in_err-lower_left-clause-adds : goal.returns-in_err-lower_left-clause-adds
returns-in_err-lower_left-clause-adds g c = adds_trans c.read_parts.ensures.adds (adds_trans c.quad.ensures.adds (adds_trans c.quad-2.ensures.adds c.quad-3.ensures.adds))

pub returns-in_err-lower_right-clause-adds : goal.returns-in_err-lower_right-clause-adds
returns-in_err-lower_right-clause-adds g c = adds_trans c.read_parts.ensures.adds (adds_trans c.quad.ensures.adds (adds_trans c.quad-2.ensures.adds (adds_trans c.quad-3.ensures.adds c.quad-4.ensures.adds)))

pub returns-clause-adds : goal.returns-clause-adds
returns-clause-adds g c = adds_trans c.read_parts.ensures.adds (adds_trans c.quad.ensures.adds (adds_trans c.quad-2.ensures.adds (adds_trans c.quad-3.ensures.adds (adds_trans c.quad-4.ensures.adds c.quad-5.ensures.adds))))

pub returns-in_err-upper_left-clause-refusal : goal.returns-in_err-upper_left-clause-refusal
returns-in_err-upper_left-clause-refusal g c =
    sent_on (MayRefuse (g.S.Squares.book c.quad.new.self)) c.from_residual.result c.in_err-upper_left.field-0.0 c.from_residual.ensures.1 c.in_err-upper_left.ensures.refusal

pub returns-in_err-upper_right-clause-refusal : goal.returns-in_err-upper_right-clause-refusal
returns-in_err-upper_right-clause-refusal g c =
    sent_on (MayRefuse (g.S.Squares.book c.quad-2.new.self)) c.from_residual-in_err-upper_right.result c.in_err-upper_right.field-0.0 c.from_residual-in_err-upper_right.ensures.1 c.in_err-upper_right.ensures.refusal

pub returns-in_err-lower_left-clause-refusal : goal.returns-in_err-lower_left-clause-refusal
returns-in_err-lower_left-clause-refusal g c =
    sent_on (MayRefuse (g.S.Squares.book c.quad-3.new.self)) c.from_residual-in_err-lower_left.result c.in_err-lower_left.field-0.0 c.from_residual-in_err-lower_left.ensures.1 c.in_err-lower_left.ensures.refusal

pub returns-in_err-lower_right-clause-refusal : goal.returns-in_err-lower_right-clause-refusal
returns-in_err-lower_right-clause-refusal g c =
    sent_on (MayRefuse (g.S.Squares.book c.quad-4.new.self)) c.from_residual-in_err-lower_right.result c.in_err-lower_right.field-0.0 c.from_residual-in_err-lower_right.ensures.1 c.in_err-lower_right.ensures.refusal

pub returns-clause-refusal : goal.returns-clause-refusal
returns-clause-refusal g c = c.quad-5.ensures.refusal
