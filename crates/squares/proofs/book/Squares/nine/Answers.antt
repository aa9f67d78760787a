use Rattle.squares.specs.declared.subsquares.Parts.{Parts}
use Rattle.squares.proofs.Kept.{adds_trans}
use Rattle.squares.proofs.NineSquares.{read_all, read_kept, make_upper, make_left, make_middle, make_right, make_lower, nine_made}
use Rattle.squares.specs.Book.{MayRefuse}
use Rattle.plane.proofs.SentErrors.{sent_on}
use Rattle.squares.proofs.book.Squares.nine.Goals as goal

pub returns-in_err-upper-clause-adds : goal.returns-in_err-upper-clause-adds
returns-in_err-upper-clause-adds g c =
    adds_trans c.read_parts.ensures.adds (adds_trans c.read_parts-2.ensures.adds (adds_trans c.read_parts-3.ensures.adds
    (adds_trans c.read_parts-4.ensures.adds (adds_trans c.read_parts-5.ensures.adds c.quad.ensures.adds))))

pub returns-in_err-left-clause-adds : goal.returns-in_err-left-clause-adds
returns-in_err-left-clause-adds g c =
    adds_trans c.read_parts.ensures.adds (adds_trans c.read_parts-2.ensures.adds (adds_trans c.read_parts-3.ensures.adds
    (adds_trans c.read_parts-4.ensures.adds (adds_trans c.read_parts-5.ensures.adds (adds_trans c.quad.ensures.adds c.quad-2.ensures.adds)))))

pub returns-in_err-middle-clause-adds : goal.returns-in_err-middle-clause-adds
returns-in_err-middle-clause-adds g c =
    adds_trans c.read_parts.ensures.adds (adds_trans c.read_parts-2.ensures.adds (adds_trans c.read_parts-3.ensures.adds
    (adds_trans c.read_parts-4.ensures.adds (adds_trans c.read_parts-5.ensures.adds
    (adds_trans c.quad.ensures.adds (adds_trans c.quad-2.ensures.adds c.quad-3.ensures.adds))))))

pub returns-in_err-right-clause-adds : goal.returns-in_err-right-clause-adds
returns-in_err-right-clause-adds g c =
    adds_trans c.read_parts.ensures.adds (adds_trans c.read_parts-2.ensures.adds (adds_trans c.read_parts-3.ensures.adds
    (adds_trans c.read_parts-4.ensures.adds (adds_trans c.read_parts-5.ensures.adds
    (adds_trans c.quad.ensures.adds (adds_trans c.quad-2.ensures.adds (adds_trans c.quad-3.ensures.adds c.quad-4.ensures.adds)))))))

pub returns-in_err-lower-clause-adds : goal.returns-in_err-lower-clause-adds
returns-in_err-lower-clause-adds g c =
    adds_trans c.read_parts.ensures.adds (adds_trans c.read_parts-2.ensures.adds (adds_trans c.read_parts-3.ensures.adds
    (adds_trans c.read_parts-4.ensures.adds (adds_trans c.read_parts-5.ensures.adds
    (adds_trans c.quad.ensures.adds (adds_trans c.quad-2.ensures.adds (adds_trans c.quad-3.ensures.adds (adds_trans c.quad-4.ensures.adds c.quad-5.ensures.adds))))))))

pub returns-clause-adds : goal.returns-clause-adds
returns-clause-adds g c =
    adds_trans c.read_parts.ensures.adds (adds_trans c.read_parts-2.ensures.adds (adds_trans c.read_parts-3.ensures.adds
    (adds_trans c.read_parts-4.ensures.adds (adds_trans c.read_parts-5.ensures.adds
    (adds_trans c.quad.ensures.adds (adds_trans c.quad-2.ensures.adds (adds_trans c.quad-3.ensures.adds (adds_trans c.quad-4.ensures.adds c.quad-5.ensures.adds))))))))

pub returns-clause-ok : goal.returns-clause-ok
returns-clause-ok g c =
    let parts : Parts = record { whole = c.read_parts.result; nw = c.read_parts-2.result; ne = c.read_parts-3.result; sw = c.read_parts-4.result; se = c.read_parts-5.result } in
    let plane = (g.Self.Squares.book c.args.self.now).cells c.args.sq in
    let read = read_all c.args.sq.level _ _ _ _ (g.Self.Squares.book c.read_parts-5.new.self) plane parts c.read_parts.ensures.value
    c.read_parts-2.ensures.adds.keeps c.read_parts-2.ensures.value c.read_parts-3.ensures.adds.keeps c.read_parts-3.ensures.value
    c.read_parts-4.ensures.adds.keeps c.read_parts-4.ensures.value c.read_parts-5.ensures.adds.keeps c.read_parts-5.ensures.value in
    nine_made c.args.sq.level plane parts c.requires.level c.requires.known.high (g.Self.Squares.book c.read_parts-5.new.self) _ _ _ _ _
    c.in_ok-upper.upper c.in_ok-left.left c.in_ok-middle.middle c.in_ok-right.right c.in_ok-lower.lower read
    c.quad.ensures.adds.keeps c.in_ok-upper.ensures.ok c.quad-2.ensures.adds.keeps c.in_ok-left.ensures.ok c.quad-3.ensures.adds.keeps c.in_ok-middle.ensures.ok
    c.quad-4.ensures.adds.keeps c.in_ok-right.ensures.ok c.quad-5.ensures.adds.keeps c.in_ok-lower.ensures.ok

pub quad-requires : goal.quad-requires
quad-requires g c =
    let parts : Parts = record { whole = c.read_parts.result; nw = c.read_parts-2.result; ne = c.read_parts-3.result; sw = c.read_parts-4.result; se = c.read_parts-5.result } in
    let plane = (g.Self.Squares.book c.args.self.now).cells c.args.sq in
    let read = read_all c.args.sq.level _ _ _ _ (g.Self.Squares.book c.read_parts-5.new.self) plane parts c.read_parts.ensures.value
    c.read_parts-2.ensures.adds.keeps c.read_parts-2.ensures.value c.read_parts-3.ensures.adds.keeps c.read_parts-3.ensures.value
    c.read_parts-4.ensures.adds.keeps c.read_parts-4.ensures.value c.read_parts-5.ensures.adds.keeps c.read_parts-5.ensures.value in
    let made = make_upper c.requires.level c.requires.known.high read in
    record { level = made.fits; known = made.known }

pub quad-requires-2 : goal.quad-requires-2
quad-requires-2 g c =
    let parts : Parts = record { whole = c.read_parts.result; nw = c.read_parts-2.result; ne = c.read_parts-3.result; sw = c.read_parts-4.result; se = c.read_parts-5.result } in
    let plane = (g.Self.Squares.book c.args.self.now).cells c.args.sq in
    let read = read_all c.args.sq.level _ _ _ _ (g.Self.Squares.book c.read_parts-5.new.self) plane parts c.read_parts.ensures.value
    c.read_parts-2.ensures.adds.keeps c.read_parts-2.ensures.value c.read_parts-3.ensures.adds.keeps c.read_parts-3.ensures.value
    c.read_parts-4.ensures.adds.keeps c.read_parts-4.ensures.value c.read_parts-5.ensures.adds.keeps c.read_parts-5.ensures.value in
    let made = make_left c.requires.level c.requires.known.high (read_kept c.quad.ensures.adds.keeps read) in
    record { level = made.fits; known = made.known }

pub quad-requires-3 : goal.quad-requires-3
quad-requires-3 g c =
    let parts : Parts = record { whole = c.read_parts.result; nw = c.read_parts-2.result; ne = c.read_parts-3.result; sw = c.read_parts-4.result; se = c.read_parts-5.result } in
    let plane = (g.Self.Squares.book c.args.self.now).cells c.args.sq in
    let read = read_all c.args.sq.level _ _ _ _ (g.Self.Squares.book c.read_parts-5.new.self) plane parts c.read_parts.ensures.value
    c.read_parts-2.ensures.adds.keeps c.read_parts-2.ensures.value c.read_parts-3.ensures.adds.keeps c.read_parts-3.ensures.value
    c.read_parts-4.ensures.adds.keeps c.read_parts-4.ensures.value c.read_parts-5.ensures.adds.keeps c.read_parts-5.ensures.value in
    let made = make_middle c.requires.level c.requires.known.high (read_kept c.quad-2.ensures.adds.keeps (read_kept c.quad.ensures.adds.keeps read)) in
    record { level = made.fits; known = made.known }

pub quad-requires-4 : goal.quad-requires-4
quad-requires-4 g c =
    let parts : Parts = record { whole = c.read_parts.result; nw = c.read_parts-2.result; ne = c.read_parts-3.result; sw = c.read_parts-4.result; se = c.read_parts-5.result } in
    let plane = (g.Self.Squares.book c.args.self.now).cells c.args.sq in
    let read = read_all c.args.sq.level _ _ _ _ (g.Self.Squares.book c.read_parts-5.new.self) plane parts c.read_parts.ensures.value
    c.read_parts-2.ensures.adds.keeps c.read_parts-2.ensures.value c.read_parts-3.ensures.adds.keeps c.read_parts-3.ensures.value
    c.read_parts-4.ensures.adds.keeps c.read_parts-4.ensures.value c.read_parts-5.ensures.adds.keeps c.read_parts-5.ensures.value in
    let made = make_right c.requires.level c.requires.known.high (read_kept c.quad-3.ensures.adds.keeps (read_kept c.quad-2.ensures.adds.keeps (read_kept c.quad.ensures.adds.keeps read))) in
    record { level = made.fits; known = made.known }

pub quad-requires-5 : goal.quad-requires-5
quad-requires-5 g c =
    let parts : Parts = record { whole = c.read_parts.result; nw = c.read_parts-2.result; ne = c.read_parts-3.result; sw = c.read_parts-4.result; se = c.read_parts-5.result } in
    let plane = (g.Self.Squares.book c.args.self.now).cells c.args.sq in
    let read = read_all c.args.sq.level _ _ _ _ (g.Self.Squares.book c.read_parts-5.new.self) plane parts c.read_parts.ensures.value
    c.read_parts-2.ensures.adds.keeps c.read_parts-2.ensures.value c.read_parts-3.ensures.adds.keeps c.read_parts-3.ensures.value
    c.read_parts-4.ensures.adds.keeps c.read_parts-4.ensures.value c.read_parts-5.ensures.adds.keeps c.read_parts-5.ensures.value in
    let made = make_lower c.requires.level c.requires.known.high (read_kept c.quad-4.ensures.adds.keeps (read_kept c.quad-3.ensures.adds.keeps (read_kept c.quad-2.ensures.adds.keeps (read_kept c.quad.ensures.adds.keeps read)))) in
    record { level = made.fits; known = made.known }

pub returns-in_err-upper-clause-refusal : goal.returns-in_err-upper-clause-refusal
returns-in_err-upper-clause-refusal g c =
    sent_on (MayRefuse (g.Self.Squares.book c.quad.new.self)) c.from_residual.result c.in_err-upper.field-0.0 c.from_residual.ensures.1 c.in_err-upper.ensures.refusal

pub returns-in_err-left-clause-refusal : goal.returns-in_err-left-clause-refusal
returns-in_err-left-clause-refusal g c =
    sent_on (MayRefuse (g.Self.Squares.book c.quad-2.new.self)) c.from_residual-in_err-left.result c.in_err-left.field-0.0 c.from_residual-in_err-left.ensures.1 c.in_err-left.ensures.refusal

pub returns-in_err-middle-clause-refusal : goal.returns-in_err-middle-clause-refusal
returns-in_err-middle-clause-refusal g c =
    sent_on (MayRefuse (g.Self.Squares.book c.quad-3.new.self)) c.from_residual-in_err-middle.result c.in_err-middle.field-0.0 c.from_residual-in_err-middle.ensures.1 c.in_err-middle.ensures.refusal

pub returns-in_err-right-clause-refusal : goal.returns-in_err-right-clause-refusal
returns-in_err-right-clause-refusal g c =
    sent_on (MayRefuse (g.Self.Squares.book c.quad-4.new.self)) c.from_residual-in_err-right.result c.in_err-right.field-0.0 c.from_residual-in_err-right.ensures.1 c.in_err-right.ensures.refusal

pub returns-in_err-lower-clause-refusal : goal.returns-in_err-lower-clause-refusal
returns-in_err-lower-clause-refusal g c =
    sent_on (MayRefuse (g.Self.Squares.book c.quad-5.new.self)) c.from_residual-in_err-lower.result c.in_err-lower.field-0.0 c.from_residual-in_err-lower.ensures.1 c.in_err-lower.ensures.refusal
