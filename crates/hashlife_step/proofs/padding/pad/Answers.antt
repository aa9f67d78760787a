use Rattle.std.proofs.Common.{arith}
use Rattle.squares.proofs.Kept.{adds_none, adds_trans}
use Rattle.squares.specs.Book.{MayRefuse}
use Rattle.hashlife_step.proofs.CentredSquares.{room_after}
use Rattle.plane.proofs.SentErrors.{sent_on}
use Rattle.plane.proofs.Same.{same_refl}
use Rattle.hashlife_step.proofs.padding.pad.Goals as goal
use Rattle.hashlife_step.proofs.padding.pad.Goals.{then-sq-eq-LEAF_LEVEL+in_ok-padded, else-sq-eq-LEAF_LEVEL}

pub loop-padded-init : goal.loop-padded-init
loop-padded-init g c =
    let known = c.requires.known in
    let low = known.low in
    let most = c.max-level.ensures in
    elim c.if-sq-eq-LEAF_LEVEL.branch [
      | then-sq-eq-LEAF_LEVEL+in_ok-padded w ↦ let four = w.in_ok-padded.ensures.level in rw (w.book-is, w.padded-is)
          (record { adds = w.in_ok-padded.ensures.adds; shown = w.in_ok-padded.ensures.cells; above = omega (arith, four); below = omega (arith, four, low, most) })
      | else-sq-eq-LEAF_LEVEL w ↦ let other = w.if-sq-eq-LEAF_LEVEL.false in rw (w.book-is, w.padded-is)
          (record { adds = adds_none _; shown = record { known = known; cells = same_refl _ }; above = omega (arith, low, other); below = omega (arith, low, most) })
    ]

pub returns-clause-room : goal.returns-clause-room
returns-clause-room g c =
    room_after (g.S.Squares.book c.args.book.now) c.args.sq c.args.exponent c.loop-padded.padded.level
    (g.met.S.Squares.is_book c.args.book.now) c.requires.known (let i = c.loop-padded.invariant in omega arith)

pub returns-clause-level : goal.returns-clause-level
returns-clause-level g c = let i = c.loop-padded.invariant in omega arith

pub returns-in_err-padded-clause-adds : goal.returns-in_err-padded-clause-adds
returns-in_err-padded-clause-adds g c = c.surround_leaf.ensures.adds

pub returns-in_err-padded-2-clause-adds : goal.returns-in_err-padded-2-clause-adds
returns-in_err-padded-2-clause-adds g c = adds_trans c.loop-padded.invariant.adds c.grow.ensures.adds

pub returns-clause-adds : goal.returns-clause-adds
returns-clause-adds g c = c.loop-padded.invariant.adds

pub returns-in_err-padded-clause-refusal : goal.returns-in_err-padded-clause-refusal
returns-in_err-padded-clause-refusal g c =
    sent_on (MayRefuse (g.S.Squares.book c.surround_leaf.new.book)) c.from_residual.result c.in_err-padded.field-0.0 c.from_residual.ensures.1 c.in_err-padded.ensures.refusal

pub returns-in_err-padded-2-clause-refusal : goal.returns-in_err-padded-2-clause-refusal
returns-in_err-padded-2-clause-refusal g c =
    sent_on (MayRefuse (g.S.Squares.book c.grow.new.book)) c.from_residual-in_err-padded-2.result c.in_err-padded-2.field-0.0 c.from_residual-in_err-padded-2.ensures.1 c.in_err-padded-2.ensures.refusal

pub returns-clause-cells : goal.returns-clause-cells
returns-clause-cells g c = c.loop-padded.invariant.shown
