use Rattle.std.proofs.Common.{arith, sym, ◌∙◌}
use Rattle.std.proofs.lemmas.Bool.{false≢true}
use Rattle.squares.proofs.Kept.{adds_none, adds_trans}
use Rattle.hashlife_step.proofs.Trimmed.{centre_reached, centred_kept, smallest_reached}
use Rattle.squares.specs.Book.{MayRefuse}
use Rattle.plane.proofs.SentErrors.{sent_on}
use Rattle.plane.proofs.Same.{same_refl}
use Rattle.hashlife_step.proofs.trimming.trim.Goals as goal
use Rattle.hashlife_step.proofs.trimming.trim.Goals.{then-sq-eq-LEAF_LEVEL+in_ok-trimmed, else-sq-eq-LEAF_LEVEL}

pub loop-trimmed-init : goal.loop-trimmed-init
loop-trimmed-init g c =
    let known = c.requires.known in
    let low = known.low in
    elim c.if-sq-eq-LEAF_LEVEL.branch [
      | then-sq-eq-LEAF_LEVEL+in_ok-trimmed w ↦ let four = w.in_ok-trimmed.ensures.level in rw (w.book-is, w.trimmed-is)
          (record { adds = w.in_ok-trimmed.ensures.adds; shown = w.in_ok-trimmed.ensures.cells; above = omega (arith, four); below = omega (arith, four, low) })
      | else-sq-eq-LEAF_LEVEL w ↦ let other = w.if-sq-eq-LEAF_LEVEL.false in rw (w.book-is, w.trimmed-is)
          (record { adds = adds_none _; shown = record { known = known; cells = same_refl _ }; above = omega (arith, low, other); below = omega (arith, low) })
    ]

pub loop-trimmed-preserved : goal.loop-trimmed-preserved
loop-trimmed-preserved g c =
    let book = g.S.Squares.book in
    let held = c.is_held_by_centre.ensures.value.0 c.if-is_held_by_centre.true in
    centre_reached (book c.args.book.now) (book c.loop-trimmed.book) (book c.is_held_by_centre.new.book) (book c.centre.new.book) _ _ c.loop-trimmed.trimmed c.in_ok-trimmed-2.trimmed
    c.loop-trimmed.invariant c.loop-trimmed-test.true held c.is_held_by_centre.ensures.adds c.in_ok-trimmed-2.ensures.adds c.in_ok-trimmed-2.ensures.ok

pub returns-else-is_held_by_centre-clause-level : goal.returns-else-is_held_by_centre-clause-level
returns-else-is_held_by_centre-clause-level g c =
    let book = g.S.Squares.book in
    smallest_reached (book c.args.book.now) (book c.loop-trimmed.book) _ _ c.loop-trimmed.trimmed c.loop-trimmed.invariant (g.met.S.Squares.is_book c.loop-trimmed.book)
    (λ _ held. false≢true (sym c.if-is_held_by_centre.false ∙ c.is_held_by_centre.ensures.value.1 held))

pub returns-else-is_held_by_centre-clause-cells : goal.returns-else-is_held_by_centre-clause-cells
returns-else-is_held_by_centre-clause-cells g c = centred_kept c.is_held_by_centre.ensures.adds.keeps c.loop-trimmed.invariant.shown

pub returns-after-loop-trimmed-clause-level : goal.returns-after-loop-trimmed-clause-level
returns-after-loop-trimmed-clause-level g c =
    let book = g.S.Squares.book in
    smallest_reached (book c.args.book.now) (book c.loop-trimmed.book) _ _ c.loop-trimmed.trimmed c.loop-trimmed.invariant (g.met.S.Squares.is_book c.loop-trimmed.book) (λ above _. absurd (omega arith))

pub returns-in_err-trimmed-clause-adds : goal.returns-in_err-trimmed-clause-adds
returns-in_err-trimmed-clause-adds g c = c.surround_leaf.ensures.adds

pub returns-in_err-trimmed-2-clause-adds : goal.returns-in_err-trimmed-2-clause-adds
returns-in_err-trimmed-2-clause-adds g c = adds_trans (adds_trans c.loop-trimmed.invariant.adds c.is_held_by_centre.ensures.adds) c.centre.ensures.adds

pub returns-else-is_held_by_centre-clause-adds : goal.returns-else-is_held_by_centre-clause-adds
returns-else-is_held_by_centre-clause-adds g c = adds_trans c.loop-trimmed.invariant.adds c.is_held_by_centre.ensures.adds

pub returns-after-loop-trimmed-clause-adds : goal.returns-after-loop-trimmed-clause-adds
returns-after-loop-trimmed-clause-adds g c = c.loop-trimmed.invariant.adds

pub returns-in_err-trimmed-clause-refusal : goal.returns-in_err-trimmed-clause-refusal
returns-in_err-trimmed-clause-refusal g c =
    sent_on (MayRefuse (g.S.Squares.book c.surround_leaf.new.book)) c.from_residual.result c.in_err-trimmed.field-0.0 c.from_residual.ensures.1 c.in_err-trimmed.ensures.refusal

pub returns-in_err-trimmed-2-clause-refusal : goal.returns-in_err-trimmed-2-clause-refusal
returns-in_err-trimmed-2-clause-refusal g c =
    sent_on (MayRefuse (g.S.Squares.book c.centre.new.book)) c.from_residual-in_err-trimmed-2.result c.in_err-trimmed-2.field-0.0 c.from_residual-in_err-trimmed-2.ensures.1 c.in_err-trimmed-2.ensures.refusal
