use Rattle.std.proofs.Common.{◌-◌, ◌<◌, length, sym, ◌∙◌, subst, arith, rules}
use Rattle.std.proofs.Math.ListN.{length-set}
use Rattle.squares.specs.Book.{IsKnown, Shows, nth}
use Rattle.squares.specs.declared.sq.Sq.{Sq}
use Rattle.squares.proofs.CopyMaps.{copies_known, none_copied, one_copied, part_known, quad_copied, empty_copied}
use Rattle.squares.proofs.Kept.{adds_none, adds_trans, keeps_none, keeps_trans, known_kept}
use Rattle.squares.proofs.KnownCopies.{kept_copies, noted_known_copies, same_known_copies, shown_before, shown_later}
use Rattle.plane.proofs.SentErrors.{sent_on}
use Rattle.squares.proofs.copies.+copy_read.Goals as goal

pub returns-then-is_empty-clause-ok : goal.returns-then-is_empty-clause-ok
returns-then-is_empty-clause-ok g t c =
    empty_copied (g.A.Reading.book c.args.from.now) (g.B.Squares.book c.args.to.now) c.args.sq (g.met.A.Reading.is_book c.args.from.now) (g.met.B.Squares.is_book c.args.to.now) c.requires.known (c.is_empty.ensures.0 c.if-is_empty.true)

pub returns-in-Some-clause-ok : goal.returns-in-Some-clause-ok
returns-in-Some-clause-ok g t c = c.requires.copies.same.same c.args.sq c.in-Some.num.now (sym c.in-Some.ensures.value)

pub returns-then-level-eq-LEAF_LEVEL-clause-ok : goal.returns-then-level-eq-LEAF_LEVEL-clause-ok
returns-then-level-eq-LEAF_LEVEL-clause-ok g t c = search rules

pub returns-then-level-eq-LEAF_LEVEL-clause-copies : goal.returns-then-level-eq-LEAF_LEVEL-clause-copies
returns-then-level-eq-LEAF_LEVEL-clause-copies g t c =
    kept_copies (g.A.Reading.book c.args.from.now) (g.A.Reading.book c.cells_of.new.self) (g.B.Squares.book c.args.to.now) (g.B.Squares.book c.leaf.new.self) c.args.copies.now c.cells_of.ensures.adds.keeps c.leaf.ensures.adds.keeps c.requires.copies

pub loop-quarter-init : goal.loop-quarter-init
loop-quarter-init g t c = record {
  size = search rules;
  copied = none_copied _ _ _;
  copies = kept_copies (g.A.Reading.book c.args.from.now) (g.A.Reading.book c.quarters_of-quarters.new.self) (g.B.Squares.book c.args.to.now) (g.B.Squares.book c.args.to.now) c.args.copies.now c.quarters_of-quarters.ensures.adds.keeps (keeps_none _) c.requires.copies;
  reads = adds_none _;
  adds = adds_none _;
}

pub copy_read-requires : goal.copy_read-requires
copy_read-requires g t c κs within =
    let first = g.A.Reading.book c.quarters_of-quarters.new.self in
    let book = g.A.Reading.book c.loop-quarter.from in
    let next = nth c.loop-quarter.quarter-items c.loop-quarter.quarter-index in
    let below : c.loop-quarter.quarter-index < 4 = c.loop-quarter-test.true in
    let part = part_known first c.args.sq.level ((g.A.Reading.book c.args.from.now).cells c.args.sq) c.quarters_of-quarters.result c.loop-quarter.quarter-index below c.quarters_of-quarters.ensures.value in
    let same = c.loop-quarter.invariant.copied.left c.loop-quarter.quarter-index (omega arith) in
    let known : IsKnown book (c.args.sq.level - 1) next = known_kept c.loop-quarter.invariant.reads.keeps (subst (IsKnown first (c.args.sq.level - 1)) (sym same) part) in
    let own : IsKnown book next.level next = subst (λ n. IsKnown book n next) (sym known.at_level) known in
    let at_level = known.at_level in
    let low = c.requires.known.low in
    (search rules, (search rules, (search rules, (own, c.loop-quarter.invariant.copies))))

pub loop-quarter-preserved : goal.loop-quarter-preserved
loop-quarter-preserved g t c =
    let first = g.A.Reading.book c.quarters_of-quarters.new.self in
    let from = g.A.Reading.book c.loop-quarter.from in
    let to = g.B.Squares.book c.copy_read.new.to in
    let h = c.loop-quarter.invariant in
    let made = c.copy_read.ensures in
    let size = h.size in
    let below : c.loop-quarter.quarter-index < 4 = c.loop-quarter-test.true in
    let within : c.loop-quarter.quarter-index < length c.loop-quarter.quarter-items = omega arith in
    let square = h.copied.left c.loop-quarter.quarter-index (omega arith) in
    let part = part_known first c.args.sq.level ((g.A.Reading.book c.args.from.now).cells c.args.sq) c.quarters_of-quarters.result c.loop-quarter.quarter-index below c.quarters_of-quarters.ensures.value in
    let shown = subst (λ (sq : Sq). Shows to sq.level (from.cells sq) c.in_ok-quarter.field-0) square c.in_ok-quarter.ensures.ok in
    let early = shown_before first from to _ (nth c.quarters_of-quarters.result c.loop-quarter.quarter-index) c.in_ok-quarter.field-0 h.reads.keeps part.known shown in
    record {
      size = length-set c.loop-quarter.quarter-items c.loop-quarter.quarter-index c.in_ok-quarter.field-0 ∙ h.size;
      copied = one_copied first _ _ c.quarters_of-quarters.result c.loop-quarter.quarter-index c.loop-quarter.quarter-items c.in_ok-quarter.field-0 made.adds.keeps within h.copied early;
      copies = made.copies;
      reads = adds_trans h.reads made.from;
      adds = adds_trans h.adds made.adds;
    }

pub quad-requires-clause-known : goal.quad-requires-clause-known
quad-requires-clause-known g t c =
    let first = g.A.Reading.book c.quarters_of-quarters.new.self in
    let to = g.B.Squares.book c.loop-quarter.to in
    copies_known first to c.args.sq.level ((g.A.Reading.book c.args.from.now).cells c.args.sq) c.quarters_of-quarters.result c.loop-quarter.quarter-items _ c.loop-quarter.invariant.size c.quarters_of-quarters.ensures.value (omega arith) c.loop-quarter.invariant.copied

pub quad-requires-clause-level : goal.quad-requires-clause-level
quad-requires-clause-level g t c =
    let copy = (c.loop-quarter.invariant.copied.made 0 (omega arith)).known.at_level in
    let part = c.quarters_of-quarters.ensures.value.nw.known.at_level in
    let low = c.requires.known.low in
    let high = c.requires.known.high in
    omega arith

pub returns-in_err-copy-clause-copies : goal.returns-in_err-copy-clause-copies
returns-in_err-copy-clause-copies g t c =
    kept_copies (g.A.Reading.book c.loop-quarter.from) (g.A.Reading.book c.loop-quarter.from) (g.B.Squares.book c.loop-quarter.to) (g.B.Squares.book c.quad.new.self) c.loop-quarter.copies (keeps_none _) c.quad.ensures.adds.keeps c.loop-quarter.invariant.copies

pub returns-in_err-insert-clause-copies : goal.returns-in_err-insert-clause-copies
returns-in_err-insert-clause-copies g t c =
    let from = g.A.Reading.book c.loop-quarter.from in
    let now = g.B.Squares.book c.quad.new.self in
    same_known_copies from now c.loop-quarter.copies c.insert.new.self c.in_err-insert.ensures.err
    (kept_copies from from (g.B.Squares.book c.loop-quarter.to) now c.loop-quarter.copies (keeps_none _) c.quad.ensures.adds.keeps c.loop-quarter.invariant.copies)

pub returns-clause-ok : goal.returns-clause-ok
returns-clause-ok g t c =
    let was = g.A.Reading.book c.args.from.now in
    let first = g.A.Reading.book c.quarters_of-quarters.new.self in
    let sq = c.args.sq in
    let low = c.requires.known.low in
    let more = c.if-level-eq-LEAF_LEVEL.false in
    quad_copied first (g.B.Squares.book c.loop-quarter.to) (g.B.Squares.book c.quad.new.self) sq.level (was.cells sq) c.quarters_of-quarters.result c.loop-quarter.quarter-items _ c.in_ok-copy.copy (omega arith)
    ((g.met.A.Reading.is_book c.args.from.now).square sq c.requires.known.known) c.quarters_of-quarters.ensures.value (omega arith) c.loop-quarter.invariant.copied c.in_ok-copy.ensures.ok

pub returns-clause-copies : goal.returns-clause-copies
returns-clause-copies g t c =
    let was = g.A.Reading.book c.args.from.now in
    let first = g.A.Reading.book c.quarters_of-quarters.new.self in
    let from = g.A.Reading.book c.loop-quarter.from in
    let to = g.B.Squares.book c.loop-quarter.to in
    let now = g.B.Squares.book c.quad.new.self in
    let sq = c.args.sq in
    let low = c.requires.known.low in
    let more = c.if-level-eq-LEAF_LEVEL.false in
    let reads = keeps_trans c.quarters_of-quarters.ensures.adds.keeps c.loop-quarter.invariant.reads.keeps in
    let shown = quad_copied first to now sq.level (was.cells sq) c.quarters_of-quarters.result c.loop-quarter.quarter-items _ c.in_ok-copy.copy (omega arith)
    ((g.met.A.Reading.is_book c.args.from.now).square sq c.requires.known.known) c.quarters_of-quarters.ensures.value (omega arith) c.loop-quarter.invariant.copied c.in_ok-copy.ensures.ok in
    noted_known_copies from now c.loop-quarter.copies c.insert.new.self sq c.in_ok-copy.copy c.in_ok-insert.ensures.updates (reads.known sq c.requires.known.known)
    (shown_later was from now sq.level sq c.in_ok-copy.copy reads c.requires.known.known shown)
    (kept_copies from from to now c.loop-quarter.copies (keeps_none _) c.quad.ensures.adds.keeps c.loop-quarter.invariant.copies)

pub returns-then-is_empty-clause-from : goal.returns-then-is_empty-clause-from
returns-then-is_empty-clause-from g t c = adds_none _

pub returns-then-is_empty-clause-adds : goal.returns-then-is_empty-clause-adds
returns-then-is_empty-clause-adds g t c = adds_none _

pub returns-then-level-eq-LEAF_LEVEL-clause-from : goal.returns-then-level-eq-LEAF_LEVEL-clause-from
returns-then-level-eq-LEAF_LEVEL-clause-from g t c = c.cells_of.ensures.adds

pub returns-then-level-eq-LEAF_LEVEL-clause-adds : goal.returns-then-level-eq-LEAF_LEVEL-clause-adds
returns-then-level-eq-LEAF_LEVEL-clause-adds g t c = c.leaf.ensures.adds

pub returns-in-Some-clause-from : goal.returns-in-Some-clause-from
returns-in-Some-clause-from g t c = adds_none _

pub returns-in-Some-clause-adds : goal.returns-in-Some-clause-adds
returns-in-Some-clause-adds g t c = adds_none _

pub returns-in_err-quarter-clause-from : goal.returns-in_err-quarter-clause-from
returns-in_err-quarter-clause-from g t c = adds_trans c.quarters_of-quarters.ensures.adds (adds_trans c.loop-quarter.invariant.reads c.copy_read.ensures.from)

pub returns-in_err-quarter-clause-adds : goal.returns-in_err-quarter-clause-adds
returns-in_err-quarter-clause-adds g t c = adds_trans c.loop-quarter.invariant.adds c.copy_read.ensures.adds

pub returns-in_err-copy-clause-from : goal.returns-in_err-copy-clause-from
returns-in_err-copy-clause-from g t c = adds_trans c.quarters_of-quarters.ensures.adds c.loop-quarter.invariant.reads

pub returns-in_err-copy-clause-adds : goal.returns-in_err-copy-clause-adds
returns-in_err-copy-clause-adds g t c = adds_trans c.loop-quarter.invariant.adds c.quad.ensures.adds

pub returns-in_err-insert-clause-from : goal.returns-in_err-insert-clause-from
returns-in_err-insert-clause-from g t c = adds_trans c.quarters_of-quarters.ensures.adds c.loop-quarter.invariant.reads

pub returns-in_err-insert-clause-adds : goal.returns-in_err-insert-clause-adds
returns-in_err-insert-clause-adds g t c = adds_trans c.loop-quarter.invariant.adds c.quad.ensures.adds

pub returns-clause-from : goal.returns-clause-from
returns-clause-from g t c = adds_trans c.quarters_of-quarters.ensures.adds c.loop-quarter.invariant.reads

pub returns-clause-adds : goal.returns-clause-adds
returns-clause-adds g t c = adds_trans c.loop-quarter.invariant.adds c.quad.ensures.adds

pub returns-in_err-quarter-clause-refusal : goal.returns-in_err-quarter-clause-refusal
returns-in_err-quarter-clause-refusal g t c = sent_on _ c.from_residual.result c.in_err-quarter.field-0.0 c.from_residual.ensures.1 c.in_err-quarter.ensures.refusal
