use Rattle.std.proofs.Common.{Err, rules, arith, ℕ, ◌≡◌, ◌+◌, ◌-◌, ◌<◌, length, sym, subst}
use Rattle.std.proofs.lemmas.Result.{IfOk-weaker}
use Rattle.std.proofs.result.Match.{err_is}
use Rattle.plane.specs.Square.{future}
use Rattle.squares.specs.Book.{IsKnown, MayRefuse, nth, numbered}
use Rattle.squares.specs.declared.sq.Sq.{Sq}
use Rattle.squares.proofs.Kept.{adds_none, keeps_trans, known_kept}
use Rattle.squares.proofs.Results.{future_kept}
use Rattle.hashlife_step.specs.Tallies.{Tallies}
use Rattle.hashlife_step.proofs.Counted.{made_and_kept, made_between, makes_at, makes_none, makes_trans, makes_up_to, results_none, tallies_learned, tallies_trans}
use Rattle.squares.proofs.FourKnown.{known_as}
use Rattle.hashlife_step.proofs.LeafSquares.{future_later}
use Rattle.hashlife_step.proofs.NineFutures.{finished_known, futures_known, made_known, nine_futures, subsquares_known, of_first, overlaps_finished}
use Rattle.hashlife_step.proofs.Replaced.{IsReplaced, all_futures, future_shown, next_known, next_made, none_replaced, replaced_kept, replaced_more, some_futures}
use Rattle.plane.proofs.SentErrors.{sent_on}
use Rattle.hashlife_step.proofs.recursion.+future.Goals as goal

pub future_in_order-returns-in-Some : goal.future_in_order-returns-in-Some
future_in_order-returns-in-Some g t c = record {
  ok = c.in-Some.ensures.some;
  kept = c.in-Some.ensures.results.known;
  refusal = tt;
  makes = record {
    keeps = c.recall.ensures.keeps;
    tally = tallies_learned (g.S.Squares.book c.args.book.now) (g.S.Squares.book c.recall.new.self) c.args.sq c.args.sq.level c.args.tally.now.expansions (omega arith) c.in-Some.ensures.results;
  };
}

pub future_in_order-returns-in_err-future : goal.future_in_order-returns-in_err-future
future_in_order-returns-in_err-future g t c =
    let is : c.from_residual.result ≡ Err c.in_err-future.field-0.0 = err_is _ _ c.from_residual.ensures.1 in
    rw is (record {
      ok = tt;
      kept = tt;
      refusal = c.in_err-future.ensures.refusal;
      makes = record {
        keeps = keeps_trans c.recall.ensures.keeps c.make.ensures.makes.keeps;
        tally = made_between (g.S.Squares.book c.args.book.now) (g.S.Squares.book c.recall.new.self) (g.S.Squares.book c.make.new.book) (g.S.Squares.book c.make.new.book)
            (c.args.sq.level - 1) c.args.sq.level c.args.tally.now.expansions c.make.new.tally.expansions (omega arith) c.in_default.ensures.results c.make.ensures.makes.tally (results_none _);
      };
    })

pub future_in_order-returns-in_err-keep : goal.future_in_order-returns-in_err-keep
future_in_order-returns-in_err-keep g t c =
    let is : c.from_residual-in_err-keep.result ≡ Err c.in_err-keep.field-0.0 = err_is _ _ c.from_residual-in_err-keep.ensures.1 in
    rw is (record {
      ok = tt;
      kept = tt;
      refusal = c.in_err-keep.ensures.refusal;
      makes = record {
        keeps = keeps_trans c.recall.ensures.keeps (keeps_trans c.make.ensures.makes.keeps c.keep.ensures.keeps);
        tally = made_between (g.S.Squares.book c.args.book.now) (g.S.Squares.book c.recall.new.self) (g.S.Squares.book c.make.new.book) (g.S.Squares.book c.keep.new.self)
            (c.args.sq.level - 1) c.args.sq.level c.args.tally.now.expansions c.make.new.tally.expansions (omega arith) c.in_default.ensures.results c.make.ensures.makes.tally c.in_err-keep.ensures.err;
      };
    })

pub future_in_order-returns : goal.future_in_order-returns
future_in_order-returns g t c = record {
  ok = future_kept (g.S.Squares.book c.make.new.book) (g.S.Squares.book c.keep.new.self) c.args.sq c.in_ok-future.future c.keep.ensures.keeps
      (known_kept (keeps_trans c.recall.ensures.keeps c.make.ensures.makes.keeps) c.requires.known) c.in_ok-future.ensures.ok;
  kept = c.in_ok-keep.ensures.ok.known;
  refusal = tt;
  makes = record {
    keeps = keeps_trans c.recall.ensures.keeps (keeps_trans c.make.ensures.makes.keeps c.keep.ensures.keeps);
    tally = made_and_kept (g.S.Squares.book c.args.book.now) (g.S.Squares.book c.recall.new.self) (g.S.Squares.book c.make.new.book) (g.S.Squares.book c.keep.new.self) c.args.sq
        c.args.tally.now.expansions c.make.new.tally.expansions c.add.new.self.expansions c.requires.low c.in_default.ensures.results c.in_default.ensures.none c.make.ensures.makes.tally c.in_ok-keep.ensures.ok c.add.ensures;
  };
}

pub make-replace_by_futures-requires : goal.make-replace_by_futures-requires
make-replace_by_futures-requires g t c κs within =
    let known = subsquares_known (g.S.Squares.book c.nine.new.self) c.args.sq.level _ c.in_ok-parts.parts (search rules) c.in_ok-parts.ensures.ok in
    search rules

pub replace_by_futures-loop-i-preserved : goal.replace_by_futures-loop-i-preserved
replace_by_futures-loop-i-preserved g t c =
    let book = g.S.Squares.book in
    let old = book c.args.book.now in
    let replaced = c.loop-i.invariant.0 in
    let same = replaced.same_length in
    let inside : c.loop-i.i < length c.args.squares.now = omega arith in
    let known = next_known (future old.rule old.exponent c.args.level) old (book c.loop-i.book) c.args.level c.loop-i.i c.args.squares.now c.loop-i.squares replaced inside c.requires.known in
    let shown = future_shown old (book c.loop-i.book) (book c.future_in_order.new.book) c.args.level (nth c.loop-i.squares c.loop-i.i) c.in_ok-squares.field-0 replaced.keeps c.future_in_order.ensures.makes.keeps known c.in_ok-squares.ensures.ok in
    let made = next_made (future old.rule old.exponent c.args.level) old (book c.loop-i.book) (book c.future_in_order.new.book) c.args.level c.loop-i.i c.args.squares.now c.loop-i.squares c.in_ok-squares.field-0 replaced inside c.requires.known shown in (
      replaced_more (future old.rule old.exponent c.args.level) old (book c.loop-i.book) (book c.future_in_order.new.book) c.args.level c.loop-i.i c.args.squares.now c.loop-i.squares c.in_ok-squares.field-0 replaced inside c.future_in_order.ensures.makes.keeps made,
      tallies_trans old (book c.loop-i.book) (book c.future_in_order.new.book) c.args.level c.args.level _ _ _ (omega arith) c.loop-i.invariant.1
          (subst (λ n. Tallies (book c.loop-i.book) (book c.future_in_order.new.book) n c.loop-i.tally.expansions c.future_in_order.new.tally.expansions) known.at_level c.future_in_order.ensures.makes.tally),
    )

pub future_in_order-keep-requires-clause-known : goal.future_in_order-keep-requires-clause-known
future_in_order-keep-requires-clause-known g t c = known_kept (keeps_trans c.recall.ensures.keeps c.make.ensures.makes.keeps) c.requires.known

pub replace_by_futures-loop-i-init : goal.replace_by_futures-loop-i-init
replace_by_futures-loop-i-init g t c = (replaced_kept _ _ _ _ _ c.ask_ahead.ensures.makes.keeps, c.ask_ahead.ensures.makes.tally)

pub replace_by_futures-future_in_order-requires : goal.replace_by_futures-future_in_order-requires
replace_by_futures-future_in_order-requires g t c κs within =
    let book = g.S.Squares.book in
    let replaced = c.loop-i.invariant.0 in
    let same = replaced.same_length in
    let known = next_known (future (book c.args.book.now).rule (book c.args.book.now).exponent c.args.level) (book c.args.book.now) (book c.loop-i.book) c.args.level c.loop-i.i c.args.squares.now c.loop-i.squares replaced (omega arith) c.requires.known in
    let at_level = known.at_level in let low = c.requires.low in
    let own = known_as (sym at_level) known in
    search rules

pub replace_by_futures-returns-clause-ok : goal.replace_by_futures-returns-clause-ok
replace_by_futures-returns-clause-ok g t c =
    let old = g.S.Squares.book c.args.book.now in
    let now = g.S.Squares.book c.loop-i.book in
    let replaced = c.loop-i.invariant.0 in
    let same = replaced.same_length in
    let all : c.loop-i.i ≡ length c.args.squares.now = omega arith in
    all_futures old now c.args.level c.args.squares.now c.loop-i.squares
    (subst (λ n. IsReplaced (future old.rule old.exponent c.args.level) old now c.args.level n c.args.squares.now c.loop-i.squares) all replaced) c.requires.known

pub ask_ahead-loop-k-init : goal.ask_ahead-loop-k-init
ask_ahead-loop-k-init g t c = makes_none (adds_none _)

pub ask_ahead-future_in_order-requires : goal.ask_ahead-future_in_order-requires
ask_ahead-future_in_order-requires g t c κs within =
    let book = g.S.Squares.book in
    let known : IsKnown (book c.loop-k.book) c.args.level (nth c.args.squares.now c.index.result) = known_kept c.loop-k.invariant.keeps (c.requires.known c.index.result (numbered 0 0) c.index.ensures) in
    let at_level = known.at_level in let low = c.requires.low in
    let own = known_as (sym at_level) known in
    search rules

pub ask_ahead-loop-k-preserved : goal.ask_ahead-loop-k-preserved
ask_ahead-loop-k-preserved g t c =
    let known : IsKnown (g.S.Squares.book c.loop-k.book) c.args.level (nth c.args.squares.now c.index.result) = known_kept c.loop-k.invariant.keeps (c.requires.known c.index.result (numbered 0 0) c.index.ensures) in
    makes_trans c.loop-k.invariant (makes_at known.at_level c.future_in_order.ensures.makes)

pub ask_ahead-returns-in_err-future_in_order-clause-makes : goal.ask_ahead-returns-in_err-future_in_order-clause-makes
ask_ahead-returns-in_err-future_in_order-clause-makes g t c =
    let known : IsKnown (g.S.Squares.book c.loop-k.book) c.args.level (nth c.args.squares.now c.index.result) = known_kept c.loop-k.invariant.keeps (c.requires.known c.index.result (numbered 0 0) c.index.ensures) in
    makes_trans c.loop-k.invariant (makes_at known.at_level c.future_in_order.ensures.makes)

pub make-finish-requires : goal.make-finish-requires
make-finish-requires g t c κs within =
    let long : length c.replace_by_futures.new.squares ≡ length c.in_ok-parts.parts = c.replace_by_futures.auto.squares in
    let known = futures_known (g.S.Squares.book c.replace_by_futures.new.book) (c.args.sq.level - 1) c.in_ok-parts.parts c.replace_by_futures.new.squares long c.in_ok-replace_by_futures.ensures.ok in
    let high = c.requires.known.high in
    search rules

pub make-quad-requires-clause-known : goal.make-quad-requires-clause-known
make-quad-requires-clause-known g t c =
    let four : length c.in_ok-quarters.quarters ≡ 4 = search rules in
    of_first (g.S.Squares.book c.finish.new.book) (c.args.sq.level - 1 - 1) c.in_ok-quarters.quarters (omega arith)
    (finished_known (g.S.Squares.book c.finish.new.book) (c.args.sq.level - 1 - 1) c.replace_by_futures.new.squares c.in_ok-quarters.quarters four c.in_ok-quarters.ensures.ok)

pub make-quad-requires-clause-level : goal.make-quad-requires-clause-level
make-quad-requires-clause-level g t c =
    let four : length c.in_ok-quarters.quarters ≡ 4 = search rules in
    let known = finished_known (g.S.Squares.book c.finish.new.book) (c.args.sq.level - 1 - 1) c.replace_by_futures.new.squares c.in_ok-quarters.quarters four c.in_ok-quarters.ensures.ok in
    let at_level = (known 0 (numbered 0 0) (omega arith)).at_level in let high = c.requires.known.high in omega arith

pub make-returns-clause-ok : goal.make-returns-clause-ok
make-returns-clause-ok g t c =
    let book = g.S.Squares.book in
    let old = book c.args.book.now in
    let b1 = book c.nine.new.self in let b2 = book c.replace_by_futures.new.book in let b3 = book c.finish.new.book in
    let k2 = c.replace_by_futures.ensures.makes.keeps in let k3 = c.finish.ensures.makes.keeps in
    let to2 = keeps_trans c.nine.ensures.adds.keeps k2 in let to3 = keeps_trans to2 k3 in
    let nine : length c.in_ok-parts.parts ≡ 9 = search rules in
    let least : 4 < c.args.sq.level = omega arith in
    IfOk-weaker c.quad.result _ _
    (λ res shown. future_later old (book c.quad.new.self) c.args.sq res (keeps_trans to3 c.quad.ensures.adds.keeps) c.requires.known
    (nine_futures c.args.sq.level old.rule old.exponent (old.cells c.args.sq) b1 b2 b3 (book c.quad.new.self) c.in_ok-parts.parts c.replace_by_futures.new.squares c.in_ok-quarters.quarters res
    least nine to2.rule to2.exponent to3.rule to3.exponent c.in_ok-parts.ensures.ok k2 c.in_ok-replace_by_futures.ensures.ok k3 c.in_ok-quarters.ensures.ok shown))
    c.quad.ensures.ok

pub finish-returns-then-exponent-level-clause-ok : goal.finish-returns-then-exponent-level-clause-ok
finish-returns-then-exponent-level-clause-ok g t c =
    let exponent = c.four_centres.ensures.adds.keeps.exponent in
    IfOk-weaker c.four_centres.result _ _ (λ four are. record { futures = λ long. absurd (omega arith); four_centres = λ short. are }) c.four_centres.ensures.ok

pub finish-replace_by_futures-requires : goal.finish-replace_by_futures-requires
finish-replace_by_futures-requires g t c κs within =
    let four : length c.in_ok-four.four ≡ 4 = search rules in
    let known = made_known (λ plane. plane) (g.S.Squares.book c.overlaps.new.self) (c.args.level + 1) c.args.level c.args.nine c.in_ok-four.four four c.in_ok-four.ensures.ok in
    search rules

pub finish-returns-clause-ok : goal.finish-returns-clause-ok
finish-returns-clause-ok g t c =
    let book = g.S.Squares.book in
    let nine : length c.args.nine ≡ 9 = search rules in
    let four : length c.in_ok-four.four ≡ 4 = search rules in
    let kept = keeps_trans c.overlaps.ensures.adds.keeps c.replace_by_futures.ensures.makes.keeps in
    let exponent = kept.exponent in
    let known = λ (i : ℕ) (d : Sq) (less : i < length c.args.nine). known_kept c.overlaps.ensures.adds.keeps (c.requires.known i d less) in
    record {
      futures = λ long. overlaps_finished (book c.overlaps.new.self) (book c.replace_by_futures.new.book) c.args.level c.args.nine c.in_ok-four.four c.replace_by_futures.new.squares nine four
          known c.in_ok-four.ensures.ok c.replace_by_futures.ensures.makes.keeps c.in_ok-replace_by_futures.ensures.ok;
      four_centres = λ short. absurd (omega arith);
    }

pub make-returns-in_err-replace_by_futures-clause-makes : goal.make-returns-in_err-replace_by_futures-clause-makes
make-returns-in_err-replace_by_futures-clause-makes g t c = makes_trans (makes_none c.nine.ensures.adds) c.replace_by_futures.ensures.makes

pub make-returns-in_err-quarters-clause-makes : goal.make-returns-in_err-quarters-clause-makes
make-returns-in_err-quarters-clause-makes g t c =
    makes_trans (makes_trans (makes_none c.nine.ensures.adds) c.replace_by_futures.ensures.makes) (makes_up_to (omega arith) c.finish.ensures.makes)

pub make-returns-clause-makes : goal.make-returns-clause-makes
make-returns-clause-makes g t c =
    let futures = makes_trans (makes_none c.nine.ensures.adds) c.replace_by_futures.ensures.makes in
    makes_trans futures (makes_trans (makes_up_to (omega arith) c.finish.ensures.makes) (makes_none c.quad.ensures.adds))

pub finish-returns-then-exponent-level-clause-makes : goal.finish-returns-then-exponent-level-clause-makes
finish-returns-then-exponent-level-clause-makes g t c = makes_none c.four_centres.ensures.adds

pub finish-returns-in_err-four-clause-makes : goal.finish-returns-in_err-four-clause-makes
finish-returns-in_err-four-clause-makes g t c = makes_none c.overlaps.ensures.adds

pub finish-returns-in_err-replace_by_futures-clause-makes : goal.finish-returns-in_err-replace_by_futures-clause-makes
finish-returns-in_err-replace_by_futures-clause-makes g t c = makes_trans (makes_none c.overlaps.ensures.adds) c.replace_by_futures.ensures.makes

pub finish-returns-clause-makes : goal.finish-returns-clause-makes
finish-returns-clause-makes g t c = makes_trans (makes_none c.overlaps.ensures.adds) c.replace_by_futures.ensures.makes

pub replace_by_futures-returns-in_err-squares-clause-makes : goal.replace_by_futures-returns-in_err-squares-clause-makes
replace_by_futures-returns-in_err-squares-clause-makes g t c =
    let book = g.S.Squares.book in
    let replaced = c.loop-i.invariant.0 in
    let same = replaced.same_length in
    let known = next_known (future (book c.args.book.now).rule (book c.args.book.now).exponent c.args.level) (book c.args.book.now) (book c.loop-i.book) c.args.level c.loop-i.i c.args.squares.now c.loop-i.squares replaced (omega arith) c.requires.known in
    makes_trans (record { keeps = replaced.keeps; tally = c.loop-i.invariant.1 }) (makes_at known.at_level c.future_in_order.ensures.makes)

pub make-returns-then-sq-clause-makes : goal.make-returns-then-sq-clause-makes
make-returns-then-sq-clause-makes g t c = makes_none c.leaf_future.ensures.adds

pub make-returns-then-sq-eq-BASE_LEVEL-clause-makes : goal.make-returns-then-sq-eq-BASE_LEVEL-clause-makes
make-returns-then-sq-eq-BASE_LEVEL-clause-makes g t c = makes_none c.base_future.ensures.adds

pub make-returns-in_err-parts-clause-makes : goal.make-returns-in_err-parts-clause-makes
make-returns-in_err-parts-clause-makes g t c = makes_none c.nine.ensures.adds

pub finish-overlaps-requires-clause-known : goal.finish-overlaps-requires-clause-known
finish-overlaps-requires-clause-known g t c = c.requires.known

pub replace_by_futures-returns-in_err-ask_ahead-clause-makes : goal.replace_by_futures-returns-in_err-ask_ahead-clause-makes
replace_by_futures-returns-in_err-ask_ahead-clause-makes g t c = c.ask_ahead.ensures.makes

pub replace_by_futures-returns-clause-makes : goal.replace_by_futures-returns-clause-makes
replace_by_futures-returns-clause-makes g t c = record { keeps = c.loop-i.invariant.0.keeps; tally = c.loop-i.invariant.1 }

pub ask_ahead-returns-clause-makes : goal.ask_ahead-returns-clause-makes
ask_ahead-returns-clause-makes g t c = c.loop-k.invariant

pub ask_ahead-returns-in_default-clause-makes : goal.ask_ahead-returns-in_default-clause-makes
ask_ahead-returns-in_default-clause-makes g t c = makes_none (adds_none _)

pub replace_by_futures-returns-in_err-ask_ahead-clause-err : goal.replace_by_futures-returns-in_err-ask_ahead-clause-err
replace_by_futures-returns-in_err-ask_ahead-clause-err g t c =
    let is : c.from_residual.result ≡ Err c.in_err-ask_ahead.field-0.0 = err_is _ _ c.from_residual.ensures.1 in
    rw is (none_replaced (g.S.Squares.book c.ask_ahead.new.book) c.args.level c.args.squares.now)

pub replace_by_futures-returns-in_err-squares-clause-err : goal.replace_by_futures-returns-in_err-squares-clause-err
replace_by_futures-returns-in_err-squares-clause-err g t c =
    let is : c.from_residual-in_err-squares.result ≡ Err c.in_err-squares.field-0.0 = err_is _ _ c.from_residual-in_err-squares.ensures.1 in
    rw is (some_futures (g.S.Squares.book c.args.book.now) (g.S.Squares.book c.loop-i.book) (g.S.Squares.book c.future_in_order.new.book) c.args.level c.loop-i.i c.args.squares.now c.loop-i.squares
    c.loop-i.invariant.0 c.future_in_order.ensures.makes.keeps c.requires.known)

pub make-returns-in_err-parts-clause-refusal : goal.make-returns-in_err-parts-clause-refusal
make-returns-in_err-parts-clause-refusal g t c =
    sent_on (MayRefuse (g.S.Squares.book c.nine.new.self)) c.from_residual.result c.in_err-parts.field-0.0 c.from_residual.ensures.1 c.in_err-parts.ensures.refusal

pub make-returns-in_err-replace_by_futures-clause-refusal : goal.make-returns-in_err-replace_by_futures-clause-refusal
make-returns-in_err-replace_by_futures-clause-refusal g t c =
    sent_on (MayRefuse (g.S.Squares.book c.replace_by_futures.new.book)) c.from_residual-in_err-replace_by_futures.result c.in_err-replace_by_futures.field-0.0 c.from_residual-in_err-replace_by_futures.ensures.1 c.in_err-replace_by_futures.ensures.refusal

pub make-returns-in_err-quarters-clause-refusal : goal.make-returns-in_err-quarters-clause-refusal
make-returns-in_err-quarters-clause-refusal g t c =
    sent_on (MayRefuse (g.S.Squares.book c.finish.new.book)) c.from_residual-in_err-quarters.result c.in_err-quarters.field-0.0 c.from_residual-in_err-quarters.ensures.1 c.in_err-quarters.ensures.refusal

pub make-returns-then-sq-clause-refusal : goal.make-returns-then-sq-clause-refusal
make-returns-then-sq-clause-refusal g t c = c.leaf_future.ensures.refusal

pub make-returns-then-sq-eq-BASE_LEVEL-clause-refusal : goal.make-returns-then-sq-eq-BASE_LEVEL-clause-refusal
make-returns-then-sq-eq-BASE_LEVEL-clause-refusal g t c = c.base_future.ensures.refusal

pub make-returns-clause-refusal : goal.make-returns-clause-refusal
make-returns-clause-refusal g t c = c.quad.ensures.refusal

pub finish-returns-in_err-four-clause-refusal : goal.finish-returns-in_err-four-clause-refusal
finish-returns-in_err-four-clause-refusal g t c =
    sent_on (MayRefuse (g.S.Squares.book c.overlaps.new.self)) c.from_residual.result c.in_err-four.field-0.0 c.from_residual.ensures.1 c.in_err-four.ensures.refusal

pub finish-returns-in_err-replace_by_futures-clause-refusal : goal.finish-returns-in_err-replace_by_futures-clause-refusal
finish-returns-in_err-replace_by_futures-clause-refusal g t c =
    sent_on (MayRefuse (g.S.Squares.book c.replace_by_futures.new.book)) c.from_residual-in_err-replace_by_futures.result c.in_err-replace_by_futures.field-0.0 c.from_residual-in_err-replace_by_futures.ensures.1 c.in_err-replace_by_futures.ensures.refusal

pub finish-returns-then-exponent-level-clause-refusal : goal.finish-returns-then-exponent-level-clause-refusal
finish-returns-then-exponent-level-clause-refusal g t c = c.four_centres.ensures.refusal

pub replace_by_futures-returns-in_err-ask_ahead-clause-refusal : goal.replace_by_futures-returns-in_err-ask_ahead-clause-refusal
replace_by_futures-returns-in_err-ask_ahead-clause-refusal g t c =
    sent_on (MayRefuse (g.S.Squares.book c.ask_ahead.new.book)) c.from_residual.result c.in_err-ask_ahead.field-0.0 c.from_residual.ensures.1 c.in_err-ask_ahead.ensures.refusal

pub replace_by_futures-returns-in_err-squares-clause-refusal : goal.replace_by_futures-returns-in_err-squares-clause-refusal
replace_by_futures-returns-in_err-squares-clause-refusal g t c =
    sent_on (MayRefuse (g.S.Squares.book c.future_in_order.new.book)) c.from_residual-in_err-squares.result c.in_err-squares.field-0.0 c.from_residual-in_err-squares.ensures.1 c.in_err-squares.ensures.refusal

pub ask_ahead-returns-in_err-future_in_order-clause-refusal : goal.ask_ahead-returns-in_err-future_in_order-clause-refusal
ask_ahead-returns-in_err-future_in_order-clause-refusal g t c =
    sent_on (MayRefuse (g.S.Squares.book c.future_in_order.new.book)) c.from_residual.result c.in_err-future_in_order.field-0.0 c.from_residual.ensures.1 c.in_err-future_in_order.ensures.refusal
