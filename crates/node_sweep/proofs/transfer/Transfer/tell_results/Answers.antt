use Rattle.std.proofs.Common.{◌≡◌, ◌<◌, ◌+◌, sym, subst, arith}
use Rattle.std.specs.Prelude.{slice_index}
use Rattle.node_sweep.specs.Keeping.{IsResultWord}
use Rattle.node_sweep.specs.Transfers.{AreResultsKept, old_table}
use Rattle.node_sweep.proofs.transfer.Transfer.tell_results.Goals as goal

pub loop-i-init : goal.loop-i-init
loop-i-init c =
    let none : c.args.from ≡ c.args.from + 0 = omega arith in
    subst (AreResultsKept c.args.self.now c.args.copies.now c.args.words.now) none c.requires.kept

pub tell_result-requires-clause-word : goal.tell_result-requires-clause-word
tell_result-requires-clause-word c =
    let less : c.loop-i.i < 64 = let test = c.loop-i-test.true in omega arith in
    subst (λ n. IsResultWord (old_table c.args.self.now) c.args.copies.now n (slice_index c.args.told.now c.loop-i.i)) (sym c.index-pair.ensures.index)
    (c.requires.told.each c.loop-i.i less)

pub loop-i-preserved : goal.loop-i-preserved
loop-i-preserved c =
    let next : c.args.from + c.loop-i.i + 1 ≡ c.args.from + (c.loop-i.i + 1) = omega arith in
    subst (AreResultsKept c.args.self.now c.args.copies.now c.tell_result.new.words) next c.tell_result.ensures

pub returns : goal.returns
returns c =
    let end : c.loop-i.i ≡ 64 = let test = c.loop-i-test.false in omega arith in
    subst (λ n. AreResultsKept c.args.self.now c.args.copies.now c.loop-i.words (c.args.from + n)) end c.loop-i.invariant
