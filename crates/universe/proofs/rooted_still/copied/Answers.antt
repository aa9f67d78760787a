use Rattle.std.proofs.Common.{◌<◌, ◌≤◌, ◌∙◌, sym, arith, refl, length}
use Rattle.table_core.proofs.Lists.{length_set}
use Rattle.node_table.proofs.Openings.{copied, copied_on}
use Rattle.universe.proofs.rooted_still.copied.Goals as goal

pub loop-index-preserved : goal.loop-index-preserved
loop-index-preserved c =
    let words = c.loop-index.copied.items in
    let index = c.loop-index.index in
    let long = c.loop-index.invariant.long in
    let less : index < length words = let near = c.loop-index-test.true in let count = c.len-count.ensures in omega arith in
    record {
      long = length_set words index c.word.result ∙ long;
      copied = copied_on words c.args.words.now index c.word.result less c.loop-index.invariant.copied (sym c.word.ensures);
    }

pub returns : goal.returns
returns c =
    let words = c.loop-index.copied.items in
    let end : length c.args.words.now ≤ c.loop-index.index = let far = c.loop-index-test.false in let count = c.len-count.ensures in omega arith in
    copied words c.args.words.now (length c.args.words.now) c.loop-index.invariant.long refl (λ i less. c.loop-index.invariant.copied i (omega arith))
