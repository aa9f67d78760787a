use Rattle.std.proofs.Common.{◌≡◌, ◌+◌, ◌<◌, ◌∙◌, ap, arith, inl, inr, length}
use Rattle.std.specs.Prelude.{slice_index}
use Rattle.table_core.specs.Layout.{start, size}
use Rattle.table_core.specs.declared.shape.Kind.TheVariants.{Pair}
use Rattle.node_table.proofs.Ranks.{descends_on, leaf_reached, part_taken, taken_first, taken_second}
use Rattle.node_table.proofs.still.Still.rank.Goals.{then-number-first_pair-via-then-number-first_pair, then-number-first_pair-via-else-number-first_pair+then-number-len, then-first-eq0, else-first-eq0}
use Rattle.node_table.proofs.still.Still.rank.Goals as goal

pub returns-then-number-first_pair-clause-rank : goal.returns-then-number-first_pair-clause-rank
returns-then-number-first_pair-clause-rank c =
    let still = c.args.self.now in
    let bits = still.key.shape.bits in
    let words = slice_index still.words in
    let first : c.index-first_pair.result ≡ start bits Pair + 0 = c.index-first_pair.ensures.index in
    let long : length still.words ≡ size bits = still.good.long in
    record {
      is = leaf_reached bits words c.args.number c.loop-rank.number c.loop-rank.rank c.loop-rank.invariant
          (elim c.then-number-first_pair.branch [
            | then-number-first_pair-via-then-number-first_pair w ↦ inl (let low = w.if-number-first_pair.true in omega arith)
            | then-number-first_pair-via-else-number-first_pair+then-number-len w ↦ inr (let far = w.if-number-len.true in let count = w.len.ensures in omega arith)
          ]);
    }

pub loop-rank-preserved : goal.loop-rank-preserved
loop-rank-preserved c =
    let still = c.args.self.now in
    let bits = still.key.shape.bits in
    let words = slice_index still.words in
    let now = c.loop-rank.number in
    let first : c.index-first_pair.result ≡ start bits Pair + 0 = c.index-first_pair.ensures.index in
    let less : now < length still.words = let far = c.if-number-len.false in let count = c.len.ensures in omega arith in
    let word : c.word.result ≡ slice_index still.words now = c.word.ensures in
    let one = c.parts-first.ensures.first in
    let two = c.parts-first.ensures.second in
    let next : c.if-first-eq0.number ≡ part_taken c.word.result = elim c.if-first-eq0.branch [
      | then-first-eq0 w ↦ w.number-is ∙ taken_second c.word.result c.parts-first.result.0 c.parts-first.result.1 one two w.if-first-eq0.true
      | else-first-eq0 w ↦ w.number-is ∙ taken_first c.word.result c.parts-first.result.0 one w.if-first-eq0.false
    ] in
    descends_on bits words c.args.number now c.loop-rank.rank c.if-first-eq0.number c.loop-rank.invariant (let high = c.if-number-first_pair.false in omega arith) (next ∙ ap part_taken word)
