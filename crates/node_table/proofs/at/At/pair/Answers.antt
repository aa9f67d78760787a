use Rattle.std.proofs.Common.{arith, inr, refl, subst, sym}
use Rattle.table_core.specs.declared.shape.Kind.TheVariants.{Pair}
use Rattle.table_core.specs.Knowledge.{KnowsBlock}
use Rattle.table_core.specs.Lawful.{KnowsParts}
use Rattle.node_table.specs.Refusals.{HasNoRoom, known_by}
use Rattle.node_table.proofs.Desks.{coherent_here, shard_full, way_full}
use Rattle.node_table.proofs.TwoBlocks.{empty_pair}
use Rattle.node_table.proofs.at.At.pair.Goals as goal

pub returns-then-second-eq0-clause-ok : goal.returns-then-second-eq0-clause-ok
returns-then-second-eq0-clause-ok c =
    empty_pair c.args.self.now.table.now.key.shape.bits (known_by c.args.self.now.desk) c.args.first c.args.second (coherent_here c.args.self.now) c.if-first-eq0.true c.if-second-eq0.true

pub returns-in-None-clause-refusal : goal.returns-in-None-clause-refusal
returns-in-None-clause-refusal c =
    let key = c.number.new.self.table.now.key in
    let known = known_by c.number.new.self.desk in
    inr (refl, shard_full key known (way_full key known Pair _ c.in-None.ensures.none.way))

pub number-requires-clause-parts : goal.number-requires-clause-parts
number-requires-clause-parts c = subst (KnowsParts (known_by c.args.self.now.desk)) (sym c.pair_word.ensures.word) c.requires

pub returns-in-Some-clause-ok : goal.returns-in-Some-clause-ok
returns-in-Some-clause-ok c =
    let known = known_by c.args.self.now.desk in record {
      shown = λ rank one two shows_one shows_two. c.in-Some.ensures.some.pair rank one two refl (record {
        first = subst (λ n. KnowsBlock known rank n one) (sym c.pair_word.ensures.first) shows_one;
        second = subst (λ n. KnowsBlock known rank n two) (sym c.pair_word.ensures.second) shows_two;
      });
    }

pub returns-in-None-clause-full : goal.returns-in-None-clause-full
returns-in-None-clause-full c = subst (HasNoRoom c.number.new.self.table.now c.number.new.self.desk Pair) c.pair_word.ensures.word c.in-None.ensures.none

pub returns-then-second-eq0-clause-refused : goal.returns-then-second-eq0-clause-refused
returns-then-second-eq0-clause-refused c = λ room. let e = c.if-first-eq0.true in let f = c.if-second-eq0.true in absurd (room.some (omega arith))
