use Rattle.std.proofs.Common.{ℕ, suc, sym, subst}
use Rattle.table_core.specs.Layout.{first_part}
use Rattle.node_table.specs.Numbers.{KnowsPairOf}
use Rattle.node_table.specs.Refusals.{known_by}
use Rattle.node_table.proofs.Desks.{coherent_here, in_table}
use Rattle.node_table.proofs.TwoBlocks.{empty_parts, pair_read}
use Rattle.node_table.proofs.at.At.read_pair.Goals as goal

pub returns-then-number-eq0-clause-parts : goal.returns-then-number-eq0-clause-parts
returns-then-number-eq0-clause-parts c =
    empty_parts c.args.self.now.table.now.key.shape.bits (known_by c.args.self.now.desk) c.args.number (coherent_here c.args.self.now) c.if-number-eq0.true

pub look-requires : goal.look-requires
look-requires c = in_table c.args.self.now (suc c.requires.rank) c.args.number c.requires.plane c.if-number-eq0.false c.requires.shown

pub returns-clause-parts : goal.returns-clause-parts
returns-clause-parts c =
    let old = known_by c.args.self.now.desk in
    let new = known_by c.look.new.self.desk in
    let number = c.args.number in
    let met = c.look.ensures.met in
    let word = c.look.result in
    subst (λ (first : ℕ). KnowsPairOf old new number first c.parts.result.1) (sym c.parts.ensures.first)
    (subst (λ (second : ℕ). KnowsPairOf old new number (first_part word) second) (sym c.parts.ensures.second)
    (pair_read c.args.self.now.table.now.key old new number word c.if-number-eq0.false (λ rank plane knows. met.stands rank plane c.if-number-eq0.false knows) met.learns))
