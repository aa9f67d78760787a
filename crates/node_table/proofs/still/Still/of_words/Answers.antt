use Rattle.std.proofs.Common.{ℕ, List, sym, subst, rules}
use Rattle.rule_text.specs.CountRule.{IsRule}
use Rattle.table_core.specs.Good.{AreGoodWords}
use Rattle.node_table.proofs.WordBooks.{words_book}
use Rattle.node_table.proofs.still.Still.of_words.Goals as goal

pub invariant_of-result : goal.invariant_of-result
invariant_of-result c =
    let rule : IsRule c.args.key.rule = search rules in
    let good : AreGoodWords c.args.key c.of_vector.result = subst (λ (ws : List ℕ). AreGoodWords c.args.key ws) (sym c.of_vector.ensures) c.requires in
    record { good = good; is_book = words_book c.args.key c.of_vector.result good rule }
