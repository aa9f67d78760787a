use Rattle.std.proofs.Common.{◌∙◌}
use Rattle.node_table.proofs.WordBooks.{words_book}
use Rattle.node_table.proofs.Vacant.{vacant_good}
use Rattle.node_table.proofs.still.Still.empty.Goals as goal

pub invariant_of-result : goal.invariant_of-result
invariant_of-result c =
    let zeros = c.of_vector.ensures ∙ c.in_ok-words.ensures.items_if_clones_equal (λ y h. h) in
    let good = vacant_good c.new.result c.dead.result c.dead.ensures.dead c.word_count.result c.of_vector.result zeros c.word_count.ensures in
    record { good = good; is_book = words_book _ c.of_vector.result good c.dead.ensures.rule }
