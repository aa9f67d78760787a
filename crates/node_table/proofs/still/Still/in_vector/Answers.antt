use Rattle.std.proofs.Common.{ℕ, List, refl, sym, subst}
use Rattle.table_core.specs.Good.{AreGoodWords}
use Rattle.node_table.proofs.WordBooks.{words_book}
use Rattle.node_table.proofs.SameStill.{same_still}
use Rattle.node_table.proofs.still.Still.in_vector.Goals as goal

pub invariant_of-result : goal.invariant_of-result
invariant_of-result c =
    let still = c.args.self in
    let words = c.in_vector-words.result in
    let good : AreGoodWords still.key words = subst (λ (ws : List ℕ). AreGoodWords still.key ws) (sym c.in_vector-words.ensures) still.good in
    record { good = good; is_book = words_book still.key words good still.is_book.rule }

pub returns : goal.returns
returns c = same_still _ c.args.self refl c.in_vector-words.ensures
