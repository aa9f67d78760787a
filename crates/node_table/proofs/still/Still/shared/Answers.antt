use Rattle.std.proofs.Common.{ℕ, List, ap, sym, subst}
use Rattle.table_core.specs.Good.{AreGoodWords}
use Rattle.node_table.proofs.WordBooks.{words_book}
use Rattle.node_table.specs.StillBooks.{book_of_words}
use Rattle.node_table.proofs.still.Still.shared.Goals as goal

pub invariant_of-result : goal.invariant_of-result
invariant_of-result c =
    let still = c.args.self.now in
    let words = c.in_ok-copied.field-0.items in
    let good : AreGoodWords still.key words = subst (λ (ws : List ℕ). AreGoodWords still.key ws) (sym c.in_ok-copied.ensures) still.good in
    record { good = good; is_book = words_book still.key words good still.is_book.rule }

pub returns-clause-ok : goal.returns-clause-ok
returns-clause-ok c = ap (book_of_words c.args.self.now.key) c.in_ok-copied.ensures
