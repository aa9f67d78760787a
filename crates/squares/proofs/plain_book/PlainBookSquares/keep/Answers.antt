use Rattle.std.proofs.Common.{◌∙◌, ◌-◌, inl, refl, rules, subst, sym}
use Rattle.std.proofs.lemmas.Option.{slice_get_within}
use Rattle.std.specs.Ordering.{nat_cmp}
use Rattle.std.proofs.lemmas.Bool.{false≢true}
use Rattle.squares.specs.Book.{IsFuture}
use Rattle.squares.specs.Nodes.{plain_book, quarters_order, HasNumbers}
use Rattle.squares.specs.declared.node.PlainNode.TheVariants.{Leaf, Inner}
use Rattle.squares.proofs.Kept.{keeps_none}
use Rattle.squares.proofs.KeptResults.{record_of_square, kept_good, kept_nodes, kept_adds, kept_keeps, kept_futures}
use Rattle.squares.proofs.PlainLaws.{book_good}
use Rattle.squares.proofs.plain_book.PlainBookSquares.keep.Goals as goal

pub invariant_of-self : goal.invariant_of-self
invariant_of-self c =
    let at = c.args.self.now in
    let sq = c.args.sq in
    let num = c.args.future.num in
    let book = plain_book at.rule at.exponent at.records.items in
    let future : IsFuture book sq (record { level = sq.level - 1; num = num }) = subst (λ l. IsFuture book sq (record { level = l; num = num })) c.requires.future.known.at_level c.requires.future in
    let nodes = kept_nodes at.rule at.exponent at.records.items c.args.sq c.index_mut.result.now c.args.future.num at.good (λ e. false≢true (sym c.if-not-is_empty.true ∙ c.is_empty.ensures.1 e)) c.requires.known.known c.index_mut.ensures.value in
    let good = kept_good at.rule at.exponent at.records.items c.args.sq c.index_mut.result.now c.args.future.num at.good (λ e. false≢true (sym c.if-not-is_empty.true ∙ c.is_empty.ensures.1 e)) c.requires.known.known c.index_mut.ensures.value in
    let futures = kept_futures at.rule at.exponent at.records.items c.args.sq c.index_mut.result.now c.args.future.num at.good (λ e. false≢true (sym c.if-not-is_empty.true ∙ c.is_empty.ensures.1 e)) c.requires.known.known c.index_mut.ensures.value c.requires.known c.requires.level future at.futures in
    record {
      good = good;
      leaves_listed = subst (λ ns. HasNumbers nat_cmp Leaf ns at.leaves) (sym nodes) at.leaves_listed;
      inner_listed = subst (λ ns. HasNumbers quarters_order Inner ns at.inner) (sym nodes) at.inner_listed;
      futures = futures;
      is_book = book_good at.rule at.exponent _ at.is_book.rule good futures;
    }

pub returns-then-not-is_empty-clause-ok : goal.returns-then-not-is_empty-clause-ok
returns-then-not-is_empty-clause-ok c =
    let at = c.args.self.now in
    kept_adds at.rule at.exponent at.records.items c.args.sq c.index_mut.result.now c.args.future.num at.good (λ e. false≢true (sym c.if-not-is_empty.true ∙ c.is_empty.ensures.1 e)) c.requires.known.known c.index_mut.ensures.value

pub returns-then-not-is_empty-clause-keeps : goal.returns-then-not-is_empty-clause-keeps
returns-then-not-is_empty-clause-keeps c =
    let at = c.args.self.now in
    kept_keeps at.rule at.exponent at.records.items c.args.sq c.index_mut.result.now c.args.future.num at.good (λ e. false≢true (sym c.if-not-is_empty.true ∙ c.is_empty.ensures.1 e)) c.requires.known.known c.index_mut.ensures.value

pub index_mut-requires : goal.index_mut-requires
index_mut-requires c =
    let items = c.args.self.now.records.items in
    let found = record_of_square items c.args.sq.level c.args.sq.num.0 c.requires.known.known (λ e. false≢true (sym c.if-not-is_empty.true ∙ c.is_empty.ensures.1 e)) in
    let within = slice_get_within items (c.args.sq.num.0 - 1) found.0 found.1 in
    search (rules, within)

pub returns-else-not-is_empty-clause-ok : goal.returns-else-not-is_empty-clause-ok
returns-else-not-is_empty-clause-ok c = record { known = inl (c.is_empty.ensures.0 c.if-not-is_empty.false); learned = refl; results = inl refl }

pub returns-else-not-is_empty-clause-keeps : goal.returns-else-not-is_empty-clause-keeps
returns-else-not-is_empty-clause-keeps c = keeps_none _
