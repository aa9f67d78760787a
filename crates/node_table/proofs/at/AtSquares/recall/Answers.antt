use Rattle.std.proofs.Common.{ap, inl, map, refl, sym, subst}
use Rattle.std.specs.Prelude.{Some}
use Rattle.squares.specs.declared.sq.Sq.{Sq}
use Rattle.squares.specs.Book.{IsFuture, own_store}
use Rattle.table_core.specs.declared.knowledge.Knowledge.{Knowledge}
use Rattle.node_table.specs.Books.{square_of}
use Rattle.node_table.specs.Desks.{work_store}
use Rattle.node_table.specs.DesksAtWork.{book_here}
use Rattle.node_table.proofs.Working.{book_kept, goes_on_here, keeps_here, learns_none}
use Rattle.node_table.proofs.Entries.{block_of, has_number}
use Rattle.node_table.proofs.Desks.{coherent_here, square_slot}
use Rattle.node_table.proofs.Telling.{may_ask, no_result, book_learns, is_future, empty_future}
use Rattle.node_table.proofs.at.AtSquares.recall.Goals as goal

pub returns-then-is_empty-clause-some : goal.returns-then-is_empty-clause-some
returns-then-is_empty-clause-some c =
    let at = c.args.self.now in
    let known = at.desk.seat.me.0.known in
    let key = at.table.now.key in
    subst (λ (s : Sq). IsFuture (book_here at) c.args.sq s) (sym c.empty.ensures)
    (empty_future (work_store at.expansions at.table.now) key known c.args.sq ((at.desk.sound key at.of_table.same_key).book own_store).rule (coherent_here at) c.requires.level c.requires.known.high (c.is_empty.ensures.0 c.if-is_empty.true) (block_of known c.args.sq c.requires.known.known))

pub result_index-index-requires : goal.result_index-index-requires
result_index-index-requires c =
    let at = c.args.self.now in
    square_slot at c.args.sq c.requires.level (has_number c.is_empty.ensures c.if-is_empty.false) c.requires.known.known

pub ask-word-requires-clause-lawful : goal.ask-word-requires-clause-lawful
ask-word-requires-clause-lawful c =
    let at = c.args.self.now in
    may_ask at c.args.sq c.requires.level (has_number c.is_empty.ensures c.if-is_empty.false) c.requires.known.known c.result_index-index.ensures.index

pub returns-then-word-eq0-clause-none : goal.returns-then-word-eq0-clause-none
returns-then-word-eq0-clause-none c =
    let at = c.args.self.now in
    no_result at c.args.sq c.requires.level (has_number c.is_empty.ensures c.if-is_empty.false) c.requires.known.known c.result_index-index.ensures.index c.if-word-eq0.true c.ask-word.ensures.met.learns

pub returns-clause-some : goal.returns-clause-some
returns-clause-some c =
    let at = c.args.self.now in
    subst (λ (s : Sq). IsFuture (book_here c.ask-word.new.self) c.args.sq s) (sym c.square.ensures)
    (is_future at c.args.sq c.requires.level (has_number c.is_empty.ensures c.if-is_empty.false) c.requires.known.known c.result_index-index.ensures.index
    c.ask-word.ensures.here c.ask-word.ensures.met.grows (c.ask-word.ensures.met.learns.some c.if-word-eq0.false) c.requires.known.high c.parts-number.result.1 c.parts-number.ensures.second)

pub returns-clause-results : goal.returns-clause-results
returns-clause-results c =
    let at = c.args.self.now in
    book_learns at c.args.sq c.requires.level (has_number c.is_empty.ensures c.if-is_empty.false) c.requires.known.known c.result_index-index.ensures.index
    c.ask-word.ensures.here c.ask-word.ensures.met.grows (c.ask-word.ensures.met.learns.some c.if-word-eq0.false) refl

pub returns-clause-keeps : goal.returns-clause-keeps
returns-clause-keeps c = keeps_here c.ask-word.ensures.here c.ask-word.ensures.met.grows

pub returns-then-is_empty-clause-empty : goal.returns-then-is_empty-clause-empty
returns-then-is_empty-clause-empty c = λ empty. ap (λ (s : Sq). Some s) c.empty.ensures

pub returns-then-is_empty-clause-results : goal.returns-then-is_empty-clause-results
returns-then-is_empty-clause-results c = record {
  known = inl (c.is_empty.ensures.0 c.if-is_empty.true);
  told = inl (record { results = refl; learned = refl });
}

pub returns-then-is_empty-clause-grows : goal.returns-then-is_empty-clause-grows
returns-then-is_empty-clause-grows c = goes_on_here (learns_none c.args.self.now)

pub returns-then-is_empty-clause-keeps : goal.returns-then-is_empty-clause-keeps
returns-then-is_empty-clause-keeps c = book_kept (learns_none c.args.self.now)

pub returns-then-word-eq0-clause-empty : goal.returns-then-word-eq0-clause-empty
returns-then-word-eq0-clause-empty c = λ empty. absurd (has_number c.is_empty.ensures c.if-is_empty.false empty)

pub returns-then-word-eq0-clause-results : goal.returns-then-word-eq0-clause-results
returns-then-word-eq0-clause-results c =
    let same = c.ask-word.ensures.met.learns.none c.if-word-eq0.true in
    record { results = ap (λ (known : Knowledge). map square_of known.results) same; learned = ap (λ (known : Knowledge). known.learned) same }

pub returns-then-word-eq0-clause-grows : goal.returns-then-word-eq0-clause-grows
returns-then-word-eq0-clause-grows c = record { table = c.ask-word.ensures.here.table; grows = c.ask-word.ensures.met.grows }

pub returns-then-word-eq0-clause-keeps : goal.returns-then-word-eq0-clause-keeps
returns-then-word-eq0-clause-keeps c = keeps_here c.ask-word.ensures.here c.ask-word.ensures.met.grows

pub returns-clause-empty : goal.returns-clause-empty
returns-clause-empty c = λ empty. absurd (has_number c.is_empty.ensures c.if-is_empty.false empty)

pub returns-clause-grows : goal.returns-clause-grows
returns-clause-grows c = record { table = c.ask-word.ensures.here.table; grows = c.ask-word.ensures.met.grows }
