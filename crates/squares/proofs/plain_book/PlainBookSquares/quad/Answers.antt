use Rattle.std.proofs.Common.{◌≡◌, Bool, true, false, ◌+◌, subst, sym, ap, ◌∙◌, rules, None, Some, length, List}
use Rattle.std.specs.BTreeMap.{get}
use Rattle.std.specs.List.{AllByRecursion}
use Rattle.std.proofs.lemmas.Bool.{false≢true}
use Rattle.squares.specs.declared.node.PlainNode.TheVariants.{Inner}
use Rattle.squares.specs.declared.node.Quarters.{Quarters}
use Rattle.squares.specs.declared.sq.Sq.{Sq}
use Rattle.squares.specs.Book.{AddsSquares, IsEmpty, Keeps, Shows, joined_squares, numbered, nth}
use Rattle.squares.specs.Nodes.{node_at, nodes_of, plain_book, quarters_order, IsGood}
use Rattle.squares.specs.Quarters.{quarters_of}
use Rattle.squares.proofs.Added.{added_there, one_more, quad_added}
use Rattle.squares.proofs.Kept.{adds_none, keeps_none}
use Rattle.squares.proofs.PlainLaws.{book_good}
use Rattle.squares.proofs.PlainQuads.{all_four, empty_shows, good_quad, tested_known, sum_of_empty, node_shows}
use Rattle.squares.proofs.Pushed.{pushed_adds, pushed_keeps}
use Rattle.squares.proofs.plain_book.PlainBookSquares.quad.Goals as goal

-- squares that are not all empty, by the test of their quarters
some_cell : (squares : List Sq) (q : Quarters) (test : Bool) → length squares ≡ 4 → q ≡ quarters_of squares → (q.nw.0 + q.ne.0 + q.sw.0 + q.se.0 ≡ 0 → test ≡ true) → test ≡ false → ¬ AllByRecursion IsEmpty squares
some_cell squares q test size is tested failed all =
    let none : q.nw.0 + q.ne.0 + q.sw.0 + q.se.0 ≡ 0 = ap (λ (p : Quarters). p.nw.0 + p.ne.0 + p.sw.0 + p.se.0) is ∙ sum_of_empty squares (all_four IsEmpty squares size all) in
    false≢true (sym failed ∙ tested none)

pub returns-then-are_empty-clause-ok : goal.returns-then-are_empty-clause-ok
returns-then-are_empty-clause-ok c =
    let at = c.args.self.now in
    let squares = c.args.quarters in
    let book = plain_book at.rule at.exponent at.records.items in
    let none : (nth squares 0).num.0 + (nth squares 1).num.0 + (nth squares 2).num.0 + (nth squares 3).num.0 ≡ 0 =
    ap (λ (p : Quarters). p.nw.0 + p.ne.0 + p.sw.0 + p.se.0) (sym c.of-node.ensures) ∙ c.are_empty.ensures.0 c.if-are_empty.true in
    subst (Shows book ((nth squares 0).level + 1) (joined_squares book (nth squares 0).level squares)) (sym (c.empty.ensures ∙ ap (λ (p : Quarters). numbered p.level 0) c.of-node.ensures))
    (empty_shows at.rule at.exponent at.records.items squares (search rules) c.requires.known at.good c.requires.level none)

pub returns-in_err-num-clause-empty : goal.returns-in_err-num-clause-empty
returns-in_err-num-clause-empty c = λ all. absurd (some_cell c.args.quarters c.of-node.result c.are_empty.result (search rules) c.of-node.ensures c.are_empty.ensures.1 c.if-are_empty.false all)

pub returns-in_err-num-clause-adds : goal.returns-in_err-num-clause-adds
returns-in_err-num-clause-adds c =
    let at = c.args.self.now in
    let book = plain_book at.rule at.exponent at.records.items in
    subst (λ items. AddsSquares book (plain_book at.rule at.exponent items)) (sym c.in_err-num.ensures.err) (adds_none book)

pub returns-in-Some-clause-ok : goal.returns-in-Some-clause-ok
returns-in-Some-clause-ok c =
    let at = c.args.self.now in
    let squares = c.args.quarters in
    let book = plain_book at.rule at.exponent at.records.items in
    let q = c.of-node.result in
    let num = c.in-Some.num.now in
    let found : get quarters_order at.inner q ≡ Some num = search rules in
    let there : node_at (nodes_of at.records.items) num.0 ≡ Some (Inner (quarters_of squares)) = at.inner_listed.found q num found ∙ ap (λ (p : Quarters). Some (Inner p)) c.of-node.ensures in
    subst (λ (p : Quarters). Shows book ((nth squares 0).level + 1) (joined_squares book (nth squares 0).level squares) (record { level = p.level; num = num })) (sym c.of-node.ensures)
    (node_shows at.rule at.exponent at.records.items squares (search rules) c.requires.known at.records.items num.0 at.good (keeps_none book) there)

pub invariant_of-self : goal.invariant_of-self
invariant_of-self c =
    let at = c.args.self.now in
    let new = c.add_node.new.records.items in
    let made = c.add_node.ensures in
    let none : get quarters_order at.inner c.of-node.result ≡ None = search rules in
    let quarters = tested_known at.rule at.exponent at.records.items c.args.quarters (search rules) c.requires.known c.of-node.result c.are_empty.result c.requires.level c.of-node.ensures c.are_empty.ensures.1 c.if-are_empty.false in
    let sound = quad_added at.rule at.exponent at.records.items new at.leaves at.inner (record { good = at.good; leaves_listed = at.leaves_listed; inner_listed = at.inner_listed; futures = at.futures })
    c.add_node.result c.of-node.result c.add_node.new.numbers quarters none made.number made.ok made.noted made.err made.same in
    record {
      good = sound.good;
      leaves_listed = sound.leaves_listed;
      inner_listed = sound.inner_listed;
      futures = sound.futures;
      is_book = book_good at.rule at.exponent new at.is_book.rule sound.good sound.futures;
    }

pub returns-clause-adds : goal.returns-clause-adds
returns-clause-adds c =
    let at = c.args.self.now in
    subst (λ items. AddsSquares (plain_book at.rule at.exponent at.records.items) (plain_book at.rule at.exponent items)) (sym c.in_ok-num.ensures.ok) (pushed_adds at.rule at.exponent at.records.items (Inner c.of-node.result) at.good)

pub returns-clause-ok : goal.returns-clause-ok
returns-clause-ok c =
    let at = c.args.self.now in
    let squares = c.args.quarters in
    let book = plain_book at.rule at.exponent at.records.items in
    let node = Inner c.of-node.result in
    let new = c.add_node.new.records.items in
    let num = c.in_ok-num.num in
    let made = c.in_ok-num.ensures in
    let there : node_at (nodes_of new) num.0 ≡ Some (Inner (quarters_of squares)) = added_there at.records.items new node num made.number made.ok ∙ ap (λ (p : Quarters). Some (Inner p)) c.of-node.ensures in
    let none : get quarters_order at.inner c.of-node.result ≡ None = search rules in
    let quarters = tested_known at.rule at.exponent at.records.items squares (search rules) c.requires.known c.of-node.result c.are_empty.result c.requires.level c.of-node.ensures c.are_empty.ensures.1 c.if-are_empty.false in
    let good = subst IsGood (sym (one_more at.records.items new node made.ok)) (good_quad (nodes_of at.records.items) at.inner c.of-node.result quarters at.inner_listed none at.good) in
    let keeps = subst (λ items. Keeps book (plain_book at.rule at.exponent items)) (sym made.ok) (pushed_keeps at.rule at.exponent at.records.items node at.good) in
    subst (λ (p : Quarters). Shows (plain_book at.rule at.exponent new) ((nth squares 0).level + 1) (joined_squares book (nth squares 0).level squares) (record { level = p.level; num = num })) (sym c.of-node.ensures)
    (node_shows at.rule at.exponent at.records.items squares (search rules) c.requires.known new num.0 good keeps there)
