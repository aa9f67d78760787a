use Rattle.std.proofs.Common.{◌≡◌, subst, sym, rules, None, Some}
use Rattle.std.specs.BTreeMap.{get}
use Rattle.std.specs.Ordering.{nat_cmp}
use Rattle.squares.specs.declared.node.PlainNode.TheVariants.{Leaf}
use Rattle.squares.specs.Book.{AddsSquares}
use Rattle.squares.specs.Nodes.{nodes_of, plain_book, IsGood}
use Rattle.squares.proofs.Added.{added_there, leaf_added, one_more}
use Rattle.squares.proofs.Kept.{adds_none}
use Rattle.squares.proofs.PlainLaws.{book_good, leaf_shows}
use Rattle.squares.proofs.Pushed.{good_leaf, pushed_adds}
use Rattle.squares.proofs.plain_book.PlainBookSquares.leaf.Goals as goal

pub returns-in_err-num-clause-adds : goal.returns-in_err-num-clause-adds
returns-in_err-num-clause-adds c =
    let at = c.args.self.now in
    let book = plain_book at.rule at.exponent at.records.items in
    subst (λ items. AddsSquares book (plain_book at.rule at.exponent items)) (sym c.in_err-num.ensures.err) (adds_none book)

pub invariant_of-self : goal.invariant_of-self
invariant_of-self c =
    let at = c.args.self.now in
    let new = c.add_node.new.records.items in
    let made = c.add_node.ensures in
    let none : get nat_cmp at.leaves c.args.word ≡ None = search rules in
    let sound = leaf_added at.rule at.exponent at.records.items new at.leaves at.inner (record { good = at.good; leaves_listed = at.leaves_listed; inner_listed = at.inner_listed; futures = at.futures })
    c.add_node.result c.args.word c.add_node.new.numbers c.if-word-eq0.false c.ranges.word.fits none made.number made.ok made.noted made.err made.same in
    record {
      good = sound.good;
      leaves_listed = sound.leaves_listed;
      inner_listed = sound.inner_listed;
      futures = sound.futures;
      is_book = book_good at.rule at.exponent new at.is_book.rule sound.good sound.futures;
    }

pub returns-clause-ok : goal.returns-clause-ok
returns-clause-ok c =
    let at = c.args.self.now in
    let new = c.add_node.new.records.items in
    let made = c.in_ok-num.ensures in
    let none : get nat_cmp at.leaves c.args.word ≡ None = search rules in
    let good = subst IsGood (sym (one_more at.records.items new (Leaf c.args.word) made.ok))
    (good_leaf (nodes_of at.records.items) at.leaves c.args.word c.if-word-eq0.false c.ranges.word.fits at.leaves_listed none at.good) in
    leaf_shows at.rule at.exponent new c.in_ok-num.num.0 c.args.word good (added_there at.records.items new (Leaf c.args.word) c.in_ok-num.num made.number made.ok)

pub returns-clause-adds : goal.returns-clause-adds
returns-clause-adds c =
    let at = c.args.self.now in
    subst (λ items. AddsSquares (plain_book at.rule at.exponent at.records.items) (plain_book at.rule at.exponent items)) (sym c.in_ok-num.ensures.ok) (pushed_adds at.rule at.exponent at.records.items (Leaf c.args.word) at.good)

pub returns-in-Some-clause-ok : goal.returns-in-Some-clause-ok
returns-in-Some-clause-ok c =
    let at = c.args.self.now in
    let num = c.in-Some.num.now in
    let found : get nat_cmp at.leaves c.args.word ≡ Some num = search rules in
    leaf_shows at.rule at.exponent at.records.items num.0 c.args.word at.good (at.leaves_listed.found c.args.word num found)
