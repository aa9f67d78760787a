use Rattle.std.proofs.Common.{refl, sym, ◌∙◌, subst}
use Rattle.squares.specs.Book.{Book, IsKnown}
use Rattle.table_core.specs.Good.{AreGoodWords}
use Rattle.table_core.specs.declared.key.Key.{Key}
use Rattle.std.proofs.Common.{ℕ, List}
use Rattle.universe.proofs.Copying.{same_book, whole_copy}
use Rattle.universe.proofs.rooted_still.RootedStill.whole_copy.Goals as goal

pub of_words-still-requires : goal.of_words-still-requires
of_words-still-requires c =
    let same = c.in_ok-words.ensures ∙ c.words.ensures in
    subst (λ (it : Key × List ℕ). AreGoodWords it.0 it.1) (λ i. (sym c.key.ensures i, sym same i)) c.args.self.now.still.good

pub invariant_of-result : goal.invariant_of-result
invariant_of-result c =
    let root = c.args.self.now.root in
    let key = c.of_words-still.ensures.same_key ∙ c.key.ensures in
    let words = c.of_words-still.ensures.same_words ∙ c.in_ok-words.ensures ∙ c.words.ensures in
    record {
      known = subst (λ (book : Book). IsKnown book root.level root) (sym (same_book c.args.self.now.still c.of_words-still.result key words)) c.args.self.now.known;
      level = c.args.self.now.level;
    }

pub returns : goal.returns
returns c =
    let key = c.of_words-still.ensures.same_key ∙ c.key.ensures in
    let words = c.of_words-still.ensures.same_words ∙ c.in_ok-words.ensures ∙ c.words.ensures in
    whole_copy c.args.self.now _ key words refl
