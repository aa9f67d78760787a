use Rattle.std.proofs.Common.{false, sym, ◌∙◌}
use Rattle.rle_reader.proofs.BodyLemmas.{stripped_from-end, first_left}
use Rattle.rle_reader.proofs.body.Body.next_byte.Goals as goal

pub returns-then-not-is_skipped-clause-bytes : goal.returns-then-not-is_skipped-clause-bytes
returns-then-not-is_skipped-clause-bytes c =
    sym c.loop-self.invariant.2
    ∙ first_left c.loop-self.self.source.now c.loop-self.self.at c.loop-self-test.true (sym c.is_skipped.ensures ∙ c.if-not-is_skipped.true)

pub returns-clause-bytes : goal.returns-clause-bytes
returns-clause-bytes c =
    let none = stripped_from-end c.loop-self.self.source.now c.loop-self.self.at false c.loop-self-test.false in
    (sym c.loop-self.invariant.2 ∙ none, none)
