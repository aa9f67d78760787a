use Rattle.std.proofs.Common.{◌≡◌, ◌+◌, ◌==◌, false, true, get_or, refl, ap, sym, ◌∙◌, arith}
use Rattle.std.proofs.lemmas.Bool.Decides.{nat_tests}
use Rattle.rle_reader.specs.Body.{stripped_from}
use Rattle.rle_reader.proofs.BodyLemmas.{stripped_from-skipped}
use Rattle.rle_reader.proofs.body.past_skipped.Goals as goal

pub returns-then-source-at-eq10-clause-bytes : goal.returns-then-source-at-eq10-clause-bytes
returns-then-source-at-eq10-clause-bytes c =
    let source = c.args.source.now in
    let at = c.args.at in
    let ends : (get_or source at 0 == 10) ≡ true = grind (arith, nat_tests, c.if-source-at-eq10.true) in
    c.past_comments.ensures.bytes
    ∙ sym (stripped_from-skipped source at c.requires.within false refl c.requires.skipped ∙ ap (stripped_from source (at + 1)) ends)

pub returns-else-source-at-eq10-clause-bytes : goal.returns-else-source-at-eq10-clause-bytes
returns-else-source-at-eq10-clause-bytes c =
    let source = c.args.source.now in
    let at = c.args.at in
    let other : (get_or source at 0 == 10) ≡ false = grind (arith, nat_tests, c.if-source-at-eq10.false) in
    sym (stripped_from-skipped source at c.requires.within false refl c.requires.skipped ∙ ap (stripped_from source (at + 1)) other)
