use Rattle.std.proofs.Common.{refl}
use Rattle.node_sweep.proofs.Transferred.{block_as, copied_or_full}
use Rattle.node_sweep.proofs.stills.copy.Goals as goal

pub copied-requires-clause-block : goal.copied-requires-clause-block
copied-requires-clause-block c =
    block_as c.args.still.now c.args.root c.of_still.result.key.now c.of_still.result.words.now c.args.root.num.0 c.requires.known c.of_still.ensures.key c.of_still.ensures.words refl

pub returns-clause-ok : goal.returns-clause-ok
returns-clause-ok c =
    (copied_or_full c.args.still.now c.args.root _ c.copied.result c.copied.ensures.ok c.copied.ensures.refusal c.requires.known c.requires.blank.resized
    (record { key = c.of_still.ensures.key; words = c.of_still.ensures.words; same_root = refl }) (tt {0})).0

pub returns-clause-refusal : goal.returns-clause-refusal
returns-clause-refusal c =
    (copied_or_full c.args.still.now c.args.root _ c.copied.result c.copied.ensures.ok c.copied.ensures.refusal c.requires.known c.requires.blank.resized
    (record { key = c.of_still.ensures.key; words = c.of_still.ensures.words; same_root = refl }) (tt {0})).1
