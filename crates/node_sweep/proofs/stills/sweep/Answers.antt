use Rattle.std.proofs.Common.{◌≡◌, ℕ, refl, subst}
use Rattle.table_core.specs.declared.key.Key.{Key}
use Rattle.node_sweep.specs.CopiedStills.{HasNoRoomFor, IsResized}
use Rattle.node_sweep.proofs.Transferred.{block_as, only_memory, room_to_sweep, swept_or_full}
use Rattle.node_sweep.proofs.stills.sweep.Goals as goal

resized_as : {from still to : Key} {size pairs : ℕ} → from ≡ still → size ≡ pairs → IsResized from to size → IsResized still to pairs
resized_as {from} {still} {to} {size} {pairs} same is resized = subst (λ (n : ℕ). IsResized still to n) is (subst (λ (k : Key). IsResized k to size) same resized)

pub copied-requires-clause-block : goal.copied-requires-clause-block
copied-requires-clause-block c =
    block_as c.args.still.now c.args.root c.of_still.result.key.now c.of_still.result.words.now c.args.root.num.0 c.requires.known c.of_still.ensures.key c.of_still.ensures.words refl

pub returns-clause-ok : goal.returns-clause-ok
returns-clause-ok c =
    let resized = resized_as c.key.ensures c.new.ensures c.in_ok-blank.ensures.resized in
    (swept_or_full c.args.still.now c.args.root c.args.pairs c.copied.result c.copied.ensures.ok (c.copied.ensures.reached refl) c.copied.ensures.refusal c.requires.known resized
    (record { key = c.of_still.ensures.key; words = c.of_still.ensures.words; same_root = refl }) refl).0

pub returns-clause-refusal : goal.returns-clause-refusal
returns-clause-refusal c =
    let resized = resized_as c.key.ensures c.new.ensures c.in_ok-blank.ensures.resized in
    (swept_or_full c.args.still.now c.args.root c.args.pairs c.copied.result c.copied.ensures.ok (c.copied.ensures.reached refl) c.copied.ensures.refusal c.requires.known resized
    (record { key = c.of_still.ensures.key; words = c.of_still.ensures.words; same_root = refl }) refl).1

pub returns-clause-few : goal.returns-clause-few
returns-clause-few c = λ few.
    let still = c.args.still.now in
    let root = c.args.root in
    only_memory (HasNoRoomFor still root c.args.pairs) c.copied.result (room_to_sweep still root c.args.pairs few) (returns-clause-refusal c)
