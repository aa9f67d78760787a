use Rattle.std.proofs.Common.{false, ◌≡◌, ◌∷◌, ◌≤◌, ◌-◌, length}
use Rattle.rle_reader.specs.Body.{stripped_from}
use Rattle.rle_reader.proofs.ItemLemmas.{IsRead}
use Rattle.rle_reader.proofs.item.read_count.Given as goal

abbrev pub invariant-loop-next : goal.invariant-loop-next
invariant-loop-next l =
    (l.body.source.now ≡ l.fn.body.source.now) × (l.fn.body.at ≤ l.body.at)
    × IsRead (l.fn.first ∷ stripped_from l.fn.body.source.now l.fn.body.at false) l.value
    (stripped_from l.body.source.now l.body.at false)

abbrev pub decreases-loop-next : goal.decreases-loop-next
decreases-loop-next l = length l.body.source.now - l.body.at
