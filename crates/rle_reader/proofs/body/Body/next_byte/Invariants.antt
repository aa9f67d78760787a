use Rattle.std.proofs.Common.{false, ◌≡◌, ◌≤◌, ◌-◌, length}
use Rattle.rle_reader.specs.Body.{stripped_from}
use Rattle.rle_reader.proofs.body.Body.next_byte.Given as goal

abbrev pub invariant-loop-self : goal.invariant-loop-self
invariant-loop-self l =
    (l.self.source.now ≡ l.fn.self.source.now) × (l.fn.self.at ≤ l.self.at)
    × (stripped_from l.self.source.now l.self.at false ≡ stripped_from l.fn.self.source.now l.fn.self.at false)

abbrev pub decreases-loop-self : goal.decreases-loop-self
decreases-loop-self l = length l.self.source.now - l.self.at
