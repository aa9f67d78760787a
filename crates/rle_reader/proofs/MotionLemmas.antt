-- Where an item leads from a place.
use Rattle.std.proofs.Common.{◌≡◌, arith, ℤ, to_z, of_z, w64}
use Rattle.std.proofs.lemmas.Int.{ints}
use Rattle.rle_reader.specs.Range.{IsWithinReach}

-- a coordinate within reach, as a machine hands it on
pub handed_on : (coordinate : ℤ) → IsWithinReach coordinate → to_z w64 (of_z w64 coordinate) ≡ coordinate
handed_on coordinate reach = omega (arith, ints, reach.low, reach.high)
