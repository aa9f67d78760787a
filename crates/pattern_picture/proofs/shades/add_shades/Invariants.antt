use Rattle.std.proofs.Common.{◌≡◌, ◌++◌, map, take}
use Rattle.pattern_picture.specs.Shades.{shade_of}
use Rattle.pattern_picture.proofs.shades.add_shades.Given as goal

abbrev pub invariant-loop-count : goal.invariant-loop-count
invariant-loop-count l = l.shades.items ≡ l.fn.shades.items ++ map (shade_of l.exponent) (take l.count-index l.counts)
