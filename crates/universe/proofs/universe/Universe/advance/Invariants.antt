use Rattle.std.proofs.Common.{◌≡◌, ◌^◌, take}
use Rattle.std.specs.Prelude.{sum_by}
use Rattle.universe.specs.Later.{IsLater}
use Rattle.universe.proofs.universe.Universe.advance.Given as goal

-- the universe after the steps so far, whose generations are counted
abbrev pub invariant-steps : goal.invariant-steps
invariant-steps g l = record {
  later : IsLater l.fn.self l.done l.universe;
  counted : l.done ≡ sum_by (λ step. 2 ^ step.exponent) (take l.next-index l.next-items);
}
