-- The live items of an RLE file, in a square around (0,0), in the order of reading.
use Rattle.std.proofs.Common.{ℕ, ◌<◌, ◌≤◌, List, [], ◌∷◌, arith, inl, inr, ⊎_elim}
use Rattle.std.specs.List.{AllByRecursion}
use Rattle.std.proofs.lemmas.Int.{ints}
use Rattle.plane.specs.Runs.{AreRising, IsRun, Precedes}
use Rattle.plane.specs.declared.cell.Cell.{Cell}
use Rattle.plane.proofs.Elements.{AllByRecursion-weaker}
use Rattle.rle_reader.specs.LiveRuns.{LiesWithin}
use Rattle.squares.specs.Spans.{FitsInRoot}
use Rattle.squares.specs.Strips.{AreInReadingOrder, LeadsRun}

fits_further : (reach half : ℕ) (run : Cell × ℕ) → reach ≤ half → 0 < run.1 → LiesWithin reach run → FitsInRoot half run
fits_further reach half run far some lies =
    let l = lies.left in let r = lies.right in let t = lies.top in let b = lies.bottom in
    record { some = some; left = omega (arith, ints, l, far); right = omega (arith, ints, r, far); top = omega (arith, ints, t, far); bottom = omega (arith, ints, b, far) }

-- runs that go so far lie in the square of that half side or more
pub all_fit : (reach half : ℕ) (runs : List (Cell × ℕ)) → reach ≤ half → AllByRecursion IsRun runs → AllByRecursion (LiesWithin reach) runs → AllByRecursion (FitsInRoot half) runs
all_fit reach half [] far each lie = tt
all_fit reach half (run ∷ runs) far each lie = (fits_further reach half run far each.0.some lie.0, all_fit reach half runs far each.1 lie.1)

leads : (run other : Cell × ℕ) → Precedes run other → LeadsRun run other
leads run other precedes = ⊎_elim inl (λ same. let h = same.1 in inr (same.0, omega (arith, ints, h))) precedes

-- rising runs come in the order of reading
pub rising_order : (runs : List (Cell × ℕ)) → AreRising runs → AreInReadingOrder runs
rising_order [] rising = tt
rising_order (run ∷ runs) rising = (AllByRecursion-weaker (Precedes run) (LeadsRun run) (leads run) runs rising.0, rising_order runs rising.1)
