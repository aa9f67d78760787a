-- Cells by their coordinates.
use Rattle.std.proofs.Common.{◌≡◌, ℤ, ap, ◌∙◌}
use Rattle.plane.specs.declared.cell.Cell.{Cell}

abbrev pub at : ℤ → ℤ → Cell
at x y = record { y = y; x = x }

pub same_cell : (a b c d : ℤ) → a ≡ c → b ≡ d → at a b ≡ at c d
same_cell a b c d p q = ap (λ x. at x b) p ∙ ap (λ y. at c y) q
