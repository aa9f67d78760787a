-- A square is its level and its number.
use Rattle.std.proofs.Common.{◌≡◌}
use Rattle.squares.specs.declared.sq.Sq.{Sq}

pub same_sq : (a b : Sq) → a.level ≡ b.level → a.num.0 ≡ b.num.0 → a ≡ b
same_sq a b level num = λ i. record { level = level i; num = record { 0 = num i } }
