-- How large a table may be.
use Rattle.std.specs.Prelude.{◌≡◌, ℕ, ◌≤◌, ◌^◌}

-- a table may have so many pair slots
abbrev pub IsPairCount : ℕ → Type 0
IsPairCount pairs = (bits : ℕ) × (10 ≤ bits) × (bits ≤ 28) × (pairs ≡ 2 ^ bits)
