-- The next generation of four rows of sixty-four cells.
use Rattle.std.specs.Prelude.{◌≡◌, ℕ, ℤ, pos, true, List}
use Rattle.rule_text.specs.CountRule.{CountRule, lives}
use Rattle.rule_text.specs.declared.neighbourhood.Neighbourhood.{Neighbourhood}
use Rattle.plane.specs.Plane.{live_neighbours}
use Rattle.leaf_kernels.specs.Rows.{four_rows_plane, in_rows, lane_plane}

-- how many neighbours of a cell in the middle one of three vectors are live
abbrev pub neighbours_at : Neighbourhood → List ℕ → List ℕ → List ℕ → ℤ → ℤ → ℕ
neighbours_at neighbourhood above here below x lane =
    live_neighbours neighbourhood (lane_plane above here below lane) x (pos 0)

-- the cells that those of the middle one of three vectors become by the rule
abbrev pub AreNext : CountRule → List ℕ → List ℕ → List ℕ → List ℕ → Type 0
AreNext rule above here below next =
    (x lane : ℤ) → in_rows x lane ≡ true →
    four_rows_plane next x lane
    ≡ lives rule (four_rows_plane here x lane)
    (neighbours_at rule.neighbourhood above here below x lane)
