-- B3/S23: a rule, and the cells that live by it, from the digits of their numbers of live
-- neighbours.
use Rattle.std.proofs.Common.{◌≡◌, ℕ, ◌+◌, ◌*◌, ◌≤◌, ℤ, Bool, true, false, not, List, length, refl, ◌∙◌, ap, arith, bit_and, bit_or, w64}
use Rattle.std.specs.Prelude.{bit_xor, ◌&&◌, ◌||◌}
use Rattle.std.proofs.lemmas.List.Elements.{All-from_recursion}
use lib.Lanes.{zip2}
use Rattle.rule_text.specs.CountRule.{IsRule, counts, lives, rising}
use Rattle.plane.specs.Square.{spans}
use Rattle.leaf_kernels.specs.Life.{life}
use Rattle.leaf_kernels.specs.Rows.{four_rows_plane}
use Rattle.leaf_kernels.specs.Sums.{number}
use Rattle.plane.proofs.WordBits.{differ}
use Rattle.leaf_kernels.proofs.Lanes.{zip_length, cells-and, cells-or, cells-xor}

pub is_rule : IsRule life
unfolding rising counts
is_rule = record {
  birth_fits = All-from_recursion (λ digit. digit ≤ 8) life.birth (omega arith, tt);
  survival_fits = All-from_recursion (λ digit. digit ≤ 8) life.survival (omega arith, (omega arith, tt));
  birth_rises = refl;
  survival_rises = refl;
  no_birth_on_zero = refl;
}

-- the formula, digit by digit: a one, the two of the ones, a one of the twos, and the two of the
-- twos
pub life_cell : (one carry two four alive : Bool) → (number one + 2 * number carry) + 2 * (number two + 2 * number four) ≤ 8 →
    ((differ carry two && not four) && (one || alive)) ≡ lives life alive ((number one + 2 * number carry) + 2 * (number two + 2 * number four))
life_cell true true true true alive h = absurd (omega arith)
life_cell true true true false true h = refl
life_cell true true true false false h = refl
life_cell true true false true true h = refl
life_cell true true false true false h = refl
life_cell true true false false true h = refl
life_cell true true false false false h = refl
life_cell true false true true true h = refl
life_cell true false true true false h = refl
life_cell true false true false true h = refl
life_cell true false true false false h = refl
life_cell true false false true true h = refl
life_cell true false false true false h = refl
life_cell true false false false true h = refl
life_cell true false false false false h = refl
life_cell false true true true true h = refl
life_cell false true true true false h = refl
life_cell false true true false true h = refl
life_cell false true true false false h = refl
life_cell false true false true true h = refl
life_cell false true false true false h = refl
life_cell false true false false true h = refl
life_cell false true false false false h = refl
life_cell false false true true true h = refl
life_cell false false true true false h = refl
life_cell false false true false true h = refl
life_cell false false true false false h = refl
life_cell false false false true true h = refl
life_cell false false false true false h = refl
life_cell false false false false true h = refl
life_cell false false false false false h = refl

-- the same of rows
pub life_rows : (one carry two four few rows : List ℕ) → length one ≡ 4 → length carry ≡ 4 → length two ≡ 4 → length few ≡ 4 → length rows ≡ 4 →
    ((x lane : ℤ) → four_rows_plane few x lane ≡ ((spans 64 x && spans 4 lane) && not (four_rows_plane four x lane))) →
    (x lane : ℤ) → (spans 64 x && spans 4 lane) ≡ true →
    four_rows_plane (zip2 bit_and (zip2 bit_and (zip2 bit_xor carry two) few) (zip2 bit_or one rows)) x lane
    ≡ ((differ (four_rows_plane carry x lane) (four_rows_plane two x lane) && not (four_rows_plane four x lane)) && (four_rows_plane one x lane || four_rows_plane rows x lane))
life_rows one carry two four few rows lo lc lt lf lr is_few x lane inside =
    let odd = zip_length w64 4 bit_xor carry two lc lt in
    cells-and w64 4 (zip2 bit_and (zip2 bit_xor carry two) few) (zip2 bit_or one rows) (zip_length w64 4 bit_and (zip2 bit_xor carry two) few odd lf) (zip_length w64 4 bit_or one rows lo lr) x lane
    ∙ ap (λ t. t && four_rows_plane (zip2 bit_or one rows) x lane)
    (cells-and w64 4 (zip2 bit_xor carry two) few odd lf x lane
    ∙ ap (λ t. t && four_rows_plane few x lane) (cells-xor w64 4 carry two lc lt x lane)
    ∙ ap (λ t. differ (four_rows_plane carry x lane) (four_rows_plane two x lane) && t) (is_few x lane ∙ ap (λ g. g && not (four_rows_plane four x lane)) inside))
    ∙ ap (λ t. (differ (four_rows_plane carry x lane) (four_rows_plane two x lane) && not (four_rows_plane four x lane)) && t) (cells-or w64 4 one rows lo lr x lane)
