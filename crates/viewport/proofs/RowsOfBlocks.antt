-- The blocks of a row beside a square and in it.
use Rattle.std.proofs.Common.{◌≡◌, ℕ, ◌+◌, ◌-◌, ◌*◌, ◌^◌, ◌<◌, ◌≤◌, min, ℤ, pos, ◌+ℤ◌, ◌-ℤ◌, ◌≤ℤ◌, ◌<ℤ◌, true, false, List, ◌++◌, replicate, append_assoc, sym, ◌∙◌, ap, subst, arith}
use Rattle.std.specs.Prelude.{int_lt}
use Rattle.std.proofs.lemmas.Int.{ints}
use Rattle.plane.specs.Centred.{centred}
use Rattle.plane.specs.Plane.{Plane}
use Rattle.plane.specs.Square.{IsSquare, spans}
use Rattle.plane.proofs.Paddings.{twice_half}
use Rattle.squares.proofs.NumberMaps.{by_cases}
use Rattle.viewport.specs.Blocks.{block_count, block_counts}
use Rattle.viewport.specs.BlockSpans.{AreBeside, IsInBlocks}
use Rattle.viewport.specs.declared.blocks.Columns.{Columns}
use Rattle.viewport.proofs.CentredBlocks.{block_above, block_below, block_left, block_right, centred_block, centred_within, fitted_block}
use Rattle.viewport.proofs.Neighbours.{map_beside, map_dead}
use Rattle.viewport.proofs.SpanCounts.{side_of_blocks}

low_row : (n : ℕ) (j : ℤ) → int_lt j (pos 0 -ℤ pos n) ≡ true → j <ℤ (pos 0 -ℤ pos n)
low_row n j e = grind (arith, ints)

high_row : (n side : ℕ) (j : ℤ) → side ≡ n + n → int_lt j (pos 0 -ℤ pos n) ≡ false → spans side (j +ℤ pos n) ≡ false → pos n ≤ℤ j
high_row n side j twice e out = grind (arith, ints)

blocks_in_half : (level e f : ℕ) → 1 ≤ level → f ≡ min e (level - 1) → 2 ^ (level - 1) ≡ 2 ^ (level - f - 1) * 2 ^ f
blocks_in_half level e f least is = side_of_blocks level f least (omega (arith, is))

module _ (level e f : ℕ) (cells : Plane) (least : 1 ≤ level) (is : f ≡ min e (level - 1)) (square : IsSquare (2 ^ level) cells) where
  -- a row of blocks outside the square
  pub outside_counts : (left j : ℤ) (width : ℕ) → spans (2 ^ (level - f)) (j +ℤ pos (2 ^ (level - f - 1))) ≡ false → block_counts (centred level cells) e j left width ≡ replicate width 0
  outside_counts left j width out =
      let n : ℕ = 2 ^ (level - f - 1) in
      let fits = blocks_in_half level e f least is in
      let within = centred_within level cells least square in
      let twice = twice_half (level - f) (omega (arith, is)) in
      map_dead (λ column. block_count (centred level cells) e column j) left width
      (λ k low. fitted_block (centred level cells) e (level - 1) f is within (left +ℤ pos k) j
      ∙ by_cases (int_lt j (pos 0 -ℤ pos n))
      (λ b. block_above (2 ^ (level - 1)) n f (centred level cells) within fits (left +ℤ pos k) j (low_row n j b))
      (λ b. block_below (2 ^ (level - 1)) n f (centred level cells) within fits (left +ℤ pos k) j (high_row n (2 ^ (level - f)) j twice b out)))

  -- a row of blocks of which the square has some
  pub beside_counts : (left j half : ℤ) (width row : ℕ) (columns : Columns) → half ≡ pos (2 ^ (level - f - 1)) → j ≡ pos row -ℤ half → AreBeside left width half columns →
      block_counts (centred level cells) e j left width
      ≡ (replicate columns.before 0 ++ block_counts cells f (pos row) (pos columns.from) (columns.end - columns.from)) ++ replicate columns.behind 0
  beside_counts left j half width row columns side place are =
      let n : ℕ = 2 ^ (level - f - 1) in
      let plane : Plane = centred level cells in
      let fits = blocks_in_half level e f least is in
      let within = centred_within level cells least square in
      map_beside (λ column. block_count plane e column j) (λ column. block_count cells f column (pos row)) left width half columns are
      (λ z low. fitted_block plane e (level - 1) f is within z j ∙ block_left (2 ^ (level - 1)) n f plane within fits z j (subst (λ h. z <ℤ (pos 0 -ℤ h)) side low))
      (λ z high. fitted_block plane e (level - 1) f is within z j ∙ block_right (2 ^ (level - 1)) n f plane within fits z j (subst (λ h. h ≤ℤ z) side high))
      (λ c low. fitted_block plane e (level - 1) f is within (pos c -ℤ half) j ∙ ap (block_count plane f (pos c -ℤ half)) place
      ∙ ap (λ h. block_count plane f (pos c -ℤ h) (pos row -ℤ h)) side ∙ centred_block level n f cells fits c row)

-- the numbers of three parts, one added behind the other
pub three_added : (old one two new first second third whole : List ℕ) → one ≡ old ++ first → two ≡ one ++ second → new ≡ two ++ third → whole ≡ (first ++ second) ++ third → new ≡ old ++ whole
three_added old one two new first second third whole a b c all =
    c ∙ ap (λ l. l ++ third) (b ∙ ap (λ l. l ++ second) a ∙ append_assoc old first second) ∙ append_assoc old (first ++ second) third ∙ ap (λ l. old ++ l) (sym all)

-- the square's own part of a row
pub inside_span : (level f row : ℕ) (left half : ℤ) (width : ℕ) (columns : Columns) → 1 ≤ level - f → half ≡ pos (2 ^ (level - f - 1)) → AreBeside left width half columns →
    row < 2 ^ (level - f) → IsInBlocks (2 ^ (level - f)) (record { row = row; from = columns.from; end = columns.end })
inside_span level f row left half width columns some side are low =
    let twice = twice_half (level - f) some in
    let end = are.end in
    record { row = low; order = are.order; end = omega (arith, ints, twice, side, end) }
