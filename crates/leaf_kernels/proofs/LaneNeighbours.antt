-- The live neighbours of the cells in a lane, by the rows in that lane of three vectors.
use Rattle.std.proofs.Common.{◌≡◌, ℕ, ◌+◌, ◌*◌, ℤ, pos, ◌+ℤ◌, ◌-ℤ◌, Bool, true, false, List, sym, ◌∙◌, ap, arith}
use Rattle.std.specs.Prelude.{◌&&◌}
use Rattle.std.proofs.lemmas.Bool.{false≢true}
use Rattle.rule_text.specs.declared.neighbourhood.Neighbourhood.{Neighbourhood}
use Rattle.rule_text.specs.declared.neighbourhood.Neighbourhood.TheVariants.{Moore, VonNeumann, Hexagonal}
use Rattle.plane.specs.Plane.{Plane, live_neighbours}
use Rattle.plane.specs.Square.{spans}
use Rattle.plane.proofs.Cuts.{and_left}
use Rattle.leaf_kernels.specs.Masks.{has_falling, has_rising}
use Rattle.leaf_kernels.specs.Rows.{four_rows_plane, lane_plane}
use Rattle.leaf_kernels.specs.Sums.{number}
use Rattle.leaf_kernels.proofs.Neighbours.{eight_neighbours, four_neighbours, six_neighbours}

-- three numbers above, two beside, three below
pub eight_added : (count upper beside lower a b c d e f g h : ℕ) → count ≡ upper + beside + lower → upper ≡ a + b + c → beside ≡ d + e → lower ≡ f + g + h →
    count ≡ 0 + a + b + c + d + e + f + g + h
eight_added count upper beside lower a b c d e f g h k l m n = omega arith

-- the neighbours that count, and no others
masked : (neighbourhood : Neighbourhood) (p : Plane) (x y : ℤ) →
    0 + number (has_falling neighbourhood && p (x -ℤ pos 1) (y -ℤ pos 1)) + number (p x (y -ℤ pos 1)) + number (has_rising neighbourhood && p (x +ℤ pos 1) (y -ℤ pos 1))
    + number (p (x -ℤ pos 1) y) + number (p (x +ℤ pos 1) y)
    + number (has_rising neighbourhood && p (x -ℤ pos 1) (y +ℤ pos 1)) + number (p x (y +ℤ pos 1)) + number (has_falling neighbourhood && p (x +ℤ pos 1) (y +ℤ pos 1))
    ≡ live_neighbours neighbourhood p x y
masked Moore p x y = sym (eight_neighbours p x y)
masked VonNeumann p x y = none_beside _ _ _ _ ∙ sym (four_neighbours p x y)
  where
    none_beside : (b d e g : ℕ) → 0 + 0 + b + 0 + d + e + 0 + g + 0 ≡ 0 + b + d + e + g
    none_beside b d e g = omega arith
masked Hexagonal p x y = none_rising _ _ _ _ _ _ ∙ sym (six_neighbours p x y)
  where
    none_rising : (a b d e g h : ℕ) → 0 + a + b + 0 + d + e + 0 + g + h ≡ 0 + a + b + d + e + g + h
    none_rising a b d e g h = omega arith

masked_cell : (s l m p b : Bool) → (s && l) ≡ true → b ≡ (((s && l) && m) && (s && p)) → number b ≡ number (m && p)
masked_cell true true m p b h is = ap number is
masked_cell true false m p b h is = absurd (false≢true h)
masked_cell false l m p b h is = absurd (false≢true h)

-- a mask over rows that moved
pub masked_cells : (both mask moved m p : Bool) → both ≡ (mask && moved) → mask ≡ m → moved ≡ p → both ≡ (m && p)
masked_cells both mask moved m p is is_mask is_moved = is ∙ ap (λ t. t && moved) is_mask ∙ ap (λ t. m && t) is_moved

pub within : (s p b : Bool) → s ≡ true → b ≡ (s && p) → number b ≡ number p
within s p b h is = ap number (is ∙ ap (λ t. t && p) h)

sum_two : (s a b c d : ℕ) → s ≡ a + b → a ≡ c → b ≡ d → s ≡ c + d
sum_two s a b c d h k l = omega arith

pub sum_three : (s a b c d e : ℕ) → s ≡ a + b + c → a ≡ d → c ≡ e → s ≡ d + b + e
sum_three s a b c d e h k l = omega arith

pub sum_across : (s a b c d e : ℕ) → s ≡ a + b + c → a ≡ d → b ≡ e → s ≡ d + c + e
sum_across s a b c d e h k l = omega arith

-- what counts of the rows above, here and below
pub masked_count : (neighbourhood : Neighbourhood) (above here below : List ℕ) (x lane : ℤ) (ul ur l r ll lr : Bool) (count upper beside lower : ℕ) → (spans 64 x && spans 4 lane) ≡ true →
    ul ≡ (((spans 64 x && spans 4 lane) && has_falling neighbourhood) && (spans 64 x && four_rows_plane above (x -ℤ pos 1) lane)) →
    ur ≡ (((spans 64 x && spans 4 lane) && has_rising neighbourhood) && (spans 64 x && four_rows_plane above (x +ℤ pos 1) lane)) →
    l ≡ (spans 64 x && four_rows_plane here (x -ℤ pos 1) lane) → r ≡ (spans 64 x && four_rows_plane here (x +ℤ pos 1) lane) →
    ll ≡ (((spans 64 x && spans 4 lane) && has_rising neighbourhood) && (spans 64 x && four_rows_plane below (x -ℤ pos 1) lane)) →
    lr ≡ (((spans 64 x && spans 4 lane) && has_falling neighbourhood) && (spans 64 x && four_rows_plane below (x +ℤ pos 1) lane)) →
    upper ≡ number ul + number (four_rows_plane above x lane) + number ur → beside ≡ number l + number r → lower ≡ number ll + number (four_rows_plane below x lane) + number lr →
    count ≡ upper + beside + lower → count ≡ live_neighbours neighbourhood (lane_plane above here below lane) x (pos 0)
masked_count neighbourhood above here below x lane ul ur l r ll lr count upper beside lower inside is_ul is_ur is_l is_r is_ll is_lr is_upper is_beside is_lower is_count =
    let in_x = and_left (spans 64 x) (spans 4 lane) inside in
    eight_added count upper beside lower _ _ _ _ _ _ _ _ is_count
    (sum_three upper _ _ _ _ _ is_upper (masked_cell (spans 64 x) (spans 4 lane) _ _ ul inside is_ul) (masked_cell (spans 64 x) (spans 4 lane) _ _ ur inside is_ur))
    (sum_two beside _ _ _ _ is_beside (within (spans 64 x) _ l in_x is_l) (within (spans 64 x) _ r in_x is_r))
    (sum_three lower _ _ _ _ _ is_lower (masked_cell (spans 64 x) (spans 4 lane) _ _ ll inside is_ll) (masked_cell (spans 64 x) (spans 4 lane) _ _ lr inside is_lr))
    ∙ masked neighbourhood (lane_plane above here below lane) x (pos 0)

-- what counts of them, if all eight do
pub moore_count : (above here below : List ℕ) (x lane : ℤ) (l r : Bool) (count upper beside lower : ℕ) → (spans 64 x && spans 4 lane) ≡ true →
    upper ≡ number (four_rows_plane above (x -ℤ pos 1) lane) + number (four_rows_plane above x lane) + number (four_rows_plane above (x +ℤ pos 1) lane) →
    l ≡ (spans 64 x && four_rows_plane here (x -ℤ pos 1) lane) → r ≡ (spans 64 x && four_rows_plane here (x +ℤ pos 1) lane) → beside ≡ number l + number r →
    lower ≡ number (four_rows_plane below (x -ℤ pos 1) lane) + number (four_rows_plane below x lane) + number (four_rows_plane below (x +ℤ pos 1) lane) →
    count ≡ upper + beside + lower → count ≡ live_neighbours Moore (lane_plane above here below lane) x (pos 0)
moore_count above here below x lane l r count upper beside lower inside is_upper is_l is_r is_beside is_lower is_count =
    let in_x = and_left (spans 64 x) (spans 4 lane) inside in
    eight_added count upper beside lower _ _ _ _ _ _ _ _ is_count is_upper
    (sum_two beside _ _ _ _ is_beside (within (spans 64 x) _ l in_x is_l) (within (spans 64 x) _ r in_x is_r))
    is_lower
    ∙ sym (eight_neighbours (lane_plane above here below lane) x (pos 0))

carried : (a d b e c f o k t q : ℕ) → o + 2 * k ≡ a + b + c → t + 2 * q ≡ d + e + f → (o + 2 * k) + 2 * (t + 2 * q) ≡ (a + 2 * d) + (b + 2 * e) + (c + 2 * f)
carried a d b e c f o k t q g h = omega arith

-- the ones and the twos of three sums, added apart, count the eight cells round a cell
pub eight_count : (above here below : List ℕ) (x lane : ℤ) (l r : Bool) (a d b e c f o k t q : ℕ) → (spans 64 x && spans 4 lane) ≡ true →
    a + 2 * d ≡ number (four_rows_plane above (x -ℤ pos 1) lane) + number (four_rows_plane above x lane) + number (four_rows_plane above (x +ℤ pos 1) lane) →
    l ≡ (spans 64 x && four_rows_plane here (x -ℤ pos 1) lane) → r ≡ (spans 64 x && four_rows_plane here (x +ℤ pos 1) lane) → b + 2 * e ≡ number l + number r →
    c + 2 * f ≡ number (four_rows_plane below (x -ℤ pos 1) lane) + number (four_rows_plane below x lane) + number (four_rows_plane below (x +ℤ pos 1) lane) →
    o + 2 * k ≡ a + b + c → t + 2 * q ≡ d + e + f →
    (o + 2 * k) + 2 * (t + 2 * q) ≡ live_neighbours Moore (lane_plane above here below lane) x (pos 0)
eight_count above here below x lane l r a d b e c f o k t q inside is_upper is_l is_r is_beside is_lower is_ones is_twos =
    moore_count above here below x lane l r _ (a + 2 * d) (b + 2 * e) (c + 2 * f) inside is_upper is_l is_r is_beside is_lower (carried a d b e c f o k t q is_ones is_twos)
