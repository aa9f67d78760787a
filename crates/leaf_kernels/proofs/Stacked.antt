-- Sixty-four rows in sixteen vectors: the rows above and below those of a vector are those of its
-- neighbours.
use Rattle.std.proofs.Common.{◌≡◌, ℕ, zero, suc, ◌+◌, ◌*◌, ◌/◌, ◌%◌, ◌<◌, ◌≤◌, ℤ, pos, negsuc, ◌+ℤ◌, ◌-ℤ◌, Bool, true, false, cond, List, [], get_or, refl, sym, ◌∙◌, ap, arith, inl, inr}
use Rattle.std.specs.Prelude.{◌&&◌, ◌==◌, unsigned_abs}
use Rattle.std.proofs.lemmas.Bool.{cases_eq, cases_lt, eq-eqb, ne_eqb}
use Rattle.std.proofs.lemmas.Int.{ints}
use Rattle.rule_text.specs.declared.neighbourhood.Neighbourhood.{Neighbourhood}
use Rattle.rule_text.specs.declared.neighbourhood.Neighbourhood.TheVariants.{Moore, VonNeumann, Hexagonal}
use Rattle.rule_text.specs.CountRule.{CountRule, lives}
use Rattle.plane.specs.Plane.{Plane, live_neighbours, next}
use Rattle.plane.specs.Square.{IsSame, spans, bit, cut}
use Rattle.leaf_kernels.specs.Rows.{four_rows_plane, lane_plane, row_at, rows_plane}
use Rattle.leaf_kernels.specs.Sums.{number}
use Rattle.plane.proofs.SquareCells.{guarded, less_spans}
use Rattle.leaf_kernels.proofs.Neighbours.{eight_neighbours, four_neighbours, six_neighbours}

-- the neighbours of a cell, where three rows of one plane are three rows of another
eight_alike : (a b c d e f g h a' b' c' d' e' f' g' h' : Bool) → a ≡ a' → b ≡ b' → c ≡ c' → d ≡ d' → e ≡ e' → f ≡ f' → g ≡ g' → h ≡ h' →
    0 + number a + number b + number c + number d + number e + number f + number g + number h ≡ 0 + number a' + number b' + number c' + number d' + number e' + number f' + number g' + number h'
eight_alike a b c d e f g h a' b' c' d' e' f' g' h' i j k l m n o p =
    added _ _ _ _ _ _ _ _ _ _ _ _ _ _ _ _ (ap number i) (ap number j) (ap number k) (ap number l) (ap number m) (ap number n) (ap number o) (ap number p)
  where
    added : (a b c d e f g h a' b' c' d' e' f' g' h' : ℕ) → a ≡ a' → b ≡ b' → c ≡ c' → d ≡ d' → e ≡ e' → f ≡ f' → g ≡ g' → h ≡ h' →
        0 + a + b + c + d + e + f + g + h ≡ 0 + a' + b' + c' + d' + e' + f' + g' + h'
    added a b c d e f g h a' b' c' d' e' f' g' h' i j k l m n o p = omega arith

pub same_neighbours : (neighbourhood : Neighbourhood) (p q : Plane) (x y v : ℤ) → ((u : ℤ) → p u (y -ℤ pos 1) ≡ q u (v -ℤ pos 1)) → ((u : ℤ) → p u y ≡ q u v) → ((u : ℤ) → p u (y +ℤ pos 1) ≡ q u (v +ℤ pos 1)) →
    live_neighbours neighbourhood p x y ≡ live_neighbours neighbourhood q x v
same_neighbours Moore p q x y v above here below =
    eight_neighbours p x y
    ∙ eight_alike _ _ _ _ _ _ _ _ _ _ _ _ _ _ _ _ (above (x -ℤ pos 1)) (above x) (above (x +ℤ pos 1)) (here (x -ℤ pos 1)) (here (x +ℤ pos 1)) (below (x -ℤ pos 1)) (below x) (below (x +ℤ pos 1))
    ∙ sym (eight_neighbours q x v)
same_neighbours VonNeumann p q x y v above here below =
    four_neighbours p x y
    ∙ added _ _ _ _ _ _ _ _ (ap number (above x)) (ap number (here (x -ℤ pos 1))) (ap number (here (x +ℤ pos 1))) (ap number (below x))
    ∙ sym (four_neighbours q x v)
  where
    added : (a b c d a' b' c' d' : ℕ) → a ≡ a' → b ≡ b' → c ≡ c' → d ≡ d' → 0 + a + b + c + d ≡ 0 + a' + b' + c' + d'
    added a b c d a' b' c' d' i j k l = omega arith
same_neighbours Hexagonal p q x y v above here below =
    six_neighbours p x y
    ∙ added _ _ _ _ _ _ _ _ _ _ _ _ (ap number (above (x -ℤ pos 1))) (ap number (above x)) (ap number (here (x -ℤ pos 1))) (ap number (here (x +ℤ pos 1))) (ap number (below x)) (ap number (below (x +ℤ pos 1)))
    ∙ sym (six_neighbours q x v)
  where
    added : (a b c d e f a' b' c' d' e' f' : ℕ) → a ≡ a' → b ≡ b' → c ≡ c' → d ≡ d' → e ≡ e' → f ≡ f' → 0 + a + b + c + d + e + f ≡ 0 + a' + b' + c' + d' + e' + f'
    added a b c d e f a' b' c' d' e' f' i j k l m n = omega arith

both_true : (s a b p q : Bool) → a ≡ true → b ≡ true → p ≡ q → ((s && a) && p) ≡ ((s && b) && q)
both_true s a b p q h k e = ap (λ t. (s && t) && p) (h ∙ sym k) ∙ ap (λ t. (s && b) && t) e

both_false : (s a b p q : Bool) → a ≡ false → b ≡ false → ((s && a) && p) ≡ ((s && b) && q)
both_false true a b p q h k = ap (λ t. t && p) h ∙ sym (ap (λ t. t && q) k)
both_false false a b p q h k = refl

-- a row of the sixty-four, by its vector and its lane
row_of : (vectors : List (List ℕ)) (u : ℤ) (y j k : ℕ) → y ≡ 16 * k + j → j < 16 → k < 4 → rows_plane vectors u (pos y) ≡ four_rows_plane (get_or vectors j []) u (pos k)
row_of vectors u y j k e h l =
    both_true (spans 64 u) (spans 64 (pos y)) (spans 4 (pos k)) _ _ (less_spans 64 y (omega arith)) (less_spans 4 k l)
    (ap (λ n. bit (get_or (get_or vectors n []) (y / 16) 0) (unsigned_abs u)) place ∙ ap (λ n. bit (get_or (get_or vectors j []) n 0) (unsigned_abs u)) lane)
  where
    place : y % 16 ≡ j
    place = omega arith

    lane : y / 16 ≡ k
    lane = omega arith

here : (z : ℤ) → z +ℤ pos 0 ≡ z
here z = omega (arith, ints)

-- what shows the next generation at each cell of the square shows its part of it
pub shows_generation : (side : ℕ) (rule : CountRule) (plane shown : Plane) →
    ((x y : ℤ) → (spans side x && spans side y) ≡ true → ((spans side x && spans side y) && shown x y) ≡ next rule plane x y) →
    IsSame (λ x y. (spans side x && spans side y) && shown x y) (cut side 0 0 (next rule plane))
shows_generation side rule plane shown is_next = record {
  same = λ x y. in_and_out (spans side x && spans side y) _ _ (λ inside.
      is_next x y inside
      ∙ ap (λ u. next rule plane u y) (sym (here x)) ∙ ap (λ v. next rule plane (x +ℤ pos 0) v) (sym (here y)));
}
  where
    in_and_out : (g p q : Bool) → (g ≡ true → (g && p) ≡ q) → (g && p) ≡ (g && q)
    in_and_out true p q h = h refl
    in_and_out false p q h = refl

module _ (vectors : List (List ℕ)) (before behind : List ℕ)
    (is_before : (x lane : ℤ) → four_rows_plane before x lane ≡ (spans 4 lane && four_rows_plane (get_or vectors 15 []) x (lane -ℤ pos 1)))
    (is_behind : (x lane : ℤ) → four_rows_plane behind x lane ≡ (spans 4 lane && four_rows_plane (get_or vectors 0 []) x (lane +ℤ pos 1))) where
  -- the vector above another, and that below it
  abbrev pub above : ℕ → List ℕ
  above zero = before
  above (suc j) = get_or vectors j []

  abbrev pub below : ℕ → List ℕ
  below j = cond (j == 15) behind (get_or vectors (suc j) [])

  inside_lane : (k : ℕ) (p q : Bool) → k < 4 → p ≡ (spans 4 (pos k) && q) → q ≡ p
  inside_lane k p q h e = sym (e ∙ ap (λ t. t && q) (less_spans 4 k h))

  row_above : (u : ℤ) (y j k : ℕ) → y ≡ 16 * k + j → j < 16 → k < 4 → rows_plane vectors u (pos y -ℤ pos 1) ≡ four_rows_plane (above j) u (pos k)
  row_above u y zero zero e h l =
      ap (λ z. rows_plane vectors u z) first
      ∙ both_false (spans 64 u) (spans 64 (negsuc 0)) (spans 4 (negsuc 0)) _ _ refl refl
      ∙ ap (λ z. four_rows_plane (get_or vectors 15 []) u z) (sym none) ∙ inside_lane 0 _ _ l (is_before u (pos 0))
    where
      first : pos y -ℤ pos 1 ≡ negsuc 0
      first = omega (arith, ints)

      none : pos 0 -ℤ pos 1 ≡ negsuc 0
      none = omega (arith, ints)
  row_above u y zero (suc k) e h l =
      ap (λ z. rows_plane vectors u z) earlier ∙ row_of vectors u (16 * k + 15) 15 k refl (omega arith) (omega arith)
      ∙ ap (λ z. four_rows_plane (get_or vectors 15 []) u z) (sym lane) ∙ inside_lane (suc k) _ _ l (is_before u (pos (suc k)))
    where
      earlier : pos y -ℤ pos 1 ≡ pos (16 * k + 15)
      earlier = omega (arith, ints)

      lane : pos (suc k) -ℤ pos 1 ≡ pos k
      lane = omega (arith, ints)
  row_above u y (suc j) k e h l = ap (λ z. rows_plane vectors u z) earlier ∙ row_of vectors u (16 * k + j) j k refl (omega arith) l
    where
      earlier : pos y -ℤ pos 1 ≡ pos (16 * k + j)
      earlier = omega (arith, ints)

  row_below : (u : ℤ) (y j k : ℕ) → y ≡ 16 * k + j → j < 16 → k < 4 → rows_plane vectors u (pos y +ℤ pos 1) ≡ four_rows_plane (below j) u (pos k)
  row_below u y j k e h l = elim (cases_eq j 15) [
    | inl last ↦ elim (cases_lt (suc k) 4) [
      | inl m ↦
          ap (λ z. rows_plane vectors u z) (next_row (16 * suc k + 0) (omega arith)) ∙ row_of vectors u (16 * suc k + 0) 0 (suc k) refl (omega arith) m
          ∙ ap (λ z. four_rows_plane (get_or vectors 0 []) u z) (sym (lane_on k)) ∙ inside_lane k _ _ l (is_behind u (pos k)) ∙ sym (at_last last)
      | inr m ↦
          ap (λ z. rows_plane vectors u z) (next_row 64 (omega arith))
          ∙ both_false (spans 64 u) (spans 64 (pos 64)) (spans 4 (pos 4)) _ _ refl refl
          ∙ ap (λ z. four_rows_plane (get_or vectors 0 []) u z) (sym (lane_on k ∙ ap pos (fourth m))) ∙ inside_lane k _ _ l (is_behind u (pos k)) ∙ sym (at_last last)
    ]
    | inr ne ↦
        ap (λ z. rows_plane vectors u z) (next_row (16 * k + suc j) (omega arith)) ∙ row_of vectors u (16 * k + suc j) (suc j) k refl (before_last ne) l
        ∙ sym (ap (λ t. four_rows_plane (cond t behind (get_or vectors (suc j) [])) u (pos k)) (ne_eqb j 15 ne))
  ]
    where
      next_row : (n : ℕ) → n ≡ suc y → pos y +ℤ pos 1 ≡ pos n
      next_row n e = omega (arith, ints)

      lane_on : (k : ℕ) → pos k +ℤ pos 1 ≡ pos (suc k)
      lane_on k = omega (arith, ints)

      fourth : 4 ≤ suc k → suc k ≡ 4
      fourth m = omega arith

      before_last : (j ≡ 15 → ⊥) → suc j < 16
      before_last ne = elim (cases_lt (suc j) 16) [ inl m ↦ m | inr m ↦ absurd (ne (omega arith)) ]

      at_last : j ≡ 15 → four_rows_plane (below j) u (pos k) ≡ four_rows_plane behind u (pos k)
      at_last last = ap (λ t. four_rows_plane (cond t behind (get_or vectors (suc j) [])) u (pos k)) (eq-eqb j 15 last)

  neighbours_of : (neighbourhood : Neighbourhood) (x : ℤ) (y j k : ℕ) → y ≡ 16 * k + j → j < 16 → k < 4 →
      live_neighbours neighbourhood (lane_plane (above j) (get_or vectors j []) (below j) (pos k)) x (pos 0) ≡ live_neighbours neighbourhood (rows_plane vectors) x (pos y)
  neighbours_of neighbourhood x y j k e h l = same_neighbours neighbourhood (lane_plane (above j) (get_or vectors j []) (below j) (pos k)) (rows_plane vectors) x (pos 0) (pos y)
      (λ u. sym (row_above u y j k e h l)) (λ u. sym (row_of vectors u y j k e h l)) (λ u. sym (row_below u y j k e h l))

  -- vectors that show the next generation of each vector's rows
  pub next_stack : (rule : CountRule) (results : List (List ℕ)) →
      ((j : ℕ) → j < 16 → (x lane : ℤ) → (spans 64 x && spans 4 lane) ≡ true →
      four_rows_plane (get_or results j []) x lane ≡ lives rule (four_rows_plane (get_or vectors j []) x lane) (live_neighbours rule.neighbourhood (lane_plane (above j) (get_or vectors j []) (below j) lane) x (pos 0))) →
      IsSame (rows_plane results) (cut 64 0 0 (next rule (rows_plane vectors)))
  next_stack rule results each = shows_generation 64 rule (rows_plane vectors) (λ x y. bit (row_at results (unsigned_abs y)) (unsigned_abs x))
      (λ x y inside. guarded 64 64 (rows_plane results) (next rule (rows_plane vectors)) cell x y inside)
    where
      inside_both : (i k : ℕ) → i < 64 → k < 4 → (spans 64 (pos i) && spans 4 (pos k)) ≡ true
      inside_both i k h l = ap (λ t. t && spans 4 (pos k)) (less_spans 64 i h) ∙ less_spans 4 k l

      cell : (i y : ℕ) → i < 64 → y < 64 → rows_plane results (pos i) (pos y) ≡ next rule (rows_plane vectors) (pos i) (pos y)
      cell i y h l =
          let e : y ≡ 16 * (y / 16) + y % 16 = omega arith in
          let place : y % 16 < 16 = omega arith in
          let lane : y / 16 < 4 = omega arith in
          row_of results (pos i) y (y % 16) (y / 16) e place lane
          ∙ each (y % 16) place (pos i) (pos (y / 16)) (inside_both i (y / 16) h lane)
          ∙ ap (λ t. lives rule t (live_neighbours rule.neighbourhood (lane_plane (above (y % 16)) (get_or vectors (y % 16) []) (below (y % 16)) (pos (y / 16))) (pos i) (pos 0))) (sym (row_of vectors (pos i) y (y % 16) (y / 16) e place lane))
          ∙ ap (lives rule (rows_plane vectors (pos i) (pos y))) (neighbours_of rule.neighbourhood (pos i) y (y % 16) (y / 16) e place lane)

-- sixteen cases one by one
pub each_of_sixteen : (P : ℕ → Type 0) → P 0 → P 1 → P 2 → P 3 → P 4 → P 5 → P 6 → P 7 → P 8 → P 9 → P 10 → P 11 → P 12 → P 13 → P 14 → P 15 → (j : ℕ) → j < 16 → P j
each_of_sixteen P a b c d e f g h i j k l m n o p zero less = a
each_of_sixteen P a b c d e f g h i j k l m n o p (suc zero) less = b
each_of_sixteen P a b c d e f g h i j k l m n o p (suc (suc zero)) less = c
each_of_sixteen P a b c d e f g h i j k l m n o p (suc (suc (suc zero))) less = d
each_of_sixteen P a b c d e f g h i j k l m n o p (suc (suc (suc (suc zero)))) less = e
each_of_sixteen P a b c d e f g h i j k l m n o p (suc (suc (suc (suc (suc zero))))) less = f
each_of_sixteen P a b c d e f g h i j k l m n o p (suc (suc (suc (suc (suc (suc zero)))))) less = g
each_of_sixteen P a b c d e f g h i j k l m n o p (suc (suc (suc (suc (suc (suc (suc zero))))))) less = h
each_of_sixteen P a b c d e f g h i j k l m n o p (suc (suc (suc (suc (suc (suc (suc (suc zero)))))))) less = i
each_of_sixteen P a b c d e f g h i j k l m n o p (suc (suc (suc (suc (suc (suc (suc (suc (suc zero))))))))) less = j
each_of_sixteen P a b c d e f g h i j k l m n o p (suc (suc (suc (suc (suc (suc (suc (suc (suc (suc zero)))))))))) less = k
each_of_sixteen P a b c d e f g h i j k l m n o p (suc (suc (suc (suc (suc (suc (suc (suc (suc (suc (suc zero))))))))))) less = l
each_of_sixteen P a b c d e f g h i j k l m n o p (suc (suc (suc (suc (suc (suc (suc (suc (suc (suc (suc (suc zero)))))))))))) less = m
each_of_sixteen P a b c d e f g h i j k l m n o p (suc (suc (suc (suc (suc (suc (suc (suc (suc (suc (suc (suc (suc zero))))))))))))) less = n
each_of_sixteen P a b c d e f g h i j k l m n o p (suc (suc (suc (suc (suc (suc (suc (suc (suc (suc (suc (suc (suc (suc zero)))))))))))))) less = o
each_of_sixteen P a b c d e f g h i j k l m n o p (suc (suc (suc (suc (suc (suc (suc (suc (suc (suc (suc (suc (suc (suc (suc zero))))))))))))))) less = p
each_of_sixteen P a b c d e f g h i j k l m n o p (suc (suc (suc (suc (suc (suc (suc (suc (suc (suc (suc (suc (suc (suc (suc (suc more)))))))))))))))) less = absurd (omega arith)
