-- Numbers of neighbouring columns, one after the other.
use Rattle.std.proofs.Common.{◌≡◌, ℕ, zero, suc, ◌+◌, ◌-◌, ◌<◌, ◌≤◌, min, ℤ, pos, ◌+ℤ◌, ◌-ℤ◌, ◌≤ℤ◌, ◌<ℤ◌, [], ◌∷◌, ◌++◌, map, replicate, refl, sym, ◌∙◌, ap, arith}
use Rattle.std.proofs.lemmas.Int.{ints}
use Rattle.std.proofs.lemmas.List.{map-append}
use Rattle.viewport.specs.Picture.{coordinates}
use Rattle.viewport.specs.BlockSpans.{AreBeside}
use Rattle.viewport.specs.declared.blocks.Columns.{Columns}

on_place : (a : ℤ) → a ≡ a +ℤ pos 0
on_place a = omega (arith, ints)

next_place : (a : ℤ) (k : ℕ) → (a +ℤ pos 1) +ℤ pos k ≡ a +ℤ pos (suc k)
next_place a k = omega (arith, ints)

-- functions that agree at neighbouring columns
pub map_agrees : (f g : ℤ → ℕ) (a b : ℤ) (n : ℕ) → ((k : ℕ) → k < n → f (a +ℤ pos k) ≡ g (b +ℤ pos k)) → map f (coordinates a n) ≡ map g (coordinates b n)
unfolding coordinates
map_agrees f g a b zero agree = refl
map_agrees f g a b (suc n) agree =
    let rest = map_agrees f g (a +ℤ pos 1) (b +ℤ pos 1) n (λ k low. ap f (next_place a k) ∙ agree (suc k) (omega arith) ∙ sym (ap g (next_place b k))) in
    ap (λ v. v ∷ map f (coordinates (a +ℤ pos 1) n)) (ap f (on_place a) ∙ agree 0 (omega arith) ∙ sym (ap g (on_place b)))
    ∙ ap (λ vs. g b ∷ vs) rest

-- a function that is 0 at neighbouring columns
pub map_dead : (f : ℤ → ℕ) (a : ℤ) (n : ℕ) → ((k : ℕ) → k < n → f (a +ℤ pos k) ≡ 0) → map f (coordinates a n) ≡ replicate n 0
unfolding coordinates
map_dead f a zero dead = refl
map_dead f a (suc n) dead =
    let rest = map_dead f (a +ℤ pos 1) n (λ k low. ap f (next_place a k) ∙ dead (suc k) (omega arith)) in
    ap (λ v. v ∷ map f (coordinates (a +ℤ pos 1) n)) (ap f (on_place a) ∙ dead 0 (omega arith))
    ∙ ap (λ vs. 0 ∷ vs) rest

one_more : (m n : ℕ) → suc m + n ≡ suc (m + n)
one_more m n = omega arith

none_before : (n : ℕ) → zero + n ≡ n
none_before n = omega arith

coordinates-add : (a : ℤ) (m n : ℕ) → coordinates a (m + n) ≡ coordinates a m ++ coordinates (a +ℤ pos m) n
unfolding coordinates
coordinates-add a zero n = ap (coordinates a) (none_before n) ∙ ap (λ z. coordinates z n) (on_place a)
coordinates-add a (suc m) n =
    ap (coordinates a) (one_more m n)
    ∙ ap (λ zs. a ∷ zs) (coordinates-add (a +ℤ pos 1) m n ∙ ap (λ z. coordinates (a +ℤ pos 1) m ++ coordinates z n) (next_place a m))

pub map_split : (f : ℤ → ℕ) (a : ℤ) (m n : ℕ) → map f (coordinates a (m + n)) ≡ map f (coordinates a m) ++ map f (coordinates (a +ℤ pos m) n)
map_split f a m n = ap (map f) (coordinates-add a m n) ∙ map-append f (coordinates a m) (coordinates (a +ℤ pos m) n)

-- one column more
pub map_one_more : (f : ℤ → ℕ) (a : ℤ) (n : ℕ) → map f (coordinates a (n + 1)) ≡ map f (coordinates a n) ++ f (a +ℤ pos n) ∷ []
unfolding coordinates
map_one_more f a n = map_split f a n 1

two_parts : (from end half : ℕ) → from ≤ end → end - from ≡ (min end half - min from half) + ((end - half) - (from - half))
two_parts from end half order = omega arith

in_left : (from end half k : ℕ) → from ≤ end → k < min end half - min from half → (min from half ≡ from) × (from + k < half)
in_left from end half k order low = (omega arith, omega arith)

in_right : (from end half k : ℕ) → from ≤ end → end ≤ half + half → k < (end - half) - (from - half) → (from + (min end half - min from half) + k ≡ half + ((from - half) + k)) × ((from - half) + k < half)
in_right from end half k order most low = (omega arith, omega arith)

sum_of : (a b : ℕ) → pos a +ℤ pos b ≡ pos (a + b)
sum_of a b = omega (arith, ints)

sum_of_three : (a b c : ℕ) → (pos a +ℤ pos b) +ℤ pos c ≡ pos (a + b + c)
sum_of_three a b c = omega (arith, ints)

-- neighbouring columns of two squares beside one another
pub map_halves : (f g h : ℤ → ℕ) (from end half : ℕ) → from ≤ end → end ≤ half + half →
    ((c : ℕ) → c < half → f (pos c) ≡ g (pos c)) → ((c : ℕ) → c < half → f (pos (half + c)) ≡ h (pos c)) →
    map f (coordinates (pos from) (end - from))
    ≡ map g (coordinates (pos (min from half)) (min end half - min from half)) ++ map h (coordinates (pos (from - half)) ((end - half) - (from - half)))
map_halves f g h from end half order most left right =
    let m = min end half - min from half in
    let n = (end - half) - (from - half) in
    ap (λ k. map f (coordinates (pos from) k)) (two_parts from end half order)
    ∙ map_split f (pos from) m n
    ∙ ap (λ l. l ++ map f (coordinates (pos from +ℤ pos m) n))
    (map_agrees f g (pos from) (pos (min from half)) m
    (λ k low. let there = in_left from end half k order low in
    ap f (sum_of from k) ∙ left (from + k) there.1 ∙ ap g (sym (sum_of from k)) ∙ ap (λ z. g (pos z +ℤ pos k)) (sym there.0)))
    ∙ ap (λ l. map g (coordinates (pos (min from half)) m) ++ l)
    (map_agrees f h (pos from +ℤ pos m) (pos (from - half)) n
    (λ k low. let there = in_right from end half k order most low in
    ap f (sum_of_three from m k) ∙ ap (λ z. f (pos z)) there.0 ∙ right ((from - half) + k) there.1 ∙ ap h (sym (sum_of (from - half) k))))

module _ (f g : ℤ → ℕ) (left : ℤ) (width : ℕ) (half : ℤ) (columns : Columns) (are : AreBeside left width half columns) where
  inside_at : (k : ℕ) → k < columns.end - columns.from → (left +ℤ pos columns.before) +ℤ pos k ≡ pos (columns.from + k) -ℤ half
  inside_at k low = let e = are.inside (omega arith) in omega (arith, ints, e)

  inside_low : (k : ℕ) → k < columns.end - columns.from → pos (columns.from + k) <ℤ (half +ℤ half)
  inside_low k low = let e = are.end in omega (arith, ints, e)

  before_at : (k : ℕ) → k < columns.before → (left +ℤ pos k) <ℤ (pos 0 -ℤ half)
  before_at k low = let e = are.before (omega arith) in omega (arith, ints, e)

  behind_at : (k : ℕ) → k < columns.behind → half ≤ℤ ((left +ℤ pos (columns.before + (columns.end - columns.from))) +ℤ pos k)
  behind_at k low = let e = are.behind (omega arith) in omega (arith, ints, e)

  -- columns of which the square has some, and the others are dead
  pub map_beside : ((z : ℤ) → z <ℤ (pos 0 -ℤ half) → f z ≡ 0) → ((z : ℤ) → half ≤ℤ z → f z ≡ 0) → ((c : ℕ) → pos c <ℤ (half +ℤ half) → f (pos c -ℤ half) ≡ g (pos c)) →
      map f (coordinates left width) ≡ (replicate columns.before 0 ++ map g (coordinates (pos columns.from) (columns.end - columns.from))) ++ replicate columns.behind 0
  map_beside before behind inside =
      let b = columns.before in
      let n = columns.end - columns.from in
      let split = map_split f left b n in
      ap (λ k. map f (coordinates left k)) (sym are.all)
      ∙ map_split f left (b + n) columns.behind
      ∙ ap (λ l. l ++ map f (coordinates (left +ℤ pos (b + n)) columns.behind))
      (map_split f left b n
      ∙ ap (λ l. l ++ map f (coordinates (left +ℤ pos b) n)) (map_dead f left b (λ k low. before (left +ℤ pos k) (before_at k low)))
      ∙ ap (λ l. replicate b 0 ++ l) (map_agrees f g (left +ℤ pos b) (pos columns.from) n
      (λ k low. ap f (inside_at k low) ∙ inside (columns.from + k) (inside_low k low) ∙ ap g (sym (sum_of columns.from k)))))
      ∙ ap (λ l. (replicate b 0 ++ map g (coordinates (pos columns.from) n)) ++ l)
      (map_dead f (left +ℤ pos (b + n)) columns.behind (λ k low. behind _ (behind_at k low)))
