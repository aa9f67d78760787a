-- Rows that are cut to the square after each generation: the cells further in than so many
-- generations are right.
use Rattle.std.proofs.Common.{◌≡◌, ℕ, zero, suc, ◌*◌, ◌%◌, ◌^◌, ◌<◌, ◌≤◌, min, ℤ, pos, ◌+ℤ◌, ◌≤ℤ◌, ◌<ℤ◌, true, refl, ◌∙◌, ap, arith}
use Rattle.std.specs.Prelude.{◌&&◌}
use Rattle.std.proofs.Math.Pow.{pow_mono}
use Rattle.std.proofs.lemmas.Int.{ints}
use Rattle.rule_text.specs.CountRule.{CountRule}
use Rattle.plane.specs.Laws.{IsNear}
use Rattle.plane.specs.Plane.{Plane, next, after}
use Rattle.plane.specs.Square.{IsSame, spans, cut}
use Rattle.plane.proofs.Cones.{light_cone_lem}
use Rattle.plane.proofs.Cuts.{and_case, and_left, and_right}
use Rattle.leaf_kernels.specs.Inside.{AgreeInside, IsInner}
use Rattle.plane.proofs.SquareCells.{and_true}

inner_spans : (side n : ℕ) (z : ℤ) → IsInner side n z → spans side z ≡ true
inner_spans side n z inner = grind (arith, ints, inner.low, inner.high)

near_inner : (side n : ℕ) (x u : ℤ) → IsInner side (suc n) x → IsNear 1 x u → IsInner side n u
near_inner side n x u inner near = record { low = omega (arith, ints); high = omega (arith, ints) }

here : (z : ℤ) → z +ℤ pos 0 ≡ z
here z = omega (arith, ints)

pub agree_at_first : (side : ℕ) (p q : Plane) → IsSame p q → AgreeInside side 0 p q
agree_at_first side p q same x y inner_x inner_y = same.same x y

pub agree_next : (side : ℕ) (rule : CountRule) (n : ℕ) (cells new square : Plane) → IsSame new (cut side 0 0 (next rule cells)) →
    AgreeInside side n cells (after rule square n) → AgreeInside side (suc n) new (after rule square (suc n))
agree_next side rule n cells new square is agree x y inner_x inner_y =
    is.same x y
    ∙ and_true (spans side x) (spans side y) (next rule cells (x +ℤ pos 0) (y +ℤ pos 0)) (inner_spans side (suc n) x inner_x) (inner_spans side (suc n) y inner_y)
    ∙ ap (λ u. next rule cells u (y +ℤ pos 0)) (here x) ∙ ap (λ v. next rule cells x v) (here y)
    ∙ light_cone_lem rule cells (after rule square n) 1 x y (λ u v near_u near_v. agree u v (near_inner side n x u inner_x near_u) (near_inner side n y v inner_y near_v))

-- A square, a quarter of its side, and the square of half its side in its middle.
module _ (side quarter half : ℕ) (is_side : side ≡ 4 * quarter) (is_half : half ≡ 2 * quarter) where
  centre_inner : (n : ℕ) (z : ℤ) → n ≤ quarter → spans half z ≡ true → IsInner side n (z +ℤ pos quarter)
  centre_inner n z few inside = record { low = low n z few (spans_low z inside); high = high n z few (spans_high z inside) }
    where
      spans_low : (z : ℤ) → spans half z ≡ true → pos 0 ≤ℤ z
      spans_low z inside = grind (arith, ints)

      spans_high : (z : ℤ) → spans half z ≡ true → z <ℤ pos half
      spans_high z inside = grind (arith, ints)

      low : (n : ℕ) (z : ℤ) → n ≤ quarter → pos 0 ≤ℤ z → pos n ≤ℤ (z +ℤ pos quarter)
      low n z few inside = omega (arith, ints)

      high : (n : ℕ) (z : ℤ) → n ≤ quarter → z <ℤ pos half → ((z +ℤ pos quarter) +ℤ pos n) <ℤ pos side
      high n z few inside = omega (arith, ints)

  pub centre_agrees : (n : ℕ) (cells other result : Plane) → n ≤ quarter → IsSame result (cut half quarter quarter cells) → AgreeInside side n cells other → IsSame result (cut half quarter quarter other)
  centre_agrees n cells other result few is agree = record {
    same = λ x y. is.same x y ∙ and_case (spans half x && spans half y) (cells (x +ℤ pos quarter) (y +ℤ pos quarter)) (other (x +ℤ pos quarter) (y +ℤ pos quarter)) (λ inside.
        agree (x +ℤ pos quarter) (y +ℤ pos quarter) (centre_inner n x few (and_left (spans half x) (spans half y) inside)) (centre_inner n y few (and_right (spans half x) (spans half y) inside)));
  }

byte_power : (e : ℕ) → e < 8 → 1 * 2 ^ e % 2 ^ 8 ≡ 2 ^ e
byte_power zero h = refl
byte_power (suc zero) h = refl
byte_power (suc (suc zero)) h = refl
byte_power (suc (suc (suc zero))) h = refl
byte_power (suc (suc (suc (suc zero)))) h = refl
byte_power (suc (suc (suc (suc (suc zero))))) h = refl
byte_power (suc (suc (suc (suc (suc (suc zero)))))) h = refl
byte_power (suc (suc (suc (suc (suc (suc (suc zero))))))) h = refl
byte_power (suc (suc (suc (suc (suc (suc (suc (suc e)))))))) h = absurd (omega arith)

-- the generations of an exponent that is at most so much, as the code and as the definition have
-- them
pub generations_of : (most e : ℕ) → e < suc most → most < 8 → 1 * 2 ^ e % 2 ^ 8 ≡ 2 ^ min e most
generations_of most e h small = byte_power e (omega arith) ∙ ap (λ n. 2 ^ n) (least most e h)
  where
    least : (most e : ℕ) → e < suc most → e ≡ min e most
    least most e h = omega arith

pub few_generations : (most e : ℕ) → 2 ^ min e most ≤ 2 ^ most
few_generations most e = pow_mono (at_most most e)
  where
    at_most : (most e : ℕ) → min e most ≤ most
    at_most most e = omega arith

-- what is so far inside one plane is so far inside another that is the same
pub agree_same : (side margin : ℕ) (p q r : Plane) → AgreeInside side margin p q → IsSame q r → AgreeInside side margin p r
agree_same side margin p q r agree same x y inner_x inner_y = agree x y inner_x inner_y ∙ same.same x y
