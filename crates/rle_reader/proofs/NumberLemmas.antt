-- Numbers, digit by digit, and what a machine keeps of them.
use Rattle.std.proofs.Common.{◌≡◌, ℕ, suc, zero, true, false, min, List, drop, Option, Some, None, refl, ap, arith, pos, neg_ℤ, codes}
use Rattle.text_lines.specs.Bytes.{begins_with}
use Rattle.std.specs.Option.{option_map}
use Rattle.rle_reader.specs.Numbers.{clamped, integer_of}
use Rattle.text_lines.specs.Numbers.{capped, number_of}

clamped_neg : (number : ℕ) → neg_ℤ (pos (min (capped number) 9223372036854775807)) ≡ clamped (neg_ℤ (pos number))
clamped_neg zero = refl
clamped_neg (suc number) =
    let size : min (capped (suc number)) 9223372036854775807 ≡ suc (min number 9223372036854775806) = omega arith in
    ap (λ n. neg_ℤ (pos n)) size

minus_number : (size : Option ℕ) → option_map (λ size. neg_ℤ (pos (min size 9223372036854775807))) (option_map capped size) ≡ option_map clamped (option_map (λ number. neg_ℤ (pos number)) size)
minus_number None = refl
minus_number (Some number) = ap Some (clamped_neg number)

plus_number : (size : Option ℕ) → option_map (λ size. pos (min size 9223372036854775807)) (option_map capped size) ≡ option_map clamped (option_map (λ number. pos number) size)
plus_number None = refl
plus_number (Some number) =
    let size : min (capped number) 9223372036854775807 ≡ min number 9223372036854775807 = omega arith in
    ap (λ n. Some (pos n)) size

pub integer_of-minus : (text digits : List ℕ) → begins_with (codes "-") text ≡ true → digits ≡ drop 1 text → option_map (λ size. neg_ℤ (pos (min size 9223372036854775807))) (option_map capped (number_of digits)) ≡ option_map clamped (integer_of text)
unfolding integer_of
integer_of-minus text digits begins is = rw (begins, is) (minus_number (number_of (drop 1 text)))

pub integer_of-plain : (text : List ℕ) → begins_with (codes "-") text ≡ false → option_map (λ size. pos (min size 9223372036854775807)) (option_map capped (number_of text)) ≡ option_map clamped (integer_of text)
unfolding integer_of
integer_of-plain text begins = rw begins (plus_number (number_of text))
