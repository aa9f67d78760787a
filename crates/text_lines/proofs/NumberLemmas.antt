-- Numbers, digit by digit, and what a machine keeps of them.
use Rattle.std.proofs.Common.{◌≡◌, ℕ, ◌<◌, ◌+◌, Bool, true, false, cond, List, [], ◌∷◌, length, drop, Option, Some, None, refl, ap, sym, ◌∙◌, arith, fold, if◌then◌else◌, get_or, ◌≤◌}
use Rattle.std.proofs.lemmas.List.{at_drop_more, at_drop_all}
use Rattle.std.specs.Char.{is_ascii_digit}
use Rattle.std.specs.List.{list_all}
use Rattle.std.specs.Option.{option_map}
use Rattle.text_lines.specs.Numbers.{with_digit, decimal_value, capped, number_of}

pub capped_step : (number digit : ℕ) → capped (with_digit (capped number) digit) ≡ capped (with_digit number digit)
capped_step number digit = omega arith

-- capping on the way changes nothing in the end
pub capped-fold : (number : ℕ) (digits : List ℕ) → capped (fold with_digit (capped number) digits) ≡ capped (fold with_digit number digits)
capped-fold number [] = omega arith
capped-fold number (digit ∷ digits) =
    sym (capped-fold (with_digit (capped number) digit) digits)
    ∙ ap (λ n. capped (fold with_digit n digits)) (capped_step number digit)
    ∙ capped-fold (with_digit number digit) digits

-- the number after these digits more, if all are digits
unfoldable pub read_on : ℕ → List ℕ → Option ℕ
read_on number text = if list_all is_ascii_digit text then Some (capped (fold with_digit number text)) else None

pub read_on-digit : (number digit : ℕ) (digits : List ℕ) → is_ascii_digit digit ≡ true → read_on (capped (with_digit number digit)) digits ≡ read_on number (digit ∷ digits)
unfolding read_on
read_on-digit number digit digits is =
    rw (is, capped-fold (with_digit number digit) digits) refl

pub read_on-other : (number other : ℕ) (digits : List ℕ) → is_ascii_digit other ≡ false → read_on number (other ∷ digits) ≡ None
unfolding read_on
read_on-other number other digits not_digit = rw not_digit refl

pub read_on-end : (number : ℕ) → number < 18446744073709551616 → read_on number [] ≡ Some number
unfolding read_on
read_on-end number fits = ap Some (omega arith)

pub number_of-nil : option_map capped (number_of []) ≡ None
unfolding number_of
number_of-nil = refl

capped_some : (b : Bool) (number : ℕ) → option_map capped (cond b (Some number) None) ≡ cond b (Some (capped number)) None
capped_some true number = refl
capped_some false number = refl

pub number_of-read_on : (first : ℕ) (rest : List ℕ) → option_map capped (number_of (first ∷ rest)) ≡ read_on 0 (first ∷ rest)
unfolding number_of read_on
number_of-read_on first rest = capped_some (list_all is_ascii_digit (first ∷ rest)) (decimal_value (first ∷ rest))

-- the same of a text that is not empty
pub number_of-some : (text : List ℕ) → 0 < length text → option_map capped (number_of text) ≡ read_on 0 text
number_of-some [] long = absurd (omega arith)
number_of-some (first ∷ rest) long = number_of-read_on first rest

pub number_of-empty : (text : List ℕ) → length text ≡ 0 → None ≡ option_map capped (number_of text)
number_of-empty [] empty = sym number_of-nil
number_of-empty (first ∷ rest) empty = absurd (omega arith)

-- a loop that has read the digits before place i, and reads the byte there
module _ (text : List ℕ) (value i : ℕ) (so_far : read_on value (drop i text) ≡ read_on 0 text) where
  pub read_on-next : (next : ℕ) → i < length text → is_ascii_digit (get_or text i 0) ≡ true → next ≡ capped (with_digit value (get_or text i 0)) → read_on next (drop (i + 1) text) ≡ read_on 0 text
  read_on-next next within is step =
      ap (λ n. read_on n (drop (i + 1) text)) step
      ∙ read_on-digit value (get_or text i 0) (drop (i + 1) text) is
      ∙ sym (at_drop_more (read_on value) text i 0 within) ∙ so_far

  pub read_on-stop : i < length text → is_ascii_digit (get_or text i 0) ≡ false → None ≡ option_map capped (number_of text)
  read_on-stop within other =
      sym (read_on-other value (get_or text i 0) (drop (i + 1) text) other)
      ∙ sym (at_drop_more (read_on value) text i 0 within) ∙ so_far
      ∙ sym (number_of-some text (omega arith))

  pub read_on-all : 0 < length text → length text ≤ i → value < 18446744073709551616 → Some value ≡ option_map capped (number_of text)
  read_on-all some all fits =
      sym (read_on-end value fits) ∙ sym (at_drop_all (read_on value) text i all) ∙ so_far
      ∙ sym (number_of-some text some)
