-- The numbers of requests.
use Rattle.std.proofs.Common.{◌≡◌, ◌∙◌, ℕ, ℤ, true, false, List, [], ◌∷◌, drop, codes, Result, Ok, Err, refl, sym, ap, subst, arith, inl, inr, of_z, to_z, w64, SFits}
use Rattle.std.proofs.lemmas.Bool.{false≢true}
use Rattle.std.proofs.lemmas.Bool.Decides.{nat_tests}
use Rattle.std.proofs.lemmas.Int.{ints, to_z-of_z}
use Rattle.std.specs.Prelude.{IfErr}
use Rattle.std.specs.Str.{byte}
use Rattle.text_lines.specs.Bytes.{begins_with}
use Rattle.text_lines.specs.Numbers.{capped, number_of}
use Rattle.pipe_requests.specs.Numbers.{HasNoNumber, IsSigned, IsSize, IsUnsigned, IsWithin}
use Rattle.pipe_requests.specs.declared.bad.Bad.{Bad}

-- a word that is no number has no size
pub no_size : (word : List ℕ) (why : Bad) → HasNoNumber (IsUnsigned word) why → HasNoNumber (IsSize word) why
no_size word why none = (none.0, λ value is. none.1 (capped is.0) (is.0, is.1, refl))

-- and none between two limits
pub no_within : (least most : ℕ) (word : List ℕ) (why : Bad) → HasNoNumber (IsUnsigned word) why → HasNoNumber (IsWithin least most word) why
no_within least most word why none = (none.0, λ value is. none.1 (capped value) (value, is.digits, refl))

-- a number between two limits lies between those that are the same
pub same_limits : (word : List ℕ) (value least most low high : ℕ) → least ≡ low → most ≡ high
    → IsWithin least most word value → IsWithin low high word value
same_limits word value least most low high lows highs is = record {
  digits = is.digits;
  at_least = let above = is.at_least in omega arith;
  at_most = let below = is.at_most in omega arith;
}

pub no_same_limits : (word : List ℕ) (least most low high : ℕ) → least ≡ low → most ≡ high
    → ((value : ℕ) → IsWithin least most word value → ⊥) → (value : ℕ) → IsWithin low high word value → ⊥
no_same_limits word least most low high lows highs none value is = none value (same_limits word value low high least most (sym lows) (sym highs) is)

-- ---- a minus

pub minus_begins : (word digits : List ℕ) → begins_with (codes "-") word ≡ true → digits ≡ drop 1 word → word ≡ byte "-" ∷ digits
minus_begins [] digits begins is = absurd (false≢true begins)
minus_begins (first ∷ rest) digits begins is =
    let minus : first ≡ 45 = grind (arith, nat_tests) in
    let same : digits ≡ rest = is in
    cc

no_minus : (word digits : List ℕ) → begins_with (codes "-") word ≡ false → word ≡ byte "-" ∷ digits → ⊥
no_minus word digits begins is = absurd (false≢true (sym begins ∙ ap (begins_with (codes "-")) is))

-- a word with a minus is no number without one
pub minus_no_size : (digits : List ℕ) (value : ℤ) → IsSize (byte "-" ∷ digits) value → ⊥
unfolding number_of
minus_no_size digits value (number, is, value_is) = cc

minus_only : (word digits : List ℕ) → word ≡ byte "-" ∷ digits → ((size : ℤ) → IsSize digits size → ⊥) → (value : ℤ) → IsSigned word value → ⊥
minus_only word digits is none value (inl size) = minus_no_size digits value (subst (λ (w : List ℕ). IsSize w value) is size)
minus_only word digits is none value (inr (other, size, other_is, number, negative)) =
    let same : other ≡ digits = cc in
    none size (subst (λ (d : List ℕ). IsSize d size) same number)

pub no_number_behind : (word digits : List ℕ) (why : Bad) → word ≡ byte "-" ∷ digits
    → HasNoNumber (IsSize digits) why → HasNoNumber (IsSigned word) why
no_number_behind word digits why is none = (none.0, minus_only word digits is none.1)

plain_only : (word : List ℕ) → begins_with (codes "-") word ≡ false → ((value : ℤ) → IsSize word value → ⊥) → (value : ℤ) → IsSigned word value → ⊥
plain_only word begins none value (inl size) = none value size
plain_only word begins none value (inr (digits, size, is, number, negative)) = no_minus word digits begins is

pub no_plain_number : (word : List ℕ) (result : Result ℤ Bad) → begins_with (codes "-") word ≡ false
    → IfErr result (HasNoNumber (IsSize word)) → IfErr result (HasNoNumber (IsSigned word))
no_plain_number word (Ok value) begins none = tt
no_plain_number word (Err why) begins none = (none.0, plain_only word begins none.1)

-- ---- a number as a word of the machine

signed_fits : (word : List ℕ) (value : ℤ) → IsSigned word value → SFits w64 value
signed_fits word value (inl (number, is, value_is)) = omega (arith, ints)
signed_fits word value (inr (digits, size, is, (number, number_is, size_is), negative)) = omega (arith, ints)

-- a number that a machine keeps is the same number
pub kept : (word : List ℕ) (value : ℤ) → IsSigned word value → IsSigned word (to_z w64 (of_z w64 value))
kept word value is = subst (IsSigned word) (sym (to_z-of_z w64 value (signed_fits word value is))) is
