-- A rule's code is below 2 ^ 20, and is no other rule's.
use Rattle.std.proofs.Common.{◌≡◌, ℕ, zero, suc, ◌+◌, ◌*◌, ◌^◌, ◌<◌, Bool, true, false, List, [], ◌∷◌, sum_by, refl, ap, sym, ◌∙◌, inl, inr, subst, add-one, arith}
use Rattle.std.proofs.lemmas.Bool.{cases_Bool, cases_lt}
use Rattle.std.proofs.lemmas.List.Sums.{sum_by-cons}
use Rattle.std.proofs.lemmas.Nat.{pow-add}
use Rattle.rule_text.specs.CountRule.{CountRule, IsRule, has, rising}
use Rattle.rule_text.specs.RuleCode.{code_of, number}
use Rattle.rule_text.specs.declared.neighbourhood.Neighbourhood.{Neighbourhood}
use Rattle.rule_text.specs.declared.neighbourhood.Neighbourhood.TheVariants.{Moore, VonNeumann, Hexagonal}
use Rattle.rule_text.proofs.CountUp.{below, below-yes, below-no, below-nine, sum-push, bits_below-more, bits_below-same}
use Rattle.rule_text.proofs.RisingDigits.{filter-counts}

-- a bit for each digit
abbrev pub bits : List ℕ → ℕ
bits digits = sum_by (λ digit. 2 ^ digit) digits

bits-yes : (p : ℕ → Bool) (n : ℕ) → p n ≡ true → bits (below p (n + 1)) ≡ bits (below p n) + 2 ^ n
bits-yes p n passes = ap bits (below-yes p n passes) ∙ sum-push (below p n) n

bits-no : (p : ℕ → Bool) (n : ℕ) → p n ≡ false → bits (below p (n + 1)) ≡ bits (below p n)
bits-no p n fails = ap bits (below-no p n fails)

bits-bound_more : (p : ℕ → Bool) (n : ℕ) → bits (below p n) < 2 ^ n → bits (below p (n + 1)) < 2 ^ (n + 1)
bits-bound_more p n small =
    elim (cases_Bool (p n)) [
      | inl passes ↦ rw (bits-yes p n passes) (bits_below-more n (bits (below p n)) small)
      | inr fails ↦ rw (bits-no p n fails) (bits_below-same n (bits (below p n)) small)
    ]

-- bits below place n are together below 2 ^ n
bits-bound : (p : ℕ → Bool) (n : ℕ) → bits (below p n) < 2 ^ n
bits-bound p zero = omega arith
bits-bound p (suc n) = subst (λ m. bits (below p m) < 2 ^ m) (add-one n) (bits-bound_more p n (bits-bound p n))

-- the top bit and those below it are told apart
top_bit : (p q : ℕ → Bool) (n : ℕ) → bits (below p (n + 1)) ≡ bits (below q (n + 1)) → (p n ≡ q n) × (bits (below p n) ≡ bits (below q n))
top_bit p q n same =
    let small_p = bits-bound p n in
    let small_q = bits-bound q n in
    elim (cases_Bool (p n)) [
      | inl p_in ↦ elim (cases_Bool (q n)) [
        | inl q_in ↦ let e = bits-yes p n p_in in let f = bits-yes q n q_in in (p_in ∙ sym q_in, omega arith)
        | inr q_out ↦ let e = bits-yes p n p_in in let f = bits-no q n q_out in absurd (omega arith)
      ]
      | inr p_out ↦ elim (cases_Bool (q n)) [
        | inl q_in ↦ let e = bits-no p n p_out in let f = bits-yes q n q_in in absurd (omega arith)
        | inr q_out ↦ let e = bits-no p n p_out in let f = bits-no q n q_out in (p_out ∙ sym q_out, omega arith)
      ]
    ]

-- equal bits are the same digits
same_digits : (p q : ℕ → Bool) (n : ℕ) → bits (below p n) ≡ bits (below q n) → (d : ℕ) → d < n → p d ≡ q d
same_digits p q zero same d small = absurd (omega arith)
same_digits p q (suc n) same d small =
    let top = top_bit p q n (ap (λ m. bits (below p m)) (add-one n) ∙ same ∙ ap (λ m. bits (below q m)) (sym (add-one n))) in
    elim (cases_lt d n) [
      | inl lower ↦ same_digits p q n top.1 d lower
      | inr here ↦ let e : d ≡ n = omega arith in rw e top.0
    ]

-- digits that rise are known by their bits
same_rising : (a b : List ℕ) → a ≡ rising a → b ≡ rising b → bits a ≡ bits b → a ≡ b
unfolding rising
same_rising a b a_rises b_rises same =
    let below_a = ap bits (below-nine a) ∙ ap bits (sym a_rises) in
    let below_b = ap bits (below-nine b) ∙ ap bits (sym b_rises) in
    a_rises ∙ filter-counts (has a) (has b) (same_digits (has a) (has b) 9 (below_a ∙ same ∙ sym below_b)) ∙ sym b_rises

bits-small : (digits : List ℕ) → digits ≡ rising digits → bits digits < 512
bits-small digits rises =
    let small : bits (below (has digits) 9) < 2 ^ 9 = bits-bound (has digits) 9 in
    let same : bits (below (has digits) 9) ≡ bits digits = ap bits (below-nine digits) ∙ ap bits (sym rises) in
    omega arith

-- the bits of survival stand nine places higher
pub shifted_bits : (digits : List ℕ) → sum_by (λ digit. 2 ^ (9 + digit)) digits ≡ 512 * bits digits
shifted_bits [] = refl
shifted_bits (d ∷ ds) =
    let here = sum_by-cons (λ digit. 2 ^ (9 + digit)) d ds in
    let there = sum_by-cons (λ digit. 2 ^ digit) d ds in
    let up : 2 ^ (9 + d) ≡ 2 ^ 9 * 2 ^ d = pow-add 2 9 d in
    let rest = shifted_bits ds in
    omega arith

pub number-small : (neighbourhood : Neighbourhood) → number neighbourhood < 3
number-small Moore = omega arith
number-small VonNeumann = omega arith
number-small Hexagonal = omega arith

same_number : (a b : Neighbourhood) → number a ≡ number b → a ≡ b
same_number Moore Moore same = refl
same_number Moore VonNeumann same = absurd (omega arith)
same_number Moore Hexagonal same = absurd (omega arith)
same_number VonNeumann Moore same = absurd (omega arith)
same_number VonNeumann VonNeumann same = refl
same_number VonNeumann Hexagonal same = absurd (omega arith)
same_number Hexagonal Moore same = absurd (omega arith)
same_number Hexagonal VonNeumann same = absurd (omega arith)
same_number Hexagonal Hexagonal same = refl

same_parts : (a b : CountRule) → a.neighbourhood ≡ b.neighbourhood → a.birth ≡ b.birth → a.survival ≡ b.survival → a ≡ b
same_parts a b n birth survival = rw (n, birth, survival) refl

-- no two rules have one code
pub one_rule : (a b : CountRule) → IsRule a → IsRule b → code_of a ≡ code_of b → a ≡ b
one_rule a b is_a is_b same =
    let up_a = shifted_bits a.survival in
    let up_b = shifted_bits b.survival in
    let birth_a = bits-small a.birth is_a.birth_rises in
    let birth_b = bits-small b.birth is_b.birth_rises in
    let survival_a = bits-small a.survival is_a.survival_rises in
    let survival_b = bits-small b.survival is_b.survival_rises in
    same_parts a b
    (same_number a.neighbourhood b.neighbourhood (omega arith))
    (same_rising a.birth b.birth is_a.birth_rises is_b.birth_rises (omega arith))
    (same_rising a.survival b.survival is_a.survival_rises is_b.survival_rises (omega arith))
