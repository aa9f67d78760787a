-- The digits below a number that is counted up.
use Rattle.std.proofs.Common.{◌≡◌, ℕ, ◌+◌, ◌*◌, ◌^◌, ◌%◌, ◌<◌, add-one, Bool, true, false, cond, List, [], ◌∷◌, ◌++◌, filter, sum_by, refl, ap, sym, ◌∙◌, arith}
use Rattle.std.specs.List.{range_with_len}
use Rattle.std.proofs.lemmas.Bool.{cond-true, cond-false}
use Rattle.std.proofs.lemmas.List.{append-nil, map-append, map-id}
use Rattle.std.proofs.lemmas.List.FromFn.{filter_of_map_range_with_len_more}
use Rattle.std.proofs.lemmas.List.Sums.{sum_by_push}
use Rattle.std.proofs.Math.Nat.{pow-suc}
use Rattle.std.proofs.lemmas.Nat.{pow_below}
use Rattle.rule_text.specs.CountRule.{counts, has, rising}
use Rattle.rule_text.specs.RuleText.{digit_text}

-- the numbers below n that pass
abbrev pub below : (ℕ → Bool) → ℕ → List ℕ
below p n = filter p (range_with_len 0 n)

below-more : (p : ℕ → Bool) (n : ℕ) → below p (n + 1) ≡ below p n ++ cond (p n) (n ∷ []) []
below-more p n =
    ap (filter p) (sym (map-id (range_with_len 0 (n + 1))))
    ∙ filter_of_map_range_with_len_more p (λ x. x) 0 n n (omega arith)
    ∙ ap (λ xs. filter p xs ++ cond (p n) (n ∷ []) []) (map-id (range_with_len 0 n))

pub below-yes : (p : ℕ → Bool) (n : ℕ) → p n ≡ true → below p (n + 1) ≡ below p n ++ n ∷ []
below-yes p n passes = below-more p n ∙ ap (λ xs. below p n ++ xs) (cond-true (p n) (n ∷ []) [] passes)

pub below-no : (p : ℕ → Bool) (n : ℕ) → p n ≡ false → below p (n + 1) ≡ below p n
below-no p n fails = below-more p n ∙ ap (λ xs. below p n ++ xs) (cond-false (p n) (n ∷ []) [] fails) ∙ append-nil (below p n)

-- all of them
pub below-nine : (digits : List ℕ) → below (has digits) 9 ≡ rising digits
unfolding rising counts
below-nine digits = refl

pub digit_text-push : (digits : List ℕ) (digit : ℕ) → digit_text (digits ++ digit ∷ []) ≡ digit_text digits ++ (digit + 48) ∷ []
digit_text-push digits digit = map-append (λ d. d + 48) digits (digit ∷ [])

pub sum-push : (digits : List ℕ) (digit : ℕ) → sum_by (λ d. 2 ^ d) (digits ++ digit ∷ []) ≡ sum_by (λ d. 2 ^ d) digits + 2 ^ digit
sum-push digits digit = sum_by_push (λ d. 2 ^ d) digits digit

pow-more : (n : ℕ) → 2 ^ (n + 1) ≡ 2 ^ n + 2 ^ n
pow-more n = rw (add-one, pow-suc 2 n) (omega arith)

-- a bit is at its place, and the bits up to it stay below the next
pub shifted_one : (n : ℕ) → n < 9 → 1 * 2 ^ n % 4294967296 ≡ 2 ^ n
shifted_one n small = let fits : 2 ^ n < 2 ^ 32 = pow_below n 32 (omega arith) in omega arith

pub bits_below-more : (n bits : ℕ) → bits < 2 ^ n → bits + 2 ^ n < 2 ^ (n + 1)
bits_below-more n bits small = rw pow-more (omega arith)

pub bits_below-same : (n bits : ℕ) → bits < 2 ^ n → bits < 2 ^ (n + 1)
bits_below-same n bits small = rw pow-more (omega arith)
