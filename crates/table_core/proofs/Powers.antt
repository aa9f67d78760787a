-- Powers of two, and the sizes of tables.
use Rattle.std.proofs.Common.{◌≡◌, ℕ, suc, ◌*◌, ◌^◌, ◌<◌, ◌≤◌, Bool, sym, ◌∙◌, ap, arith, ⊎_elim}
use Rattle.std.specs.Prelude.{◌↔◌, IsTrue, ◌==◌}
use Rattle.std.proofs.lemmas.Bool.{cases_lt, eqb-true, eq-eqb}
use Rattle.std.proofs.lemmas.Nat.{pow_pos}
use Rattle.std.proofs.Math.Nat.{pow-suc}
use Rattle.std.proofs.Math.Pow.{pow_mono}
use Rattle.table_core.specs.Sizes.{IsPairCount}

-- the exponent of a power of two is its logarithm
same_power : (r b pairs : ℕ) → 2 ^ r ≤ pairs → pairs < 2 * 2 ^ r → pairs ≡ 2 ^ b → r ≡ b
same_power r b pairs low high is = ⊎_elim
    (λ less. let two : 2 ^ suc r ≡ 2 ^ r * 2 = pow-suc 2 r in let more : 2 ^ suc r ≤ 2 ^ b = pow_mono {i = suc r} {j = b} less in absurd (omega (arith, two, more)))
    (λ other. ⊎_elim
    (λ less. let two : 2 ^ suc b ≡ 2 ^ b * 2 = pow-suc 2 b in let more : 2 ^ suc b ≤ 2 ^ r = pow_mono {i = suc b} {j = r} less in let some = pow_pos b in absurd (omega (arith, two, more, some)))
    (λ more. let e : r ≡ b = omega arith in e) (cases_lt b r)) (cases_lt r b)

pub count_bits : (r pairs : ℕ) → 2 ^ r ≤ pairs → pairs < 2 * 2 ^ r → IsPairCount pairs → (10 ≤ r) × (r ≤ 28) × (2 ^ r ≡ pairs)
count_bits r pairs low high (b, small, large, is) =
    let e : r ≡ b = same_power r b pairs low high is in (omega arith, omega arith, ap (λ n. 2 ^ n) e ∙ sym is)

at_least : (r : ℕ) → 2 ^ 10 < 2 * 2 ^ r → 10 ≤ r
at_least r h = ⊎_elim (λ less. let two : 2 ^ suc r ≡ 2 ^ r * 2 = pow-suc 2 r in let more : 2 ^ suc r ≤ 2 ^ 10 = pow_mono {i = suc r} {j = 10} less in absurd (omega (arith, two, more))) (λ t. t) (cases_lt r 10)

at_most : (r : ℕ) → 2 ^ r ≤ 2 ^ 28 → r ≤ 28
at_most r h = ⊎_elim (λ less. let more : 2 ^ 29 ≤ 2 ^ r = pow_mono {i = 29} {j = r} less in absurd (omega (arith, more))) (λ t. t) (cases_lt 28 r)

-- a number between the bounds is a pair count exactly if it is the power of its logarithm
pub is_count : (r pairs : ℕ) (test : Bool) → 2 ^ r ≤ pairs → pairs < 2 * 2 ^ r → 1024 ≤ pairs → pairs ≤ 268435456 → test ≡ (pairs == 2 ^ r) →
    IsTrue test ↔ IsPairCount pairs
is_count r pairs test low high small large e = (
  λ t. let is : pairs ≡ 2 ^ r = eqb-true pairs (2 ^ r) (sym e ∙ t) in (r, at_least r (omega arith), at_most r (omega arith), is),
  λ h. let k = count_bits r pairs low high h in e ∙ eq-eqb pairs (2 ^ r) (sym k.2),
)

pub no_count_below : (pairs : ℕ) → pairs < 1024 → IsPairCount pairs → ⊥
no_count_below pairs less (b, small, large, is) = let more : 2 ^ 10 ≤ 2 ^ b = pow_mono {i = 10} {j = b} small in omega (arith, more)

pub no_count_above : (pairs : ℕ) → 268435456 < pairs → IsPairCount pairs → ⊥
no_count_above pairs more (b, small, large, is) = let less : 2 ^ b ≤ 2 ^ 28 = pow_mono {i = b} {j = 28} large in omega (arith, less)
