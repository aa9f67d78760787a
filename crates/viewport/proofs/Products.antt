-- Coordinates of blocks, times their side.
use Rattle.std.proofs.Common.{◌≡◌, ℕ, zero, suc, ◌+◌, ◌*◌, ◌≤◌, ℤ, pos, ◌+ℤ◌, ◌-ℤ◌, ◌≤ℤ◌, ◌<ℤ◌, refl, sym, ◌∙◌, ap, arith}
use Rattle.std.specs.Prelude.{◌*ℤ◌, nat_abs, negsuc}
use Rattle.std.proofs.Math.IntN.{suc_ℤ, suc_ℤ-*ℤ, pos-*ℤ-pos, zero-*ℤ}
use Rattle.std.proofs.lemmas.Int.{ints}

suc_is : (a : ℤ) → a +ℤ pos 1 ≡ suc_ℤ a
suc_is (pos n) = omega (arith, ints)
suc_is (negsuc zero) = refl
suc_is (negsuc (suc n)) = omega (arith, ints)

one_more : (a : ℤ) (n : ℕ) → a +ℤ pos (suc n) ≡ (a +ℤ pos n) +ℤ pos 1
one_more a n = omega (arith, ints)

to_suc : (a : ℤ) (n : ℕ) → a +ℤ pos (suc n) ≡ suc_ℤ (a +ℤ pos n)
to_suc a n = one_more a n ∙ suc_is (a +ℤ pos n)

sum_of_products : (p q a n s : ℤ) → p ≡ a +ℤ n → q ≡ n +ℤ s → p +ℤ s ≡ a +ℤ q
sum_of_products p q a n s e f = omega (arith, ints)

at_zero : (a : ℤ) → a +ℤ pos 0 ≡ a
at_zero a = omega (arith, ints)

plus_times : (a : ℤ) (n : ℕ) (s : ℤ) → (a +ℤ pos n) *ℤ s ≡ (a *ℤ s) +ℤ (pos n *ℤ s)
plus_times a zero s = ap (λ z. z *ℤ s) (at_zero a) ∙ sym (at_zero (a *ℤ s)) ∙ sym (ap (λ z. (a *ℤ s) +ℤ z) (zero-*ℤ s))
plus_times a (suc n) s =
    ap (λ z. z *ℤ s) (to_suc a n) ∙ suc_ℤ-*ℤ (a +ℤ pos n) s
    ∙ sum_of_products _ _ _ _ s (plus_times a n s) (suc_ℤ-*ℤ (pos n) s)

back_again : (a : ℤ) (n : ℕ) → (a -ℤ pos n) +ℤ pos n ≡ a
back_again a n = omega (arith, ints)

take_off : (p a n : ℤ) → a ≡ p +ℤ n → p ≡ a -ℤ n
take_off p a n e = omega (arith, ints)

pub less_times : (a : ℤ) (n s : ℕ) → (a -ℤ pos n) *ℤ pos s ≡ (a *ℤ pos s) -ℤ pos (n * s)
less_times a n s =
    take_off _ _ _ (sym (ap (λ z. z *ℤ pos s) (back_again a n)) ∙ plus_times (a -ℤ pos n) n (pos s) ∙ ap (λ z. ((a -ℤ pos n) *ℤ pos s) +ℤ z) (pos-*ℤ-pos n s))

-- a block that lies further on than the one at b
pub above_times : (a : ℤ) (b s : ℕ) → pos b ≤ℤ a → pos (b * s) ≤ℤ (a *ℤ pos s)
above_times a b s high =
    let k = nat_abs (a -ℤ pos b) in
    let there : a ≡ pos b +ℤ pos k = grind (arith, ints) in
    let product = ap (λ z. z *ℤ pos s) there ∙ plus_times (pos b) k (pos s) in
    let one = pos-*ℤ-pos b s in
    let other = pos-*ℤ-pos k s in omega (arith, ints, product, one, other)

-- a block that ends at the one at -b or before it
pub below_times : (a : ℤ) (b s : ℕ) → a <ℤ (pos 0 -ℤ pos b) → ((a *ℤ pos s) +ℤ pos s) ≤ℤ (pos 0 -ℤ pos (b * s))
below_times a b s low =
    let k = nat_abs ((pos 0 -ℤ pos b) -ℤ a) in
    let there : a ≡ pos 0 -ℤ pos (b + k) = grind (arith, ints) in
    let some : 1 ≤ k = grind (arith, ints) in
    let product = ap (λ z. z *ℤ pos s) there ∙ less_times (pos 0) (b + k) s in
    let nothing = zero-*ℤ (pos s) in
    let more : b * s + s ≤ (b + k) * s = grind arith in
    omega (arith, ints, product, nothing, more)
