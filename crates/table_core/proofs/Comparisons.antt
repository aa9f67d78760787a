-- Two numbers are equal, or they are not.
use Rattle.std.proofs.Common.{◌≡◌, ◌≢◌, ℕ, zero, suc, ◌<◌, ◌⊎◌, ap, arith, refl, inl, inr, ⊎_elim}
use Rattle.std.proofs.lemmas.Bool.Decides.{eqb_tells}

pub same_or_other : (i j : ℕ) → (i ≡ j) ⊎ (i ≢ j)
same_or_other i j = ⊎_elim (λ t. inl t.1) (λ t. inr t.1) (eqb_tells i j)

pub ordered : (a b : ℕ) → (a < b) ⊎ ((a ≡ b) ⊎ (b < a))
ordered zero zero = inr (inl refl)
ordered zero (suc b) = inl (omega arith)
ordered (suc a) zero = inr (inr (omega arith))
ordered (suc a) (suc b) = ⊎_elim (λ t. inl (omega arith)) (λ t. ⊎_elim (λ u. inr (inl (ap suc u))) (λ u. inr (inr (omega arith))) t) (ordered a b)
