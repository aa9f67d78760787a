-- The cells of a square, by their columns and rows.
use Rattle.std.proofs.Common.{◌≡◌, ℕ, ◌<◌, ℤ, pos, negsuc, Bool, true, false, ◌∙◌, ap, arith}
use Rattle.std.specs.Prelude.{◌&&◌}
use Rattle.std.proofs.lemmas.Bool.{false≢true}
use Rattle.std.proofs.lemmas.Int.{ints}
use Rattle.plane.specs.Plane.{Plane}
use Rattle.plane.specs.Square.{spans}
use Rattle.plane.proofs.Cuts.{and_case, and_left, and_right}

pub spans_less : (n k : ℕ) → spans n (pos k) ≡ true → k < n
spans_less n k h = grind (arith, ints)

pub less_spans : (n k : ℕ) → k < n → spans n (pos k) ≡ true
less_spans n k h = grind (arith, ints)

pub and_true : (a b c : Bool) → a ≡ true → b ≡ true → ((a && b) && c) ≡ c
and_true a b c h k = ap (λ t. (t && b) && c) h ∙ ap (λ t. t && c) k

-- inside the rows, where both coordinates count columns and rows, the tests agree
guarded_rows : (m n : ℕ) (p q : Plane) → ((i j : ℕ) → i < m → j < n → p (pos i) (pos j) ≡ q (pos i) (pos j)) → (i : ℕ) (y : ℤ) →
    (spans m (pos i) && spans n y) ≡ true → p (pos i) y ≡ q (pos i) y
guarded_rows m n p q same i (pos j) h = same i j (spans_less m i (and_left (spans m (pos i)) (spans n (pos j)) h)) (spans_less n j (and_right (spans m (pos i)) (spans n (pos j)) h))
guarded_rows m n p q same i (negsuc j) h = absurd (false≢true (and_right (spans m (pos i)) false h))

pub guarded : (m n : ℕ) (p q : Plane) → ((i j : ℕ) → i < m → j < n → p (pos i) (pos j) ≡ q (pos i) (pos j)) →
    (x y : ℤ) → (spans m x && spans n y) ≡ true → p x y ≡ q x y
guarded m n p q same (pos i) y h = guarded_rows m n p q same i y h
guarded m n p q same (negsuc i) y h = absurd (false≢true h)

-- rows with the same cells at all columns and rows are the same
pub same_cells : (m n : ℕ) (p q : Plane) → ((i j : ℕ) → i < m → j < n → p (pos i) (pos j) ≡ q (pos i) (pos j)) →
    (x y : ℤ) → ((spans m x && spans n y) && p x y) ≡ ((spans m x && spans n y) && q x y)
same_cells m n p q same x y = and_case (spans m x && spans n y) (p x y) (q x y) (guarded m n p q same x y)
