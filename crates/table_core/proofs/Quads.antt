-- A square as two halves.
use Rattle.std.proofs.Common.{◌≡◌, ◌≢◌, ℕ, suc, ◌+◌, ◌/◌, ◌%◌, ◌^◌, ◌≤◌, Bool, true, false, cond, eqb, ◌∙◌, ap, arith}
use Rattle.std.proofs.lemmas.Bool.{eq-eqb, ne_eqb}
use Rattle.plane.specs.Plane.{Plane}
use Rattle.plane.specs.Square.{joined}
use Rattle.plane.specs.Block.{beside, below}
use Rattle.table_core.specs.Blocks.{width, height, paired, square_rank}

cond_is : {A : Type 0} (b c : Bool) (u v : A) → b ≡ c → cond b u v ≡ cond c u v
cond_is b c u v e = ap (λ t. cond t u v) e

even_side : (level : ℕ) → 3 ≤ level → (square_rank level + 1) / 2 + 3 ≡ level
even_side level h = omega arith

even_rank : (level : ℕ) → square_rank level % 2 ≡ 0
even_rank level = omega arith

odd_rank : (level : ℕ) → suc (square_rank level) % 2 ≢ 0
odd_rank level = λ e. omega arith

odd_side : (level : ℕ) → 3 ≤ level → suc (square_rank level) / 2 + 3 ≡ level
odd_side level h = omega arith

pub next_rank : (level : ℕ) → 3 ≤ level → square_rank (level + 1) ≡ suc (suc (square_rank level))
next_rank level h = omega arith

pub half_is : (level : ℕ) (a b : Plane) → 3 ≤ level → paired (square_rank level) a b ≡ beside (2 ^ level) a b
half_is level a b h =
    cond_is (eqb (square_rank level % 2) 0) true (beside (width (square_rank level)) a b) (below (height (square_rank level)) a b) (eq-eqb (square_rank level % 2) 0 (even_rank level))
    ∙ ap (λ n. beside (2 ^ n) a b) (even_side level h)

pub whole_is : (level : ℕ) (a b : Plane) → 3 ≤ level → paired (suc (square_rank level)) a b ≡ below (2 ^ level) a b
whole_is level a b h =
    cond_is (eqb (suc (square_rank level) % 2) 0) false (beside (width (suc (square_rank level))) a b) (below (height (suc (square_rank level))) a b) (ne_eqb (suc (square_rank level) % 2) 0 (odd_rank level))
    ∙ ap (λ n. below (2 ^ n) a b) (odd_side level h)

-- two halves, one below the other, are four squares joined
pub quarters_joined : (level : ℕ) (nw ne sw se : Plane) → 3 ≤ level →
    paired (suc (square_rank level)) (paired (square_rank level) nw ne) (paired (square_rank level) sw se) ≡ joined (2 ^ level) nw ne sw se
quarters_joined level nw ne sw se h =
    whole_is level (paired (square_rank level) nw ne) (paired (square_rank level) sw se) h
    ∙ ap (λ p. below (2 ^ level) p (paired (square_rank level) sw se)) (half_is level nw ne h)
    ∙ ap (below (2 ^ level) (beside (2 ^ level) nw ne)) (half_is level sw se h)
