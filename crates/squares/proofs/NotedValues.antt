-- What is true of all values that are noted.
use Rattle.std.proofs.Common.{◌≡◌, cond, sym, ◌∙◌, ap, subst}
use Rattle.std.specs.Prelude.{Some}
use Rattle.std.specs.HashMap.{IsUnchanged, Updates}
use Rattle.std.specs.Map.{lookup}
use Rattle.std.proofs.lemmas.Bool.{eqb-true}
use Rattle.plane.proofs.Cuts.{and_left, and_right}
use Rattle.squares.specs.Noted.{Noted, is_same_key, value_of}
use Rattle.squares.specs.declared.sq.Sq.{Sq}
use Rattle.squares.proofs.NumberMaps.{by_cases}
use Rattle.squares.proofs.SquareNumbers.{same_sq}

some_value : {V : Type 0} (a b : V) → Some a ≡ Some b → a ≡ b
some_value a b e = cc

module _ {V : Type 0} (P : Sq → V → Type 0) where
  -- what is true of each value that is noted, and of a new one, is true of each value then
  pub true_of_kept : (old new : Noted V) (sq : Sq) (v : V) → ((q : Sq) (w : V) → value_of old q ≡ Some w → P q w) → P sq v →
      Updates is_same_key old new (sq.level, sq.num.0) (Some v) → (q : Sq) (w : V) → value_of new q ≡ Some w → P q w
  true_of_kept old new sq v kept here up q w at =
      by_cases (is_same_key (sq.level, sq.num.0) (q.level, q.num.0))
      (λ e.
      let is : sq ≡ q = same_sq sq q (eqb-true _ _ (and_left _ _ e)) (eqb-true _ _ (and_right _ _ e)) in
      let value : v ≡ w = some_value v w (sym (up.0 (q.level, q.num.0) ∙ ap (λ b. cond b (Some v) (value_of old q)) e) ∙ at) in
      subst (λ (r : Sq). P r w) is (subst (P sq) value here))
      (λ e. kept q w (sym (up.2 (q.level, q.num.0) e) ∙ at))

  pub true_of_same : (old new : Noted V) → ((q : Sq) (w : V) → value_of old q ≡ Some w → P q w) → IsUnchanged old new → (q : Sq) (w : V) → value_of new q ≡ Some w → P q w
  true_of_same old new kept same q w at = kept q w (sym (ap (λ es. lookup (is_same_key (q.level, q.num.0)) es) same) ∙ at)
