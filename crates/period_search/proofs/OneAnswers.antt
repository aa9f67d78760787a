-- A search has one answer only.
use Rattle.std.proofs.Common.{◌≡◌, ◌∙◌, ◌≤◌, ℕ, ℤ, pos, None, Some, List, [], ◌∷◌, refl, sym, ap, subst, arith}
use Rattle.rule_text.specs.CountRule.{CountRule}
use Rattle.plane.specs.Listing.{IsListing, plane_of}
use Rattle.plane.specs.Plane.{Plane}
use Rattle.plane.specs.Square.{IsSame, empty}
use Rattle.plane.specs.declared.cell.Cell.{Cell}
use Rattle.periods.specs.Periods.{IsPeriod}
use Rattle.periods.proofs.Periods.{one_displacement_lem}
use Rattle.period_search.specs.Searches.{IsLeastAmong, OneAnswer}
use Rattle.period_search.specs.declared.candidates.Candidates.{Candidates}
use Rattle.period_search.specs.declared.period.Period.{Period}

same_period : (a b : Period) → a.generations ≡ b.generations → a.right ≡ b.right → a.down ≡ b.down → a ≡ b
same_period a b generations right down = λ i. record { generations = generations i; right = right i; down = down i }

none_live : (plane : Plane) → IsListing [] plane → IsSame plane empty
unfolding plane_of
none_live plane listing = record { same = λ x y. sym (listing.live x y) }

equal_counts : (n m : ℕ) → n ≤ m → m ≤ n → n ≡ m
equal_counts n m less more = omega (arith, less, more)

module _ (rule : CountRule) (plane : Plane) (n : ℕ) (a b c d : ℤ) (one : IsPeriod rule plane n a b) (other : IsPeriod rule plane n c d) (still : IsSame plane empty → (a ≡ pos 0) × (b ≡ pos 0)) (other_still : IsSame plane empty → (c ≡ pos 0) × (d ≡ pos 0)) where
  one_move : (cells : List Cell) → IsListing cells plane → (a ≡ c) × (b ≡ d)
  one_move [] listing =
      let here = still (none_live plane listing) in
      let there = other_still (none_live plane listing) in
      (here.0 ∙ sym there.0, here.1 ∙ sym there.1)
  one_move (cell ∷ cells) listing = one_displacement_lem rule plane (cell ∷ cells) n a b c d listing (λ e. absurd cc) one other

one_period : (rule : CountRule) (plane : Plane) (cells : List Cell) (candidates : Candidates) (a b : Period) → IsListing cells plane → IsLeastAmong rule plane candidates a → IsLeastAmong rule plane candidates b → a ≡ b
one_period rule plane cells candidates a b listing is other =
    let same : a.generations ≡ b.generations = equal_counts a.generations b.generations (is.least.least b.generations (b.right, b.down, other.least.period)) (other.least.least a.generations (a.right, a.down, is.least.period)) in
    let moves = one_move rule plane a.generations a.right a.down b.right b.down is.least.period (subst (λ (n : ℕ). IsPeriod rule plane n b.right b.down) (sym same) other.least.period) is.still other.still cells listing in
    same_period a b same moves.0 moves.1

pub one_answer_lem : OneAnswer
one_answer_lem rule plane cells candidates None None listing none other = refl
one_answer_lem rule plane cells candidates (Some a) None listing is none = absurd (none a.generations is.among (a.right, a.down, is.least.period))
one_answer_lem rule plane cells candidates None (Some b) listing none is = absurd (none b.generations is.among (b.right, b.down, is.least.period))
one_answer_lem rule plane cells candidates (Some a) (Some b) listing is other = ap Some (one_period rule plane cells candidates a b listing is other)
