-- Universes that come as far as they get, part by part.
use Rattle.std.proofs.Common.{◌≡◌, ◌≢◌, ℕ, ◌+◌, ◌-◌, ◌^◌, ◌≤◌, refl, subst, sym, arith}
use Rattle.std.specs.Prelude.{Result, Ok}
use Rattle.universe.specs.Advances.{IsAdvance, stuck_after, with_earlier}
use Rattle.universe.specs.Later.{IsLater, IsSameUniverse}
use Rattle.universe.specs.declared.advances.Advance.{Advance}
use Rattle.universe.specs.declared.advances.Advance.TheVariants.{Done, Stuck}
use Rattle.universe.specs.declared.universe.Universe.{Universe}
use Rattle.universe.proofs.Halves.{two_halves}
use Rattle.universe.proofs.Onward.{later_on, same_then, stuck_further}

-- as far as the same cells get
pub advance_again : {first second : Universe} → (generations : ℕ) (advance : Advance) → IsSameUniverse first second → IsAdvance second generations advance → IsAdvance first generations advance
advance_again generations (Done third) same is = same_then generations same is
advance_again generations (Stuck there done) same is = record { before = is.before; later = same_then done same is.later; one = is.one; exhausted = is.exhausted }

-- one part, and then as far as it gets
pub advance_on : {first second : Universe} → (done more : ℕ) (advance : Advance) → IsLater first done second → IsAdvance second more advance → IsAdvance first (done + more) (with_earlier done advance)
advance_on {first} {second} done more (Done third) later is = later_on {first = first} {second = second} {third = third} done more later is
advance_on {first} {second} done more (Stuck there further) later is =
    stuck_further {first = first} {second = second} {there = there} (done + more) done more further later (omega arith) is

-- what was answered, by the number that was counted
pub by_count : (start : Universe) (generations count done : ℕ) (advance answered : Advance) → answered ≡ with_earlier count advance → count ≡ done → IsAdvance start generations (with_earlier done advance) →
    IsAdvance start generations answered
by_count start generations count done advance answered is same advanced =
    subst (IsAdvance start generations) (sym is) (subst (λ (n : ℕ). IsAdvance start generations (with_earlier n advance)) (sym same) advanced)

-- half of the step, and then as far as it gets on the other half
pub halves_on : {first second : Universe} → (exponent : ℕ) (advance : Advance) → exponent ≢ 0 → IsLater first (2 ^ (exponent - 1)) second → IsAdvance second (2 ^ (exponent - 1)) advance →
    IsAdvance first (2 ^ exponent) (with_earlier (2 ^ (exponent - 1)) advance)
halves_on {first} {second} exponent advance some later is =
    subst (λ (n : ℕ). IsAdvance first n (with_earlier (2 ^ (exponent - 1)) advance)) (two_halves exponent some)
    (advance_on {first = first} {second = second} (2 ^ (exponent - 1)) (2 ^ (exponent - 1)) advance later is)

-- what is stuck on a part of the way is stuck on the way
pub stuck_on_part : {first second : Universe} → (generations done more : ℕ) (advance : Advance) → ((third : Universe) → advance ≡ Done third → ⊥) → IsLater first done second → done + more ≤ generations →
    IsAdvance second more advance → IsAdvance first generations (with_earlier done advance)
stuck_on_part generations done more (Done third) stuck later within is = absurd (stuck third refl)
stuck_on_part {first} {second} generations done more (Stuck there further) stuck later within is =
    stuck_further {first = first} {second = second} {there = there} generations done more further later within is

-- it is not stuck after more than it was asked for
pub stuck_below : (start : Universe) (generations : ℕ) (advance : Advance) → IsAdvance start generations advance → stuck_after advance ≤ generations
stuck_below start generations (Done later) is = omega arith
stuck_below start generations (Stuck there done) is = let before = is.before in omega (arith, before)

-- what is stuck in the first half of a step is stuck in the step
pub stuck_in_half : (start : Universe) (exponent : ℕ) (advance : Advance) → exponent ≢ 0 → ((third : Universe) → advance ≡ Done third → ⊥) →
    IsAdvance start (2 ^ (exponent - 1)) advance → IsAdvance start (2 ^ exponent) advance
stuck_in_half start exponent (Done third) some stuck is = absurd (stuck third refl)
stuck_in_half start exponent (Stuck there done) some stuck is =
    let whole = two_halves exponent some in
    let before = is.before in
    record { before = omega (arith, whole, before); later = is.later; one = is.one; exhausted = is.exhausted }

-- what came of no step is not stuck
pub not_stuck_at_once : {E : Type 0} (start there : Universe) (done : ℕ) (advance : Advance) →
    ◌≡◌ {A = Result Advance E} (Ok advance) (Ok (Done start)) → advance ≡ Stuck there done → ⊥
not_stuck_at_once start there done advance same is = absurd cc
