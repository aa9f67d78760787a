-- The live neighbours of a cell, one by one; no cell has more than eight.
use Rattle.std.proofs.Common.{◌≡◌, ℕ, ◌+◌, ◌≤◌, ℤ, pos, ◌+ℤ◌, ◌-ℤ◌, length, sym, ◌∙◌, ap, subst, arith}
use Rattle.std.proofs.lemmas.Int.{ints}
use Rattle.std.proofs.lemmas.List.Sums.{count_by-le-length}
use Rattle.rule_text.specs.declared.neighbourhood.Neighbourhood.{Neighbourhood}
use Rattle.rule_text.specs.declared.neighbourhood.Neighbourhood.TheVariants.{Moore, VonNeumann, Hexagonal}
use Rattle.rule_text.specs.Neighbourhood.{offsets, back, stay, on}
use Rattle.plane.specs.Plane.{Plane, live_neighbours}
use Rattle.leaf_kernels.specs.Sums.{number}

before : (z : ℤ) → z +ℤ back ≡ z -ℤ pos 1
before z = omega (arith, ints)

same : (z : ℤ) → z +ℤ stay ≡ z
same z = omega (arith, ints)

-- the neighbours one by one
abbrev eight_of : Plane → ℤ → ℤ → ℤ → ℤ → ℤ → ℤ → ℕ
eight_of p l m r u v w = 0 + number (p l u) + number (p m u) + number (p r u) + number (p l v) + number (p r v) + number (p l w) + number (p m w) + number (p r w)

abbrev four_of : Plane → ℤ → ℤ → ℤ → ℤ → ℤ → ℤ → ℕ
four_of p l m r u v w = 0 + number (p m u) + number (p l v) + number (p r v) + number (p m w)

abbrev six_of : Plane → ℤ → ℤ → ℤ → ℤ → ℤ → ℤ → ℕ
six_of p l m r u v w = 0 + number (p l u) + number (p m u) + number (p l v) + number (p r v) + number (p m w) + number (p r w)

at_steps : (f : ℤ → ℤ → ℤ → ℤ → ℤ → ℤ → ℕ) (x y : ℤ) →
    f (x +ℤ back) (x +ℤ stay) (x +ℤ on) (y +ℤ back) (y +ℤ stay) (y +ℤ on) ≡ f (x -ℤ pos 1) x (x +ℤ pos 1) (y -ℤ pos 1) y (y +ℤ pos 1)
at_steps f x y =
    ap (λ z. f z (x +ℤ stay) (x +ℤ on) (y +ℤ back) (y +ℤ stay) (y +ℤ on)) (before x)
    ∙ ap (λ z. f (x -ℤ pos 1) z (x +ℤ on) (y +ℤ back) (y +ℤ stay) (y +ℤ on)) (same x)
    ∙ ap (λ z. f (x -ℤ pos 1) x (x +ℤ on) z (y +ℤ stay) (y +ℤ on)) (before y)
    ∙ ap (λ z. f (x -ℤ pos 1) x (x +ℤ on) (y -ℤ pos 1) z (y +ℤ on)) (same y)

pub eight_neighbours : (p : Plane) (x y : ℤ) → live_neighbours Moore p x y ≡ eight_of p (x -ℤ pos 1) x (x +ℤ pos 1) (y -ℤ pos 1) y (y +ℤ pos 1)
unfolding offsets
eight_neighbours p x y = at_steps (eight_of p) x y

pub four_neighbours : (p : Plane) (x y : ℤ) → live_neighbours VonNeumann p x y ≡ four_of p (x -ℤ pos 1) x (x +ℤ pos 1) (y -ℤ pos 1) y (y +ℤ pos 1)
unfolding offsets
four_neighbours p x y = at_steps (four_of p) x y

pub six_neighbours : (p : Plane) (x y : ℤ) → live_neighbours Hexagonal p x y ≡ six_of p (x -ℤ pos 1) x (x +ℤ pos 1) (y -ℤ pos 1) y (y +ℤ pos 1)
unfolding offsets
six_neighbours p x y = at_steps (six_of p) x y

-- no cell has more than eight live neighbours
few_offsets : (neighbourhood : Neighbourhood) → length (offsets neighbourhood) ≤ 8
unfolding offsets
few_offsets Moore = omega arith
few_offsets VonNeumann = omega arith
few_offsets Hexagonal = omega arith

few_neighbours : (neighbourhood : Neighbourhood) (plane : Plane) (x y : ℤ) → live_neighbours neighbourhood plane x y ≤ 8
few_neighbours neighbourhood plane x y =
    let counted = count_by-le-length (λ offset. plane (x +ℤ offset.right) (y +ℤ offset.down)) (offsets neighbourhood) in
    let offsets_are_few = few_offsets neighbourhood in
    omega arith

pub few_counted : (neighbourhood : Neighbourhood) (plane : Plane) (x y : ℤ) (n : ℕ) → n ≡ live_neighbours neighbourhood plane x y → n ≤ 8
few_counted neighbourhood plane x y n counted =
    let few = few_neighbours neighbourhood plane x y in
    subst (λ n. n ≤ 8) (sym counted) few
