-- Light cone and translation.
use Rattle.std.proofs.Common.{◌≡◌, ℕ, zero, suc, ◌+◌, ℤ, ◌+ℤ◌, ◌-ℤ◌, Bool, List, [], ◌∷◌, cond, count_by, fold, rules, refl, ◌∙◌, ap, arith}
use Rattle.std.specs.List.{AllByRecursion}
use Rattle.std.proofs.lemmas.Int.{ints}
use Rattle.rule_text.specs.declared.neighbourhood.Neighbourhood.{Neighbourhood}
use Rattle.rule_text.specs.declared.neighbourhood.Neighbourhood.TheVariants.{Moore, VonNeumann, Hexagonal}
use Rattle.rule_text.specs.declared.neighbourhood.Offset.{Offset}
use Rattle.rule_text.specs.Neighbourhood.{offsets, IsStep}
use Rattle.rule_text.specs.CountRule.{CountRule, lives}
use Rattle.plane.specs.Laws.{IsNear, LightCone, Translation, moved}
use Rattle.plane.specs.Plane.{Plane, live_neighbours, next, after}

-- offsets are steps
pub offsets_step : (neighbourhood : Neighbourhood) → AllByRecursion IsStep (offsets neighbourhood)
unfolding offsets
offsets_step Moore = search rules
offsets_step VonNeumann = search rules
offsets_step Hexagonal = search rules

count_from : (p q : Offset → Bool) (xs : List Offset) (start : ℕ) → AllByRecursion (λ x. p x ≡ q x) xs →
    fold (λ n x. n + cond (p x) 1 0) start xs ≡ fold (λ n x. n + cond (q x) 1 0) start xs
count_from p q [] start same = refl
count_from p q (x ∷ xs) start same = ap (λ b. fold (λ n y. n + cond (p y) 1 0) (start + cond b 1 0) xs) same.0 ∙ count_from p q xs (start + cond (q x) 1 0) same.1

-- counts agree where the tests do
count_agrees : (p q : Offset → Bool) (xs : List Offset) → AllByRecursion (λ x. p x ≡ q x) xs → count_by p xs ≡ count_by q xs
count_agrees p q xs same = count_from p q xs 0 same

-- what steps show agrees where the planes agree one cell away
shown_alike : (plane other : Plane) (x y : ℤ) (xs : List Offset) →
    ((u v : ℤ) → IsNear 1 x u → IsNear 1 y v → plane u v ≡ other u v) → AllByRecursion IsStep xs →
    AllByRecursion (λ offset. plane (x +ℤ offset.right) (y +ℤ offset.down) ≡ other (x +ℤ offset.right) (y +ℤ offset.down)) xs
shown_alike plane other x y [] same steps = tt
shown_alike plane other x y (offset ∷ xs) same steps = (
  same (x +ℤ offset.right) (y +ℤ offset.down)
      (let one = steps.0 in record { before = omega (arith, ints); behind = omega (arith, ints) })
      (let one = steps.0 in record { before = omega (arith, ints); behind = omega (arith, ints) }),
  shown_alike plane other x y xs same steps.1,
)

-- a cell of the next generation depends on those at most one away
next_alike : (rule : CountRule) (plane other : Plane) (x y : ℤ) →
    ((u v : ℤ) → IsNear 1 x u → IsNear 1 y v → plane u v ≡ other u v) → next rule plane x y ≡ next rule other x y
next_alike rule plane other x y same =
    let here : plane x y ≡ other x y = same x y (record { before = omega (arith, ints); behind = omega (arith, ints) }) (record { before = omega (arith, ints); behind = omega (arith, ints) }) in
    let counts : live_neighbours rule.neighbourhood plane x y ≡ live_neighbours rule.neighbourhood other x y =
    count_agrees _ _ (offsets rule.neighbourhood) (shown_alike plane other x y (offsets rule.neighbourhood) same (offsets_step rule.neighbourhood)) in
    ap (λ b. lives rule b (live_neighbours rule.neighbourhood plane x y)) here ∙ ap (lives rule (other x y)) counts

near_more : (n : ℕ) (x u v : ℤ) → IsNear 1 x u → IsNear n u v → IsNear (suc n) x v
near_more n x u v one more = record { before = omega (arith, ints); behind = omega (arith, ints) }

pub light_cone_lem : LightCone
light_cone_lem rule plane other zero x y same = same x y (record { before = omega (arith, ints); behind = omega (arith, ints) }) (record { before = omega (arith, ints); behind = omega (arith, ints) })
light_cone_lem rule plane other (suc n) x y same =
    next_alike rule (after rule plane n) (after rule other n) x y
    (λ u v near_u near_v. light_cone_lem rule plane other n u v (λ a b near_a near_b. same a b (near_more n x u a near_u near_a) (near_more n y v b near_v near_b)))

moved_back : (x by down : ℤ) → (x +ℤ down) -ℤ by ≡ (x -ℤ by) +ℤ down
moved_back x by down = omega (arith, ints)

-- what steps show moves with the plane
shown_moved : (plane : Plane) (right down x y : ℤ) (xs : List Offset) →
    AllByRecursion (λ offset. moved right down plane (x +ℤ offset.right) (y +ℤ offset.down) ≡ plane ((x -ℤ right) +ℤ offset.right) ((y -ℤ down) +ℤ offset.down)) xs
shown_moved plane right down x y [] = tt
shown_moved plane right down x y (offset ∷ xs) = (
  ap (λ u. plane u ((y +ℤ offset.down) -ℤ down)) (moved_back x right offset.right) ∙ ap (plane ((x -ℤ right) +ℤ offset.right)) (moved_back y down offset.down),
  shown_moved plane right down x y xs,
)

next_moved : (rule : CountRule) (plane : Plane) (right down x y : ℤ) → next rule (moved right down plane) x y ≡ moved right down (next rule plane) x y
next_moved rule plane right down x y =
    ap (lives rule (plane (x -ℤ right) (y -ℤ down))) (count_agrees _ _ (offsets rule.neighbourhood) (shown_moved plane right down x y (offsets rule.neighbourhood)))

pub next_same : (rule : CountRule) (plane other : Plane) → ((x y : ℤ) → plane x y ≡ other x y) → (x y : ℤ) → next rule plane x y ≡ next rule other x y
next_same rule plane other same x y = next_alike rule plane other x y (λ u v _ _. same u v)

pub translation_lem : Translation
translation_lem rule plane right down zero x y = refl
translation_lem rule plane right down (suc n) x y =
    next_same rule (after rule (moved right down plane) n) (moved right down (after rule plane n)) (translation_lem rule plane right down n) x y
    ∙ next_moved rule (after rule plane n) right down x y
