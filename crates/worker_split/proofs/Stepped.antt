-- A step: the future of a padded square, trimmed.
use Rattle.std.proofs.Common.{◌≡◌, ℕ, ◌+◌, ◌-◌, ◌^◌, ◌≤◌, max, subst, sym, ◌∙◌, arith, Ok, Err}
use Rattle.std.specs.Prelude.{IfOk}
use Rattle.std.specs.declared.result.Result.{Result}
use Rattle.plane.specs.Centred.{centred, Holds, IsSmallestLevel}
use Rattle.plane.specs.Plane.{Plane, after}
use Rattle.plane.proofs.Same.{plane_equal}
use Rattle.squares.specs.declared.sq.Sq.{Sq}
use Rattle.squares.specs.Book.{Book, Keeps}
use Rattle.squares.specs.Roots.{IsRootOf}
use Rattle.squares.proofs.Kept.{keeps_trans}
use Rattle.hashlife_step.specs.ShowsCentred.{IsStepOf, ShowsCentred}
use Rattle.hashlife_step.proofs.Stepped.{future_centred}
use Rattle.worker_split.specs.Jobs.{HasFuture}

pub on_two : {X E : Type 0} (r : Result X E) (P Q R : X → Type 0) → ((x : X) → P x → Q x → R x) → IfOk r P → IfOk r Q → IfOk r R
on_two (Ok x) P Q R f p q = f x p q
on_two (Err e) P Q R f p q = tt

-- what the future of the padded root shows
next_shown : (begun grown made : Book) (root padded next : Sq) (exponent : ℕ) → exponent ≡ begun.exponent → Keeps begun grown → Keeps grown made → padded.level ≡ max (root.level + 2) (exponent + 3) →
    ShowsCentred grown (centred root.level (begun.cells root)) padded → Holds (padded.level - 1) (after begun.rule (centred root.level (begun.cells root)) (2 ^ exponent)) → HasFuture made padded next →
    ShowsCentred made (after begun.rule (centred root.level (begun.cells root)) (2 ^ begun.exponent)) next
next_shown begun grown made root padded next exponent same first second level shown room has =
    let plane : Plane = centred root.level (begun.cells root) in
    let keeps = keeps_trans first second in
    let long : exponent + 3 ≤ padded.level = omega (arith, level) in
    let there = future_centred grown made begun.rule exponent plane padded next shown second long keeps.rule (keeps.exponent ∙ sym same) room has.is in
    subst (λ n. ShowsCentred made (after begun.rule plane (2 ^ n)) next) same there

-- the future of a padded square, trimmed, is the step
pub stepped : (begun grown made last : Book) (root padded next small : Sq) (exponent : ℕ) → exponent ≡ begun.exponent → Keeps begun grown → Keeps grown made → padded.level ≡ max (root.level + 2) (exponent + 3) →
    ShowsCentred grown (centred root.level (begun.cells root)) padded → Holds (padded.level - 1) (after begun.rule (centred root.level (begun.cells root)) (2 ^ exponent)) → HasFuture made padded next →
    ShowsCentred last (centred next.level (made.cells next)) small → IsSmallestLevel small.level (centred next.level (made.cells next)) → IsStepOf begun last root small
stepped begun grown made last root padded next small exponent same first second level shown room has trimmed smallest =
    let there = next_shown begun grown made root padded next exponent same first second level shown room has in
    subst (λ p. IsRootOf last p small) (plane_equal _ _ there.cells) (record { known = trimmed.known; smallest = smallest; cells = trimmed.cells })
