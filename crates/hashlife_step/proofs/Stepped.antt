-- A step: a padded square's future, around (0,0).
use Rattle.std.proofs.Common.{◌≡◌, ℕ, ◌+◌, ◌-◌, ◌^◌, ◌≤◌, arith, sym, subst}
use Rattle.rule_text.specs.CountRule.{CountRule}
use Rattle.plane.specs.Centred.{centred, Holds}
use Rattle.plane.specs.Plane.{Plane, after}
use Rattle.plane.specs.Square.{IsSame, future}
use Rattle.plane.proofs.Paddings.{centred_future}
use Rattle.plane.proofs.Same.{same_trans, plane_equal}
use Rattle.squares.specs.Book.{Book, IsFuture, Keeps}
use Rattle.squares.specs.declared.sq.Sq.{Sq}
use Rattle.hashlife_step.specs.ShowsCentred.{ShowsCentred}
use Rattle.hashlife_step.proofs.Grown.{shows_centred}

-- the future of a padded square has the cells that its own become
pub future_centred : (before book : Book) (rule : CountRule) (exponent : ℕ) (plane : Plane) (padded next : Sq) → ShowsCentred before plane padded → Keeps before book →
    exponent + 3 ≤ padded.level → book.rule ≡ rule → book.exponent ≡ exponent → Holds (padded.level - 1) (after rule plane (2 ^ exponent)) →
    IsFuture book padded next → ShowsCentred book (after rule plane (2 ^ exponent)) next
future_centred before book rule exponent plane padded next shown keeps long is_rule is_exponent room is =
    let cells : Plane = book.cells padded in
    let same : centred padded.level cells ≡ plane =
    plane_equal _ _ (same_trans (record { same = λ x y. (keeps.cells padded shown.known.known).same _ _ }) shown.cells) in
    let held : Holds (padded.level - 1) (after rule (centred padded.level cells) (2 ^ exponent)) = subst (λ p. Holds (padded.level - 1) (after rule p (2 ^ exponent))) (sym same) room in
    let Shown : CountRule → ℕ → Plane → Type 0 = λ r n p. IsSame (centred (padded.level - 1) (future r n padded.level cells)) (after rule p (2 ^ exponent)) in
    let one : Shown rule exponent (centred padded.level cells) = centred_future rule exponent padded.level cells (omega arith) (omega arith) held in
    let two : Shown rule exponent plane = subst (Shown rule exponent) same one in
    let three : Shown book.rule exponent plane = subst (λ r. Shown r exponent plane) (sym is_rule) two in
    let four : Shown book.rule book.exponent plane = subst (λ n. Shown book.rule n plane) (sym is_exponent) three in
    shows_centred book (padded.level - 1) _ (after rule plane (2 ^ exponent)) next is four
