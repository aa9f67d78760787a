-- Squares that are replaced one after the other by what is made of them.
use Rattle.std.proofs.Common.{◌≡◌, ◌≢◌, ℕ, ◌+◌, ◌-◌, ◌<◌, ◌≤◌, All, List, length, slice_set, arith, sym, ◌∙◌, subst, refl, inl, inr, ⊎_elim}
use Rattle.plane.specs.Plane.{Plane}
use borrow.Author.Count.{below_more}
use Rattle.std.proofs.lemmas.Bool.{cases_lt}
use Rattle.std.proofs.lemmas.List.{get_or-set_same, get_or-set_other, length-set}
use Rattle.plane.specs.Square.{future}
use Rattle.plane.proofs.Same.{plane_equal, same_sym}
use Rattle.hashlife_step.specs.Futures.{AreFutures, AreSameOrFutures, IsFutureAt}
use Rattle.squares.specs.Book.{Book, IsFuture, IsKnown, Shows, Keeps, nth, numbered}
use Rattle.squares.specs.declared.sq.Sq.{Sq}
use Rattle.squares.proofs.Kept.{keeps_trans, known_kept, shows_kept}

-- the first so many show what is made of those that stood there, in the planes that the old book
-- gave them, and the others stand as they did
pub record IsReplaced (make : Plane → Plane) (old new : Book) (level done : ℕ) (before now : List Sq) : Type 0 where
  pub keeps : Keeps old new
  pub same_length : length now ≡ length before
  pub made : (k : ℕ) → k < done → k < length before → Shows new (level - 1) (make (old.cells (nth before k))) (nth now k)
  pub others : (k : ℕ) → done ≤ k → nth now k ≡ nth before k

pub replaced_kept : (make : Plane → Plane) (old new : Book) (level : ℕ) (squares : List Sq) → Keeps old new → IsReplaced make old new level 0 squares squares
replaced_kept make old new level squares keeps = record {
  keeps = keeps;
  same_length = refl;
  made = λ k less _. absurd (omega arith);
  others = λ k _. refl;
}

-- one more
pub replaced_more : (make : Plane → Plane) (old now new : Book) (level i : ℕ) (before squares : List Sq) (next : Sq) →
    IsReplaced make old now level i before squares → i < length before → Keeps now new → Shows new (level - 1) (make (old.cells (nth before i))) next →
    IsReplaced make old new level (i + 1) before (slice_set squares i next)
replaced_more make old now new level i before squares next is inside keeps shown =
    let within : i < length squares = let e = is.same_length in omega arith in
    let here : nth (slice_set squares i next) i ≡ next = get_or-set_same squares i next (numbered 0 0) within in
    let there = λ (k : ℕ) (other : k ≢ i). get_or-set_other squares i k next (numbered 0 0) other in
    record {
      keeps = keeps_trans is.keeps keeps;
      same_length = length-set squares i next ∙ is.same_length;
      made = below_more (λ k. k < length before → Shows new (level - 1) (make (old.cells (nth before k))) (nth (slice_set squares i next) k)) i
          (λ k less inside_k. subst (λ sq. Shows new (level - 1) (make (old.cells (nth before k))) sq) (sym (there k (omega arith))) (shows_kept keeps (is.made k less inside_k)))
          (λ _. subst (λ sq. Shows new (level - 1) (make (old.cells (nth before i))) sq) (sym here) shown);
      others = λ k above. there k (omega arith) ∙ is.others k (omega arith);
    }

-- the next square is still what it was, and known
pub next_known : (make : Plane → Plane) (old now : Book) (level i : ℕ) (before squares : List Sq) → IsReplaced make old now level i before squares → i < length before →
    All (IsKnown old level) before → IsKnown now level (nth squares i)
next_known make old now level i before squares is inside known =
    subst (IsKnown now level) (sym (is.others i (omega arith))) (known_kept is.keeps (known i (numbered 0 0) inside))

-- what is made of the next square
pub next_made : (make : Plane → Plane) (old now new : Book) (level i : ℕ) (before squares : List Sq) (next : Sq) → IsReplaced make old now level i before squares → i < length before →
    All (IsKnown old level) before → Shows new (level - 1) (make (now.cells (nth squares i))) next → Shows new (level - 1) (make (old.cells (nth before i))) next
next_made make old now new level i before squares next is inside known shown =
    let one : Shows new (level - 1) (make (now.cells (nth before i))) next = subst (λ sq. Shows new (level - 1) (make (now.cells sq)) next) (is.others i (omega arith)) shown in
    subst (λ plane. Shows new (level - 1) (make plane) next) (plane_equal _ _ (is.keeps.cells (nth before i) (known i (numbered 0 0) inside).known)) one

-- what is made of a square by the rule of the old book is its future in the new one
future_in_new : (old new : Book) (level : ℕ) (sq next : Sq) → Keeps old new → IsKnown old level sq → Shows new (level - 1) (future old.rule old.exponent level (old.cells sq)) next → IsFutureAt new level sq next
future_in_new old new level sq next keeps known shown =
    let one = subst (λ plane. Shows new (level - 1) (future old.rule old.exponent level plane) next) (plane_equal _ _ (same_sym (keeps.cells sq known.known))) shown in
    let two = subst (λ rule. Shows new (level - 1) (future rule old.exponent level (new.cells sq)) next) (sym keeps.rule) one in
    subst (λ exponent. Shows new (level - 1) (future new.rule exponent level (new.cells sq)) next) (sym keeps.exponent) two

pub all_futures : (old new : Book) (level : ℕ) (before now : List Sq) → IsReplaced (future old.rule old.exponent level) old new level (length before) before now → All (IsKnown old level) before →
    AreFutures new level before now
all_futures old new level before now is known = record { each = λ k less. future_in_new old new level (nth before k) (nth now k) is.keeps (known k (numbered 0 0) less) (is.made k less less) }

-- where it ends early, the others stand as they did
pub some_futures : (old mid new : Book) (level done : ℕ) (before now : List Sq) → IsReplaced (future old.rule old.exponent level) old mid level done before now → Keeps mid new → All (IsKnown old level) before →
    AreSameOrFutures new level before now
some_futures old mid new level done before now is keeps known = record {
  each = λ k less. ⊎_elim
      (λ (short : k < done). inr (future_in_new old new level (nth before k) (nth now k) (keeps_trans is.keeps keeps) (known k (numbered 0 0) less) (shows_kept keeps (is.made k short less))))
      (λ (above : done ≤ k). inl (is.others k above)) (cases_lt k done);
}

pub none_replaced : (book : Book) (level : ℕ) (squares : List Sq) → AreSameOrFutures book level squares squares
none_replaced book level squares = record { each = λ k less. inl refl }

-- a square's future, in the words of an older book
pub future_shown : (old now new : Book) (level : ℕ) (sq next : Sq) → Keeps old now → Keeps now new → IsKnown now level sq → IsFuture new sq next →
    Shows new (level - 1) (future old.rule old.exponent level (now.cells sq)) next
future_shown old now new level sq next k1 k2 known is =
    let keeps = keeps_trans k1 k2 in
    let one = subst (λ n. Shows new (n - 1) (future new.rule new.exponent n (new.cells sq)) next) known.at_level is in
    let two = subst (λ plane. Shows new (level - 1) (future new.rule new.exponent level plane) next) (plane_equal _ _ (k2.cells sq known.known)) one in
    let three = subst (λ rule. Shows new (level - 1) (future rule new.exponent level (now.cells sq)) next) keeps.rule two in
    subst (λ exponent. Shows new (level - 1) (future old.rule exponent level (now.cells sq)) next) keeps.exponent three
