-- Results that stay, and the count of expansions.
use Rattle.std.proofs.Common.{◌≡◌, ℕ, ◌+◌, ◌-◌, ◌<◌, ◌≤◌, ◌⊎◌, List, length, sym, ap, subst, arith, inl, inr, ⊎_elim}
use Rattle.std.specs.Prelude.{Contains}
use Rattle.squares.specs.declared.sq.Sq.{Sq}
use Rattle.plane.specs.Square.{future}
use Rattle.squares.specs.Accounts.{Accounts}
use Rattle.squares.specs.Book.{Book, IsKnown, Shows, Keeps, KeepsResults, Gains, Learns, AddsResult, IsFuture, HasResult}
use Rattle.plane.proofs.Same.{same_sym, plane_equal}
use Rattle.squares.proofs.Kept.{shows_kept}

-- a future stays the future
pub future_kept : (a b : Book) (sq f : Sq) → Keeps a b → IsKnown a sq.level sq → IsFuture a sq f → IsFuture b sq f
future_kept a b sq f keeps known is =
    let cells : a.cells sq ≡ b.cells sq = plane_equal _ _ (same_sym (keeps.cells sq known.known)) in
    let shown : Shows b (sq.level - 1) (future a.rule a.exponent sq.level (a.cells sq)) f = shows_kept keeps is in
    let one = subst (λ plane. Shows b (sq.level - 1) (future a.rule a.exponent sq.level plane) f) cells shown in
    let two = subst (λ rule. Shows b (sq.level - 1) (future rule a.exponent sq.level (b.cells sq)) f) (sym keeps.rule) one in
    subst (λ exponent. Shows b (sq.level - 1) (future b.rule exponent sq.level (b.cells sq)) f) (sym keeps.exponent) two

kept_has : (a b : Book) (q : Sq) → KeepsResults a b → Contains b.results q → Contains a.results q
kept_has a b q h s = subst (λ xs. Contains xs q) h.results s

pub accounts_kept : (a b : Book) (top n : ℕ) → KeepsResults a b → Accounts a b top n n
accounts_kept a b top n h = record {
  count = omega (arith, ap length h.results, h.learned);
  below = λ q s. inl (kept_has a b q h s);
}

also_below : (old new : List Sq) (sq : Sq) (top : ℕ) → sq.level ≤ top → Gains old new sq → (q : Sq) → Contains new q → Contains old q ⊎ (q.level ≤ top)
also_below old new sq top low h q s = ⊎_elim (λ e. inr (subst (λ (r : Sq). r.level ≤ top) (sym e) low)) (λ t. inl t) ((h.has q).0 s)

pub accounts_learned : (a b : Book) (sq : Sq) (top n : ℕ) → sq.level ≤ top → Learns a b sq → Accounts a b top n n
accounts_learned a b sq top n low h = ⊎_elim (λ t. accounts_kept a b top n t)
    (λ t. record { count = let e = t.0.length in let l = t.1 in omega arith; below = also_below a.results b.results sq top low t.0 }) h.told

pub accounts_trans : (a b c : Book) (low top k m n : ℕ) → low ≤ top → Accounts a b low k m → Accounts b c top m n → Accounts a c top k n
accounts_trans a b c low top k m n le h g = record {
  count = let x = h.count in let y = g.count in omega arith;
  below = λ q s. ⊎_elim (λ t. ⊎_elim (λ u. inl u) (λ u. inr (omega arith)) (h.below q t)) (λ t. inr t) (g.below q s);
}

was_known : (a b : Book) (sq : Sq) → HasResult b sq → b.results ≡ a.results → HasResult a sq
was_known a b sq h e = ⊎_elim (λ t. inl t) (λ t. inr (subst (λ xs. Contains xs sq) e t)) h

-- a result that was kept, of a square that had none
pub accounts_added : (a b : Book) (sq : Sq) (n : ℕ) → ¬ HasResult a sq → AddsResult a b sq → Accounts a b sq.level n (n + 1)
accounts_added a b sq n none h = ⊎_elim (λ e. absurd (none (was_known a b sq h.known e)))
    (λ t. record { count = let e = t.length in let l = h.learned in omega arith; below = also_below a.results b.results sq sq.level (omega arith) t }) h.results

-- a square of a higher level is none of those that are new
pub not_new : (a b : Book) (sq : Sq) (top k n : ℕ) → top < sq.level → Accounts a b top k n → ¬ HasResult a sq → ¬ HasResult b sq
not_new a b sq top k n above h none s = ⊎_elim (λ e. none (inl e)) (λ c. ⊎_elim (λ t. none (inr t)) (λ t. omega arith) (h.below sq c)) s

pub raised : (a b : Book) (low top k n : ℕ) → low ≤ top → Accounts a b low k n → Accounts a b top k n
raised a b low top k n le h = record { count = h.count; below = λ q s. ⊎_elim (λ t. inl t) (λ t. inr (omega arith)) (h.below q s) }
