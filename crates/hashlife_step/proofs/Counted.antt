-- The count of expansions, from one book to the next.
use Rattle.std.proofs.Common.{◌≡◌, ℕ, zero, suc, ◌+◌, ◌-◌, ◌^◌, ◌<◌, ◌≤◌, min, arith, sym, ◌∙◌, ap, subst, refl, ⊎_elim}
use Rattle.squares.specs.Accounts.{Accounts}
use Rattle.squares.specs.Book.{AddsResult, AddsSquares, Book, HasResult, KeepsResults, Learns}
use Rattle.squares.specs.declared.sq.Sq.{Sq}
use Rattle.squares.proofs.Results.{accounts_added, accounts_kept, accounts_learned, accounts_trans, not_new}
use Rattle.squares.proofs.Kept.{keeps_trans}
use Rattle.hashlife_step.specs.Tallies.{MakesResults, Tallies, counted}

counted_sum : (n a b : ℕ) → counted (counted n a) b ≡ counted n (a + b)
counted_sum n a zero = let e : a + 0 ≡ a = omega arith in sym (ap (counted n) e)
counted_sum n a (suc b) =
    let e : a + suc b ≡ suc (a + b) = omega arith in
    ap (λ m. min (2 ^ 64 - 1) (m + 1)) (counted_sum n a b) ∙ sym (ap (counted n) e)

-- an account from any count on
shifted : (old new : Book) (level n k m : ℕ) → Accounts old new level 0 m → k ≡ n + m → Accounts old new level n k
shifted old new level n k m is e = record { count = let c = is.count in omega arith; below = is.below }

back : (old new : Book) (level n m : ℕ) → Accounts old new level n (n + m) → Accounts old new level 0 m
back old new level n m is = record { count = let c = is.count in omega arith; below = is.below }

pub tallies_none : (old new : Book) (level n : ℕ) → KeepsResults old new → Tallies old new level n n
tallies_none old new level n is = record {
  made = 0;
  accounts = accounts_kept old new level 0 is;
  told = let e = is.learned in omega arith;
  count = refl;
}

pub tallies_learned : (old new : Book) (sq : Sq) (level n : ℕ) → sq.level ≤ level → Learns old new sq → Tallies old new level n n
tallies_learned old new sq level n low is = record {
  made = 0;
  accounts = accounts_learned old new sq level 0 low is;
  told = ⊎_elim (λ t. let e = t.learned in omega arith) (λ t. let e = t.1 in omega arith) is.told;
  count = refl;
}

pub tallies_trans : (old now new : Book) (low top k m n : ℕ) → low ≤ top → Tallies old now low k m → Tallies now new top m n → Tallies old new top k n
tallies_trans old now new low top k m n le first second = record {
  made = first.made + second.made;
  accounts = accounts_trans old now new low top 0 first.made (first.made + second.made) le first.accounts (shifted now new top first.made (first.made + second.made) second.made second.accounts refl);
  told = let e = first.told in let f = second.told in omega arith;
  count = second.count ∙ ap (λ c. counted c second.made) first.count ∙ counted_sum k first.made second.made;
}

-- one more result, of a square that had none
pub tallies_added : (old new : Book) (sq : Sq) (n : ℕ) → ¬ HasResult old sq → AddsResult old new sq → Tallies old new sq.level n (min (2 ^ 64 - 1) (n + 1))
tallies_added old new sq n none is = record {
  made = 1;
  accounts = accounts_added old new sq 0 none is;
  told = let e = is.learned in omega arith;
  count = refl;
}

-- a square of a higher level has no result yet
pub still_none : (old new : Book) (sq : Sq) (k n : ℕ) → 3 < sq.level → Tallies old new (sq.level - 1) k n → ¬ HasResult old sq → ¬ HasResult new sq
still_none old new sq k n low is none = not_new old new sq (sq.level - 1) 0 is.made (omega arith) is.accounts none

-- results were made, and before and after that none
pub made_between : (old first last new : Book) (low top k n : ℕ) → low ≤ top → KeepsResults old first → Tallies first last low k n → KeepsResults last new → Tallies old new top k n
made_between old first last new low top k n le before is after =
    tallies_trans old last new low top k n n le (tallies_trans old first last low low k k n (omega arith) (tallies_none old first low k before) is) (tallies_none last new top n after)

pub results_none : (book : Book) → KeepsResults book book
results_none book = record { results = refl; learned = refl }

-- a result was made and kept
pub made_and_kept : (old recalled made kept : Book) (sq : Sq) (k m n : ℕ) → 3 < sq.level → KeepsResults old recalled → ¬ HasResult old sq → Tallies recalled made (sq.level - 1) k m →
    AddsResult made kept sq → n ≡ min (2 ^ 64 - 1) (m + 1) → Tallies old kept sq.level k n
made_and_kept old recalled made kept sq k m n low same none is adds full =
    let first = made_between old recalled made made (sq.level - 1) (sq.level - 1) k m (omega arith) same is (results_none made) in
    let last = tallies_added made kept sq m (still_none old made sq k m low first none) adds in
    subst (Tallies old kept sq.level k) (sym full) (tallies_trans old made kept (sq.level - 1) sq.level k m _ (omega arith) first last)

-- only squares are new
pub makes_none : {old new : Book} {level n : ℕ} → AddsSquares old new → MakesResults old new level n n
makes_none {old} {new} {level} {n} is = record { keeps = is.keeps; tally = tallies_none old new level n is.results }

pub makes_trans : {old now new : Book} {level k m n : ℕ} → MakesResults old now level k m → MakesResults now new level m n → MakesResults old new level k n
makes_trans {old} {now} {new} {level} {k} {m} {n} first second = record {
  keeps = keeps_trans first.keeps second.keeps;
  tally = tallies_trans old now new level level k m n (omega arith) first.tally second.tally;
}

-- results of one level are results of another that is the same
pub makes_at : {old new : Book} {level level' k n : ℕ} → level ≡ level' → MakesResults old new level k n → MakesResults old new level' k n
makes_at {old} {new} {level} {level'} {k} {n} e is = subst (λ l. MakesResults old new l k n) e is

-- results up to a level are results up to a higher one
pub makes_up_to : {old new : Book} {level top k n : ℕ} → level ≤ top → MakesResults old new level k n → MakesResults old new top k n
makes_up_to {old} {new} {level} {top} {k} {n} le is = record {
  keeps = is.keeps;
  tally = made_between old old new new level top k n le (results_none old) is.tally (results_none new);
}
