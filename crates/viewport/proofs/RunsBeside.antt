-- Runs behind one another, and the rows of squares that they make.
use Rattle.std.proofs.Common.{◌≡◌, ◌≢◌, ℕ, suc, ◌+◌, ◌-◌, ◌^◌, ◌<◌, ℤ, pos, ◌+ℤ◌, ◌-ℤ◌, ◌≤ℤ◌, ◌<ℤ◌, Bool, true, false, ◌||◌, List, [], ◌∷◌, ◌++◌, length, get_or, set, refl, sym, ◌∙◌, ap, subst, arith, w64, SFits}
use Rattle.std.specs.List.{AllByRecursion, list_any}
use Rattle.std.proofs.lemmas.Int.{ints}
use Rattle.std.proofs.lemmas.List.Folds.{list_any-append}
use Rattle.plane.specs.Square.{spans}
use Rattle.plane.proofs.Elements.{AllByRecursion-append, AllByRecursion-weaker}
use Rattle.viewport.specs.RowRuns.{AddsCells, AreApart, EndBy, end_of, is_in_row_run, is_in_some, run_cells}
use Rattle.viewport.proofs.BoxesOfPlanes.{or_false}

-- a list by all but its last item and that item
pub record IsEnded {X : Type 0} (xs front : List X) (last : X) : Type 0 where
  pub whole : xs ≡ front ++ last ∷ []
  pub count : length xs ≡ suc (length front)

module _ {X : Type 0} where
  pub ended : (xs : List X) → 0 < length xs → (front : List X) × (last : X) × IsEnded xs front last
  ended [] some = absurd (omega arith)
  ended (x ∷ []) some = ([], x, record { whole = refl; count = refl })
  ended (x ∷ y ∷ ys) some =
      let rest = ended (y ∷ ys) (omega arith) in
      (x ∷ rest.0, rest.1, record { whole = ap (λ zs. x ∷ zs) rest.2.whole; count = ap suc rest.2.count })

  last_of : (front : List X) (last d : X) → get_or (front ++ last ∷ []) (length front) d ≡ last
  last_of [] last d = refl
  last_of (x ∷ front) last d = last_of front last d

  set_last : (front : List X) (last v : X) → set (front ++ last ∷ []) (length front) v ≡ front ++ v ∷ []
  set_last [] last v = refl
  set_last (x ∷ front) last v = ap (λ zs. x ∷ zs) (set_last front last v)

  pub is_last : (xs front : List X) (last d : X) → IsEnded xs front last → get_or xs (length xs - 1) d ≡ last
  is_last xs front last d is =
      let place : length xs - 1 ≡ length front = let count = is.count in omega (arith, count) in
      ap (λ n. get_or xs n d) place ∙ ap (λ ys. get_or ys (length front) d) is.whole ∙ last_of front last d

  pub set_at_last : (xs front : List X) (last v : X) → IsEnded xs front last → set xs (length xs - 1) v ≡ front ++ v ∷ []
  set_at_last xs front last v is =
      let place : length xs - 1 ≡ length front = let count = is.count in omega (arith, count) in
      ap (λ n. set xs n v) place ∙ ap (λ ys. set ys (length front) v) is.whole ∙ set_last front last v

-- one more run behind some that end before it
apart_push : (runs : List (ℤ × ℕ)) (run : ℤ × ℕ) → AreApart runs → AllByRecursion (λ other. end_of other <ℤ run.0) runs → 0 < run.1 → AreApart (runs ++ run ∷ [])
apart_push [] run apart before some = (some, tt, tt)
apart_push (r ∷ runs) run apart before some =
    (apart.0, AllByRecursion-append (λ other. end_of r <ℤ other.0) runs (run ∷ []) apart.1 (before.0, tt), apart_push runs run apart.2 before.1 some)

all_but_last : (P : ℤ × ℕ → Type 0) (xs : List (ℤ × ℕ)) (x : ℤ × ℕ) → AllByRecursion P (xs ++ x ∷ []) → AllByRecursion P xs × P x
all_but_last P [] x h = (tt, h.0)
all_but_last P (y ∷ xs) x h = let rest = all_but_last P xs x h.1 in ((h.0, rest.0), rest.1)

-- all but the last run, and what the last one says of them
apart_front : (front : List (ℤ × ℕ)) (last : ℤ × ℕ) → AreApart (front ++ last ∷ []) → AreApart front × AllByRecursion (λ other. end_of other <ℤ last.0) front × (0 < last.1)
apart_front [] last apart = (tt, tt, apart.0)
apart_front (r ∷ front) last apart =
    let rest = apart_front front last apart.2 in
    let ends = all_but_last (λ other. end_of r <ℤ other.0) front last apart.1 in
    ((apart.0, ends.0, rest.0), (ends.1, rest.1), rest.2)

behind : (e x : ℤ) (n : ℕ) (first : ℤ) → e <ℤ x → 0 < n → (x +ℤ pos n) ≤ℤ first → e <ℤ first
behind e x n first h some k = omega (arith, ints)

not_there : (e first : ℤ) → e ≤ℤ first → e ≢ first → e <ℤ first
not_there e first h k = omega (arith, ints)

-- where the last run does not end at a place by which all have ended, all have ended before it
pub all_before : (runs front : List (ℤ × ℕ)) (last : ℤ × ℕ) (first : ℤ) → IsEnded runs front last → EndBy first runs → end_of last ≢ first → AllByRecursion (λ other. end_of other <ℤ first) runs
all_before runs front last first is by apart =
    let parts = apart_front front last (subst AreApart is.whole by.apart) in
    let ends = all_but_last (λ run. end_of run ≤ℤ first) front last (subst (AllByRecursion (λ run. end_of run ≤ℤ first)) is.whole by.ends) in
    subst (AllByRecursion (λ other. end_of other <ℤ first)) (sym is.whole)
    (AllByRecursion-append (λ other. end_of other <ℤ first) front (last ∷ [])
    (AllByRecursion-weaker (λ other. end_of other <ℤ last.0) (λ other. end_of other <ℤ first) (λ other h. behind (end_of other) last.0 last.1 first h parts.2 ends.1) front parts.1)
    (not_there (end_of last) first ends.1 apart, tt))

in_some-push : (runs : List (ℤ × ℕ)) (run : ℤ × ℕ) (x : ℤ) → is_in_some (runs ++ run ∷ []) x ≡ (is_in_some runs x || is_in_row_run x run)
unfolding is_in_some
in_some-push runs run x = list_any-append (is_in_row_run x) runs (run ∷ []) ∙ ap (λ b. list_any (is_in_row_run x) runs || b) (or_false (is_in_row_run x run) false refl)

weaker_end : (x y : ℤ) → x ≤ℤ y → (run : ℤ × ℕ) → end_of run ≤ℤ x → end_of run ≤ℤ y
weaker_end x y h run e = omega (arith, ints)

on : (first : ℤ) (count : ℕ) → first ≤ℤ (first +ℤ pos count)
on first count = omega (arith, ints)

here : (first : ℤ) (count : ℕ) → (first +ℤ pos count) ≤ℤ (first +ℤ pos count)
here first count = omega (arith, ints)

soon : (e first : ℤ) → e <ℤ first → e ≤ℤ first
soon e first h = omega (arith, ints)

-- a run that none touches
pub run_pushed : (runs : List (ℤ × ℕ)) (first : ℤ) (count : ℕ) → 0 < count → EndBy first runs → AllByRecursion (λ other. end_of other <ℤ first) runs →
    AddsCells first count (run_cells first count) runs (runs ++ (first, count) ∷ [])
run_pushed runs first count some by before = record {
  end = record {
    apart = apart_push runs (first, count) by.apart before some;
    ends = AllByRecursion-append (λ run. end_of run ≤ℤ (first +ℤ pos count)) runs ((first, count) ∷ [])
        (AllByRecursion-weaker (λ run. end_of run ≤ℤ first) (λ run. end_of run ≤ℤ (first +ℤ pos count)) (weaker_end first (first +ℤ pos count) (on first count)) runs by.ends)
        (here first count, tt);
  };
  adds = in_some-push runs (first, count);
}

longer : (x a : ℤ) (n m : ℕ) (first : ℤ) → a +ℤ pos n ≡ first → spans (n + m) (x -ℤ a) ≡ (spans n (x -ℤ a) || spans m (x -ℤ first))
longer x a n m first e = grind (arith, ints)

or_assoc : (a b c : Bool) → (a || (b || c)) ≡ ((a || b) || c)
or_assoc true b c = refl
or_assoc false b c = refl

end_longer : (a : ℤ) (n m : ℕ) (first : ℤ) → a +ℤ pos n ≡ first → (a +ℤ pos (n + m)) ≤ℤ (first +ℤ pos m)
end_longer a n m first e = omega (arith, ints)

-- a run that the last one touches
pub run_grown : (runs front : List (ℤ × ℕ)) (last : ℤ × ℕ) (first : ℤ) (count : ℕ) → 0 < count → IsEnded runs front last → EndBy first runs → end_of last ≡ first →
    AddsCells first count (run_cells first count) runs (front ++ (last.0, last.1 + count) ∷ [])
run_grown runs front last first count some is by touch =
    let parts = apart_front front last (subst AreApart is.whole by.apart) in
    let ends = all_but_last (λ run. end_of run ≤ℤ first) front last (subst (AllByRecursion (λ run. end_of run ≤ℤ first)) is.whole by.ends) in
    record {
      end = record {
        apart = apart_push front (last.0, last.1 + count) parts.0 parts.1 (let least = parts.2 in omega arith);
        ends = AllByRecursion-append (λ run. end_of run ≤ℤ (first +ℤ pos count)) front ((last.0, last.1 + count) ∷ [])
            (AllByRecursion-weaker (λ run. end_of run ≤ℤ first) (λ run. end_of run ≤ℤ (first +ℤ pos count)) (weaker_end first (first +ℤ pos count) (on first count)) front ends.0)
            (end_longer last.0 last.1 count first touch, tt);
      };
      adds = λ x. in_some-push front (last.0, last.1 + count) x
          ∙ ap (λ b. is_in_some front x || b) (longer x last.0 last.1 count first touch)
          ∙ or_assoc (is_in_some front x) (is_in_row_run x last) (run_cells first count x)
          ∙ ap (λ b. b || run_cells first count x) (sym (ap (λ rs. is_in_some rs x) is.whole ∙ in_some-push front last x));
    }

further : (left : ℤ) (a b : ℕ) → ((left +ℤ pos a) +ℤ pos b) ≤ℤ (left +ℤ pos (a + b))
further left a b = omega (arith, ints)

pub end_weaker : (runs : List (ℤ × ℕ)) (x y : ℤ) → x ≤ℤ y → EndBy x runs → EndBy y runs
end_weaker runs x y h by = record { apart = by.apart; ends = AllByRecursion-weaker (λ run. end_of run ≤ℤ x) (λ run. end_of run ≤ℤ y) (weaker_end x y h) runs by.ends }

-- some cells, and then those behind them
pub adds_then : (left : ℤ) (a b : ℕ) (cells more all : ℤ → Bool) (old mid new : List (ℤ × ℕ)) → AddsCells left a cells old mid → AddsCells (left +ℤ pos a) b more mid new →
    ((x : ℤ) → all x ≡ (cells x || more x)) → AddsCells left (a + b) all old new
adds_then left a b cells more all old mid new h k is = record {
  end = end_weaker new ((left +ℤ pos a) +ℤ pos b) (left +ℤ pos (a + b)) (further left a b) k.end;
  adds = λ x. k.adds x ∙ ap (λ t. t || more x) (h.adds x) ∙ sym (or_assoc (is_in_some old x) (cells x) (more x)) ∙ sym (ap (λ t. is_in_some old x || t) (is x));
}

wider : (left : ℤ) (a b : ℕ) → (left +ℤ pos a) ≤ℤ (left +ℤ pos (a + b))
wider left a b = omega (arith, ints)

-- some cells, and then dead ones
pub adds_no_more : (left : ℤ) (a b : ℕ) (cells all : ℤ → Bool) (old new : List (ℤ × ℕ)) → AddsCells left a cells old new → ((x : ℤ) → all x ≡ cells x) → AddsCells left (a + b) all old new
adds_no_more left a b cells all old new h is = record {
  end = end_weaker new (left +ℤ pos a) (left +ℤ pos (a + b)) (wider left a b) h.end;
  adds = λ x. h.adds x ∙ sym (ap (λ t. is_in_some old x || t) (is x));
}

-- no cells
pub adds_none : (left : ℤ) (wide : ℕ) (cells : ℤ → Bool) (runs : List (ℤ × ℕ)) → EndBy left runs → ((x : ℤ) → cells x ≡ false) → AddsCells left wide cells runs runs
adds_none left wide cells runs by none = record {
  end = end_weaker runs left (left +ℤ pos wide) (on left wide) by;
  adds = λ x. sym (or_false (is_in_some runs x) (cells x) (none x));
}

-- the same cells, by another name
pub adds_as : (left : ℤ) (a b : ℕ) (cells others : ℤ → Bool) (old new : List (ℤ × ℕ)) → a ≡ b → ((x : ℤ) → others x ≡ cells x) → AddsCells left a cells old new → AddsCells left b others old new
adds_as left a b cells others old new e is h =
    subst (λ n. AddsCells left n others old new) e (record { end = h.end; adds = λ x. h.adds x ∙ sym (ap (λ t. is_in_some old x || t) (is x)) })

-- a run behind the last one, which it does not touch
pub pushed_behind : (runs : List (ℤ × ℕ)) (last : ℤ × ℕ) (place : ℕ) (first : ℤ) (count : ℕ) → place ≡ length runs - 1 → 0 < length runs → last ≡ get_or runs place last → 0 < count →
    EndBy first runs → end_of last ≢ first → AddsCells first count (run_cells first count) runs (set runs place last ++ (first, count) ∷ [])
pushed_behind runs last place first count at_end some is least by apart =
    let parts = ended runs some in
    let last_is : last ≡ parts.1 = is ∙ ap (λ n. get_or runs n last) at_end ∙ is_last runs parts.0 parts.1 last parts.2 in
    let same : set runs place last ≡ runs = ap (λ n. set runs n last) at_end ∙ set_at_last runs parts.0 parts.1 last parts.2 ∙ ap (λ (r : ℤ × ℕ). parts.0 ++ r ∷ []) last_is ∙ sym parts.2.whole in
    subst (λ (rs : List (ℤ × ℕ)). AddsCells first count (run_cells first count) runs (rs ++ (first, count) ∷ [])) (sym same)
    (run_pushed runs first count least by (all_before runs parts.0 parts.1 first parts.2 by (λ e. apart (ap end_of last_is ∙ e))))

-- the last run, which it touches, grown by it
pub grown_last : (runs : List (ℤ × ℕ)) (last : ℤ × ℕ) (place : ℕ) (first : ℤ) (count : ℕ) → place ≡ length runs - 1 → 0 < length runs → last ≡ get_or runs place last → 0 < count →
    EndBy first runs → end_of last ≡ first → AddsCells first count (run_cells first count) runs (set runs place (last.0, last.1 + count))
grown_last runs last place first count at_end some is least by touch =
    let parts = ended runs some in
    let last_is : last ≡ parts.1 = is ∙ ap (λ n. get_or runs n last) at_end ∙ is_last runs parts.0 parts.1 last parts.2 in
    let grown : ℤ × ℕ = (last.0, last.1 + count) in
    let same : set runs place grown ≡ parts.0 ++ grown ∷ [] = ap (λ n. set runs n grown) at_end ∙ set_at_last runs parts.0 parts.1 grown parts.2 in
    subst (λ (rs : List (ℤ × ℕ)). AddsCells first count (run_cells first count) runs rs) (sym same)
    (subst (λ (r : ℤ × ℕ). AddsCells first count (run_cells first count) runs (parts.0 ++ (r.0, r.1 + count) ∷ [])) (sym last_is)
    (run_grown runs parts.0 parts.1 first count least parts.2 by (sym (ap end_of last_is) ∙ touch)))

-- the first run
pub pushed_first : (runs : List (ℤ × ℕ)) (first : ℤ) (count : ℕ) → length runs ≡ 0 → 0 < count → EndBy first runs → AddsCells first count (run_cells first count) runs (runs ++ (first, count) ∷ [])
pushed_first [] first count none some by = run_pushed [] first count some by tt
pushed_first (r ∷ runs) first count none some by = absurd (omega arith)

-- no length of a run is too large
pub grown_fits : (a : ℤ) (n m : ℕ) (first : ℤ) → SFits w64 a → a +ℤ pos n ≡ first → (first +ℤ pos m) ≤ℤ pos (2 ^ 62) → n + m < 2 ^ 64
grown_fits a n m first fits e room = omega (arith, ints)
