-- Lists of results, with no square twice.
use Rattle.std.proofs.Common.{◌≡◌, ℕ, zero, suc, ◌+◌, ◌^◌, ◌<◌, Bool, true, false, cond, List, [], ◌∷◌, length, sym, ◌∙◌, ap, subst, arith, refl, ⊎_elim}
use Rattle.std.specs.Prelude.{◌==◌, ◌||◌, ◌&&◌, Contains, slice_index_or, slice_get, Some}
use Rattle.std.specs.List.{AllByRecursion}
use Rattle.std.proofs.lemmas.Bool.{false≢true, eqb-true, eq-eqb}
use Rattle.std.proofs.lemmas.List.Elements.{Contains-append_right}
use Rattle.table_core.specs.declared.knowledge.KnownResult.{KnownResult}
use Rattle.table_core.specs.declared.shape.Kind.TheVariants.{Pair}
use Rattle.table_core.specs.Layout.{result_of}
use Rattle.table_core.specs.Blocks.{Words, IsBlock, square_rank}
use Rattle.table_core.specs.Knowledge.{has_result, with_result, HasEachOnce, has_this, with_this, joined_results, IsTrueResult}
use Rattle.table_core.proofs.Ways.{not_head}
use Rattle.table_core.proofs.Blocks.{one_rank}
use Rattle.table_core.proofs.Booleans.{and_both, and_cases, or_cases, or_left, or_right}
use Rattle.table_core.proofs.Lists.{all_contains, contains_here}

later : (x : KnownResult) (xs : List KnownResult) (r : KnownResult) → Contains xs r → Contains (x ∷ xs) r
later x xs r h = Contains-append_right (x ∷ []) xs r h

found_step : (x : KnownResult) (xs : List KnownResult) (square : ℕ) (b : Bool) → (x.square == square) ≡ b →
    (has_result xs square ≡ true → (r : KnownResult) × Contains xs r × (r.square ≡ square)) →
    (b || has_result xs square) ≡ true → (r : KnownResult) × Contains (x ∷ xs) r × (r.square ≡ square)
found_step x xs square true e f h = (x, contains_here x xs, eqb-true x.square square e)
found_step x xs square false e f h = let t = f h in (t.0, later x xs t.0 t.1, t.2)

-- a square that has a result has an entry
pub found_result : (results : List KnownResult) (square : ℕ) → has_result results square ≡ true →
    (r : KnownResult) × Contains results r × (r.square ≡ square)
found_result [] square h = absurd (false≢true h)
found_result (x ∷ xs) square h = found_step x xs square (x.square == square) refl (found_result xs square) h

kept_step : (rs : List KnownResult) (r : KnownResult) (new : KnownResult) (b : Bool) → Contains rs r → Contains (cond b rs (new ∷ rs)) r
kept_step rs r new true h = h
kept_step rs r new false h = later new rs r h

pub with_result_keeps : (rs : List KnownResult) (new r : KnownResult) → Contains rs r → Contains (with_result rs new) r
with_result_keeps rs new r h = kept_step rs r new (has_result rs new.square) h

all_step : (P : KnownResult → Type 0) (rs : List KnownResult) (new : KnownResult) (b : Bool) → AllByRecursion P rs → P new →
    AllByRecursion P (cond b rs (new ∷ rs))
all_step P rs new true all one = all
all_step P rs new false all one = (one, all)

pub with_result_all : (P : KnownResult → Type 0) (rs : List KnownResult) (new : KnownResult) → AllByRecursion P rs → P new →
    AllByRecursion P (with_result rs new)
with_result_all P rs new all one = all_step P rs new (has_result rs new.square) all one

once_step : (rs : List KnownResult) (new : KnownResult) (b : Bool) → has_result rs new.square ≡ b → HasEachOnce rs →
    HasEachOnce (cond b rs (new ∷ rs))
once_step rs new true e h = h
once_step rs new false e h = (e, h)

pub with_result_once : (rs : List KnownResult) (new : KnownResult) → HasEachOnce rs → HasEachOnce (with_result rs new)
with_result_once rs new h = once_step rs new (has_result rs new.square) refl h

-- a rank of a square is that of one level
pub one_level : (k l : ℕ) → 3 < k → 3 < l → square_rank k ≡ square_rank l → k ≡ l
one_level k l hk hl e = omega arith

-- true results of one square are one
pub same_result : (bits : ℕ) (words : Words) (a b : KnownResult) → IsTrueResult bits words a → IsTrueResult bits words b → a.square ≡ b.square → a ≡ b
same_result bits words a b h k e =
    let levels : a.level ≡ b.level = one_level a.level b.level h.above k.above
    (one_rank bits words (square_rank a.level) (square_rank b.level) b.square (subst (λ n. IsBlock bits words (square_rank a.level) n) e h.square) k.square (not_head bits Pair b.square k.slot)) in
    let told : 2 ^ 32 + a.future ≡ 2 ^ 32 + b.future = sym h.told ∙ ap (λ n. words (result_of bits n)) e ∙ k.told in
    let futures : a.future ≡ b.future = omega arith in
    λ i. record { level = levels i; square = e i; future = futures i }

new_step : (bits : ℕ) (words : Words) (rs : List KnownResult) (new : KnownResult) (b : Bool) → has_result rs new.square ≡ b →
    AllByRecursion (IsTrueResult bits words) rs → IsTrueResult bits words new → Contains (cond b rs (new ∷ rs)) new
new_step bits words rs new true e all one =
    let t = found_result rs new.square e in
    subst (Contains rs) (same_result bits words t.0 new (all_contains (IsTrueResult bits words) rs t.0 all t.1) one t.2) t.1
new_step bits words rs new false e all one = contains_here new rs

-- among true results the new one is there afterwards
pub with_result_has : (bits : ℕ) (words : Words) (rs : List KnownResult) (new : KnownResult) → AllByRecursion (IsTrueResult bits words) rs →
    IsTrueResult bits words new → Contains (with_result rs new) new
with_result_has bits words rs new all one = new_step bits words rs new (has_result rs new.square) refl all one

-- results that agree in each field are one
same_fields : (a b : KnownResult) → ((a.level == b.level) && (a.square == b.square) && (a.future == b.future)) ≡ true → a ≡ b
same_fields a b e =
    let t = and_cases ((a.level == b.level) && (a.square == b.square)) (a.future == b.future) e in
    let u = and_cases (a.level == b.level) (a.square == b.square) t.0 in
    λ i. record { level = eqb-true a.level b.level u.0 i; square = eqb-true a.square b.square u.1 i; future = eqb-true a.future b.future t.1 i }

this_at_head : (x r : KnownResult) → x ≡ r → ((x.level == r.level) && (x.square == r.square) && (x.future == r.future)) ≡ true
this_at_head x r e = and_both ((x.level == r.level) && (x.square == r.square)) (x.future == r.future)
    (and_both (x.level == r.level) (x.square == r.square) (eq-eqb x.level r.level (λ i. (e i).level)) (eq-eqb x.square r.square (λ i. (e i).square)))
    (eq-eqb x.future r.future (λ i. (e i).future))

-- a result is among those that have it
this_found : (results : List KnownResult) (r : KnownResult) → has_this results r ≡ true → Contains results r
this_found [] r h = absurd (false≢true h)
this_found (x ∷ xs) r h = ⊎_elim
    (λ e. subst (Contains (x ∷ xs)) (same_fields x r e) (contains_here x xs))
    (λ t. later x xs r (this_found xs r t))
    (or_cases ((x.level == r.level) && (x.square == r.square) && (x.future == r.future)) (has_this xs r) h)

found_this : (results : List KnownResult) (r : KnownResult) (k : ℕ) → k < length results → slice_index_or results k r ≡ r → has_this results r ≡ true
found_this [] r k less e = absurd (omega arith)
found_this (x ∷ xs) r zero less e = or_left ((x.level == r.level) && (x.square == r.square) && (x.future == r.future)) (has_this xs r) (this_at_head x r e)
found_this (x ∷ xs) r (suc k) less e = or_right ((x.level == r.level) && (x.square == r.square) && (x.future == r.future)) (has_this xs r) (found_this xs r k (omega arith) e)

with_this_all : (P : KnownResult → Type 0) (rs : List KnownResult) (new : KnownResult) → AllByRecursion P rs → P new →
    AllByRecursion P (with_this rs new)
with_this_all P rs new all one = all_step P rs new (has_this rs new) all one

with_this_keeps : (rs : List KnownResult) (new r : KnownResult) → Contains rs r → Contains (with_this rs new) r
with_this_keeps rs new r h = kept_step rs r new (has_this rs new) h

this_step : (rs : List KnownResult) (new : KnownResult) (b : Bool) → has_this rs new ≡ b → Contains (cond b rs (new ∷ rs)) new
this_step rs new true e = this_found rs new e
this_step rs new false e = contains_here new rs

with_this_has : (rs : List KnownResult) (new : KnownResult) → Contains (with_this rs new) new
with_this_has rs new = this_step rs new (has_this rs new) refl

module _ (bits : ℕ) (words : Words) where
  -- among true results another one is that of another square
  other_square : (rs : List KnownResult) (new : KnownResult) → AllByRecursion (IsTrueResult bits words) rs → IsTrueResult bits words new →
      has_this rs new ≡ false → (b : Bool) → has_result rs new.square ≡ b → has_result rs new.square ≡ false
  other_square rs new all one none false e = e
  other_square rs new all one none true e =
      let t = found_result rs new.square e in
      let same : t.0 ≡ new = same_result bits words t.0 new (all_contains (IsTrueResult bits words) rs t.0 all t.1) one t.2 in
      let there : Contains rs new = subst (Contains rs) same t.1 in
      absurd (false≢true (sym none ∙ found_this rs new there.0 there.1 there.2))

  this_once : (rs : List KnownResult) (new : KnownResult) → AllByRecursion (IsTrueResult bits words) rs → IsTrueResult bits words new → HasEachOnce rs →
      (b : Bool) → has_this rs new ≡ b → HasEachOnce (cond b rs (new ∷ rs))
  this_once rs new all one once true e = once
  this_once rs new all one once false e = (other_square rs new all one e (has_result rs new.square) refl, once)

pub joined_all : (P : KnownResult → Type 0) (one two : List KnownResult) → AllByRecursion P one → AllByRecursion P two →
    AllByRecursion P (joined_results one two)
joined_all P one [] h k = h
joined_all P one (r ∷ rs) h k = with_this_all P (joined_results one rs) r (joined_all P one rs h k.1) k.0

-- among true results no square comes twice
pub joined_once : (bits : ℕ) (words : Words) (one two : List KnownResult) → AllByRecursion (IsTrueResult bits words) one →
    AllByRecursion (IsTrueResult bits words) two → HasEachOnce one → HasEachOnce (joined_results one two)
joined_once bits words one [] h k once = once
joined_once bits words one (r ∷ rs) h k once =
    this_once bits words (joined_results one rs) r (joined_all (IsTrueResult bits words) one rs h k.1) k.0 (joined_once bits words one rs h k.1 once) (has_this (joined_results one rs) r) refl

pub joined_keeps_first : (one two : List KnownResult) (r : KnownResult) → Contains one r → Contains (joined_results one two) r
joined_keeps_first one [] r h = h
joined_keeps_first one (x ∷ xs) r h = with_this_keeps (joined_results one xs) x r (joined_keeps_first one xs r h)

second_at : (one two : List KnownResult) (r : KnownResult) (k : ℕ) → k < length two → slice_index_or two k r ≡ r → Contains (joined_results one two) r
second_at one [] r k less e = absurd (omega arith)
second_at one (x ∷ xs) r zero less e = subst (Contains (joined_results one (x ∷ xs))) e (with_this_has (joined_results one xs) x)
second_at one (x ∷ xs) r (suc k) less e = with_this_keeps (joined_results one xs) x r (second_at one xs r k (omega arith) e)

pub joined_keeps_second : (one two : List KnownResult) (r : KnownResult) → Contains two r → Contains (joined_results one two) r
joined_keeps_second one two r has = second_at one two r has.0 has.1 has.2

get_has : (results : List KnownResult) (i : ℕ) (r : KnownResult) → slice_get results i ≡ Some r → has_result results r.square ≡ true
get_has [] i r e = let no : ⊥ = cc in absurd no
get_has (x ∷ xs) zero r e = let same : x ≡ r = cc in ap (λ b. b || has_result xs r.square) (eq-eqb x.square r.square (ap (λ (y : KnownResult). y.square) same))
get_has (x ∷ xs) (suc i) r e = or_right (x.square == r.square) (has_result xs r.square) (get_has xs i r e)

not_again : (x : KnownResult) (xs : List KnownResult) (j : ℕ) (a b : KnownResult) → has_result xs x.square ≡ false → x ≡ a → slice_get xs j ≡ Some b → a.square ≡ b.square → ⊥
not_again x xs j a b none same there e =
    false≢true (sym none ∙ ap (has_result xs) (ap (λ (y : KnownResult). y.square) same ∙ e) ∙ get_has xs j b there)

-- a square has its one result at one place
pub one_place : (results : List KnownResult) (i j : ℕ) (a b : KnownResult) → HasEachOnce results → slice_get results i ≡ Some a → slice_get results j ≡ Some b →
    a.square ≡ b.square → i ≡ j
one_place [] i j a b h at also e = let no : ⊥ = cc in absurd no
one_place (x ∷ xs) zero zero a b h at also e = refl
one_place (x ∷ xs) zero (suc j) a b h at also e = let same : x ≡ a = cc in absurd (not_again x xs j a b h.0 same also e)
one_place (x ∷ xs) (suc i) zero a b h at also e = let same : x ≡ b = cc in absurd (not_again x xs i b a h.0 same at (sym e))
one_place (x ∷ xs) (suc i) (suc j) a b h at also e = ap suc (one_place xs i j a b h.1 at also e)
