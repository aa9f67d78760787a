-- Lists of squares without repeats.
use Rattle.std.proofs.Common.{◌≡◌, suc, ◌+◌, Bool, true, false, not, cond, ◌&&◌, ◌||◌, List, [], ◌∷◌, ◌++◌, length, refl, sym, ◌∙◌, ap, arith, append_assoc, append-nil}
use Rattle.std.specs.Cmp.Lexicographic.{pointwise}
use Rattle.std.specs.List.{AllByRecursion, list_any, position_or_len}
use Rattle.std.proofs.lemmas.Bool.{false≢true}
use Rattle.std.proofs.lemmas.Bool.Decides.{Decides-eqb}
use Rattle.std.proofs.lemmas.List.Folds.{list_any-append}
use Rattle.plane.proofs.Listings.{is_at-own}
use Rattle.plane.proofs.Elements.{AllByRecursion-weaker}
use Rattle.plane.specs.declared.cell.Cell.{Cell}
use Rattle.pattern_writers.specs.Subsquares.{Square, is_listed, is_same_cell, is_same_square, live_cells, with_new}

or_true : (b : Bool) → (b || true) ≡ true
or_true true = refl
or_true false = refl

cells_same : (cells : List Cell) → pointwise is_same_cell cells cells ≡ true
cells_same [] = refl
cells_same (cell ∷ cells) = ap (λ t. t && pointwise is_same_cell cells cells) (is_at-own cell) ∙ cells_same cells

-- a square is the same as itself
pub same_self : (square : Square) → is_same_square square square ≡ true
unfolding is_same_square
same_self square =
    ap (λ t. t && pointwise is_same_cell (live_cells square) (live_cells square)) ((Decides-eqb square.level square.level).1 refl) ∙ cells_same (live_cells square)

-- ---- squares that are added where they are not listed

-- the squares with one more, unless it is among them
abbrev pub one_more : List Square → Square → List Square
one_more listed square = cond (is_listed listed square) listed (listed ++ square ∷ [])

pub with_new-append : (listed first second : List Square) → with_new listed (first ++ second) ≡ with_new (with_new listed first) second
unfolding with_new
with_new-append listed [] second = refl
with_new-append listed (square ∷ first) second = with_new-append (one_more listed square) first second

-- a square that is listed adds nothing
pub with_one-listed : (listed : List Square) (square : Square) → is_listed listed square ≡ true → with_new listed (square ∷ []) ≡ listed
unfolding with_new
with_one-listed listed square is = ap (λ t. cond t listed (listed ++ square ∷ [])) is

pub with_one-new : (listed : List Square) (square : Square) → is_listed listed square ≡ false → with_new listed (square ∷ []) ≡ listed ++ square ∷ []
unfolding with_new
with_one-new listed square is = ap (λ t. cond t listed (listed ++ square ∷ [])) is

one_more-grows : (listed : List Square) (square : Square) → (more : List Square) × (one_more listed square ≡ listed ++ more)
one_more-grows listed square =
    elim (is_listed listed square) as (λ t. (more : List Square) × (cond t listed (listed ++ square ∷ []) ≡ listed ++ more)) [
      | true ↦ ([], sym (append-nil listed))
      | false ↦ (square ∷ [], refl)
    ]

-- what is listed stays in front
pub with_new-grows : (listed squares : List Square) → (more : List Square) × (with_new listed squares ≡ listed ++ more)
unfolding with_new
with_new-grows listed [] = ([], sym (append-nil listed))
with_new-grows listed (square ∷ squares) =
    let one = one_more-grows listed square in
    let all = with_new-grows (one_more listed square) squares in
    (one.0 ++ all.0, all.1 ∙ ap (λ l. l ++ all.0) one.1 ∙ append_assoc listed one.0 all.0)

-- a square that is listed is so with more behind
pub still_listed : (listed more : List Square) (square : Square) → is_listed listed square ≡ true → is_listed (listed ++ more) square ≡ true
still_listed listed more square is = list_any-append (is_same_square square) listed more ∙ ap (λ t. t || list_any (is_same_square square) more) is

-- the last one is listed
pub last_listed : (listed : List Square) (square : Square) → is_listed (listed ++ square ∷ []) square ≡ true
last_listed listed square =
    list_any-append (is_same_square square) listed (square ∷ []) ∙ ap (λ t. is_listed listed square || (t || false)) (same_self square) ∙ or_true (is_listed listed square)

or_nothing : (a b : Bool) → b ≡ false → (a || (b || false)) ≡ a
or_nothing true b e = refl
or_nothing false b e = ap (λ t. t || false) e

-- one that is not the last is listed if it was before
pub listed_before : (listed : List Square) (square other : Square) → is_same_square square other ≡ false → is_listed (listed ++ other ∷ []) square ≡ is_listed listed square
listed_before listed square other differs = list_any-append (is_same_square square) listed (other ∷ []) ∙ or_nothing (is_listed listed square) (is_same_square square other) differs

one_more-listed : (listed : List Square) (square : Square) → is_listed (one_more listed square) square ≡ true
one_more-listed listed square =
    elim (is_listed listed square) as (λ t. is_listed listed square ≡ t → is_listed (cond t listed (listed ++ square ∷ [])) square ≡ true) [
      | true ↦ λ is. is
      | false ↦ λ _. last_listed listed square
    ] refl

-- each square that was added is listed then
pub new_listed : (listed squares : List Square) → AllByRecursion (λ square. is_listed (with_new listed squares) square ≡ true) squares
unfolding with_new
new_listed listed [] = tt
new_listed listed (square ∷ squares) =
    let grown = with_new-grows (one_more listed square) squares in
    (ap (λ l. is_listed l square) grown.1 ∙ still_listed (one_more listed square) grown.0 square (one_more-listed listed square), new_listed (one_more listed square) squares)

-- squares that are all listed add nothing
pub nothing_new : (listed squares : List Square) → AllByRecursion (λ square. is_listed listed square ≡ true) squares → with_new listed squares ≡ listed
unfolding with_new
nothing_new listed [] all = refl
nothing_new listed (square ∷ squares) all =
    ap (λ t. with_new (cond t listed (listed ++ square ∷ [])) squares) all.0 ∙ nothing_new listed squares all.1

-- squares that were added add nothing again
pub nothing_again : (listed squares more : List Square) → with_new (with_new listed squares ++ more) squares ≡ with_new listed squares ++ more
nothing_again listed squares more =
    nothing_new (with_new listed squares ++ more) squares
    (AllByRecursion-weaker _ _ (λ square is. still_listed (with_new listed squares) more square is) squares (new_listed listed squares))

one_more-other : (listed : List Square) (square other : Square) → is_listed listed square ≡ false → is_same_square square other ≡ false → is_listed (one_more listed other) square ≡ false
one_more-other listed square other is differs =
    elim (is_listed listed other) as (λ t. is_listed (cond t listed (listed ++ other ∷ [])) square ≡ false) [
      | true ↦ is
      | false ↦ listed_before listed square other differs ∙ is
    ]

-- a square that is not listed, and is none of those that are added, is not listed then
pub not_new : (listed squares : List Square) (square : Square) → is_listed listed square ≡ false → AllByRecursion (λ other. is_same_square square other ≡ false) squares →
    is_listed (with_new listed squares) square ≡ false
unfolding with_new
not_new listed [] square is none = is
not_new listed (other ∷ squares) square is none = not_new (one_more listed other) squares square (one_more-other listed square other is none.0) none.1

-- ---- the first place of an element

-- an element that is there has its place with more behind
pub place-kept : {A : Type 0} (test : A → Bool) (all more : List A) → list_any test all ≡ true → position_or_len test (all ++ more) ≡ position_or_len test all
place-kept test [] more is = absurd (false≢true is)
place-kept test (first ∷ rest) more is =
    elim (test first) as (λ t. (t || list_any test rest) ≡ true → cond (not t) (1 + position_or_len test (rest ++ more)) 0 ≡ cond (not t) (1 + position_or_len test rest) 0) [
      | true ↦ λ _. refl
      | false ↦ λ later. ap (λ n. 1 + n) (place-kept test rest more later)
    ] is

-- an element that was not there has the place behind the others
pub place-new : {A : Type 0} (test : A → Bool) (all more : List A) (x : A) → list_any test all ≡ false → test x ≡ true → position_or_len test (all ++ x ∷ more) ≡ length all
place-new test [] more x is passes = ap (λ t. cond (not t) (1 + position_or_len test more) 0) passes
place-new test (first ∷ rest) more x is passes =
    elim (test first) as (λ t. (t || list_any test rest) ≡ false → cond (not t) (1 + position_or_len test (rest ++ x ∷ more)) 0 ≡ suc (length rest)) [
      | true ↦ λ no_other. absurd (false≢true (sym no_other))
      | false ↦ λ later. let at = place-new test rest more x later passes in omega (arith, at)
    ] is
