-- A text on both sides of its first byte that passes a test.
use Rattle.std.proofs.Common.{◌≡◌, ℕ, suc, ◌+◌, ◌||◌, Bool, true, false, not, cond, nat_lt, List, [], ◌∷◌, length, Some, None, refl, sym, ◌∙◌, arith}
use Rattle.std.specs.List.{list_any, position, position_or_len, before_first, after_first}
use Rattle.std.proofs.lemmas.List.{take_rest, take_all, drop_all}
use Rattle.std.proofs.lemmas.Bool.Decides.{nat_tests}

next_place : (b any : Bool) (m n : ℕ) → any ≡ nat_lt m n → (b || any) ≡ nat_lt (cond (not b) (1 + m) 0) (suc n)
next_place true any m n h = grind (arith, nat_tests)
next_place false any m n h = grind (arith, nat_tests)

-- an element passes exactly if the first place is one of the list's
pub list_any-position : (test : ℕ → Bool) (text : List ℕ) → list_any test text ≡ nat_lt (position_or_len test text) (length text)
list_any-position test [] = refl
list_any-position test (first ∷ rest) = next_place (test first) (list_any test rest) (position_or_len test rest) (length rest) (list_any-position test rest)

place_none : (any : Bool) (at : ℕ) → cond any (Some at) None ≡ None → any ≡ false
place_none true at h = cc
place_none false at h = refl

place_some : (any : Bool) (first at : ℕ) → cond any (Some first) None ≡ Some at → (any ≡ true) × (first ≡ at)
place_some true first at h = (refl, cc)
place_some false first at h = cc

pub position-none : (test : ℕ → Bool) (text : List ℕ) → position test text ≡ None → list_any test text ≡ false
position-none test text none = list_any-position test text ∙ place_none _ _ none

pub position-some : (test : ℕ → Bool) (text : List ℕ) (at : ℕ) → position test text ≡ Some at → (list_any test text ≡ true) × (position_or_len test text ≡ at)
position-some test text at some =
    let h = place_some (nat_lt (position_or_len test text) (length text)) (position_or_len test text) at some in
    (list_any-position test text ∙ h.0, h.1)

pub ruleset first_places = (position-none, position-some, take_rest)

-- where none passes, all stands before and nothing after
pub before_first-none : (test : ℕ → Bool) (text : List ℕ) → list_any test text ≡ false → before_first test text ≡ text
before_first-none test text none =
    let past : nat_lt (position_or_len test text) (length text) ≡ false = sym (list_any-position test text) ∙ none in
    take_all (position_or_len test text) text (grind (arith, nat_tests))

pub after_first-none : (test : ℕ → Bool) (text : List ℕ) → list_any test text ≡ false → after_first test text ≡ []
after_first-none test text none =
    let past : nat_lt (position_or_len test text) (length text) ≡ false = sym (list_any-position test text) ∙ none in
    drop_all (position_or_len test text + 1) text (grind (arith, nat_tests))
