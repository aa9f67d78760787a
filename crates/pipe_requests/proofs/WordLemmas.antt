-- The words of a text, by its first blank.
use Rattle.std.proofs.Common.{◌≡◌, ℕ, suc, ◌+◌, ◌||◌, Bool, true, false, not, cond, nat_lt, if◌then◌else◌, List, [], ◌∷◌, length, take, drop, Some, None, refl, ap, ◌∙◌, arith}
use Rattle.std.proofs.lemmas.List.{take_rest}
use Rattle.std.proofs.lemmas.Bool.Decides.{nat_tests}
use Rattle.std.specs.List.{list_any, position, position_or_len, before_first, after_first}
use Rattle.text_lines.specs.Bytes.{is_byte}
use Rattle.pipe_requests.specs.Words.{begun_with, words}

whole_on : (b any : Bool) (byte : ℕ) (rest : List ℕ) (others : List (List ℕ)) → (b || any) ≡ false → (any ≡ false → others ≡ rest ∷ [])
    → (if b then ([] ∷ others) else begun_with byte others) ≡ (byte ∷ rest) ∷ []
whole_on true any byte rest others none ih = cc
whole_on false any byte rest others none ih = ap (begun_with byte) (ih none)

-- a text without a blank is one word
pub words_whole : (text : List ℕ) → list_any (is_byte 32) text ≡ false → words text ≡ text ∷ []
unfolding words
words_whole [] none = refl
words_whole (byte ∷ rest) none = whole_on (is_byte 32 byte) (list_any (is_byte 32) rest) byte rest (words rest) none (words_whole rest)

cut_behind : (byte m place after : ℕ) (rest : List ℕ) (others : List (List ℕ)) → place ≡ suc m → after ≡ suc (m + 1)
    → others ≡ take m rest ∷ words (drop (m + 1) rest) → begun_with byte others ≡ take place (byte ∷ rest) ∷ words (drop after (byte ∷ rest))
cut_behind byte m place after rest others at behind ih = rw at (rw behind (ap (begun_with byte) ih))

cut_on : (b any : Bool) (byte m : ℕ) (rest : List ℕ) (others : List (List ℕ)) → (b || any) ≡ true → others ≡ words rest
    → (any ≡ true → others ≡ take m rest ∷ words (drop (m + 1) rest))
    → (if b then ([] ∷ others) else begun_with byte others)
    ≡ take (cond (not b) (1 + m) 0) (byte ∷ rest) ∷ words (drop (cond (not b) (1 + m) 0 + 1) (byte ∷ rest))
cut_on true any byte m rest others some same ih = ap (λ it. [] ∷ it) same
cut_on false any byte m rest others some same ih = cut_behind byte m (1 + m) (1 + m + 1) rest others (omega arith) (omega arith) (ih some)

-- the first word stands before the first blank, and the others behind it
pub words_cut : (text : List ℕ) → list_any (is_byte 32) text ≡ true
    → words text ≡ before_first (is_byte 32) text ∷ words (after_first (is_byte 32) text)
unfolding words
words_cut [] some = cc
words_cut (byte ∷ rest) some =
    cut_on (is_byte 32 byte) (list_any (is_byte 32) rest) byte (position_or_len (is_byte 32) rest) rest (words rest) some refl (words_cut rest)

some_on : (b : Bool) (byte : ℕ) (others : List (List ℕ)) → length (if b then ([] ∷ others) else begun_with byte others) ≡ 0 → ⊥
some_on true byte others h = grind arith
some_on false byte [] h = grind arith
some_on false byte (word ∷ others) h = grind arith

-- a text has a word
pub words_some : (text : List ℕ) → length (words text) ≡ 0 → ⊥
unfolding words
words_some [] h = grind arith
words_some (byte ∷ rest) h = some_on (is_byte 32 byte) byte (words rest) h

-- ---- the place of the first blank

next_place : (b any : Bool) (m n : ℕ) → any ≡ nat_lt m n → (b || any) ≡ nat_lt (cond (not b) (1 + m) 0) (suc n)
next_place true any m n h = grind (arith, nat_tests)
next_place false any m n h = grind (arith, nat_tests)

any_by_place : (test : ℕ → Bool) (text : List ℕ) → list_any test text ≡ nat_lt (position_or_len test text) (length text)
any_by_place test [] = refl
any_by_place test (first ∷ rest) = next_place (test first) (list_any test rest) (position_or_len test rest) (length rest) (any_by_place test rest)

place_none : (any : Bool) (at : ℕ) → cond any (Some at) None ≡ None → any ≡ false
place_none true at h = cc
place_none false at h = refl

place_some : (any : Bool) (first at : ℕ) → cond any (Some first) None ≡ Some at → (any ≡ true) × (first ≡ at)
place_some true first at h = (refl, cc)
place_some false first at h = cc

pub words_without : (text : List ℕ) → position (is_byte 32) text ≡ None → words text ≡ text ∷ []
words_without text none = words_whole text (any_by_place (is_byte 32) text ∙ place_none _ _ none)

pub words_at : (text : List ℕ) (at : ℕ) → position (is_byte 32) text ≡ Some at → words text ≡ take at text ∷ words (drop (at + 1) text)
words_at text at some =
    let h = place_some (nat_lt (position_or_len (is_byte 32) text) (length text)) (position_or_len (is_byte 32) text) at some in
    let found : list_any (is_byte 32) text ≡ true = any_by_place (is_byte 32) text ∙ h.0 in
    words_cut text found ∙ ap (λ place. take place text ∷ words (drop (place + 1) text)) h.1

pub ruleset words_by_blank = (words_without, words_at, take_rest)
