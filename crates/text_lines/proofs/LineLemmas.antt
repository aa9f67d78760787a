-- The first line of a text, and the lines after it.
use Rattle.std.proofs.Common.{◌≡◌, ℕ, zero, suc, ◌<◌, ◌≤◌, ◌+◌, Bool, true, false, not, cond, min, List, [], ◌∷◌, length, take, drop, get_or, Option, Some, None, unwrap_or, refl, ap, sym, ◌∙◌, arith, one-add, ◌⊎◌, inl, inr}
use Rattle.std.proofs.lemmas.Bool.{cases_lt}
use Rattle.std.specs.List.{position_or_len, onto_first}
use Rattle.std.proofs.lemmas.List.{drop_all, drop-drop, length-take-le, nil_from_length}
use Rattle.memchr.specs.Find.{IsFirstByte}
use Rattle.text_lines.specs.Bytes.{ended_parts}
use Rattle.text_lines.specs.Lines.{Line, is_line_feed, raw_lines, placed_lines, lines, lines_from, without_return}

first_place_step : (b : Bool) (n k : ℕ) → b ≡ false → n ≡ k → cond (not b) (1 + n) 0 ≡ suc k
first_place_step true n k no_pass same = cc
first_place_step false n k no_pass same = omega arith

-- the place before which none passes, and at which one does unless it is the end
pub first_place : (test : ℕ → Bool) (text : List ℕ) (k : ℕ) → k ≤ length text → ((j : ℕ) → j < k → test (get_or text j 0) ≡ false) → (k < length text → test (get_or text k 0) ≡ true) → position_or_len test text ≡ k
first_place test [] zero within before at = refl
first_place test [] (suc k) within before at = absurd (omega arith)
first_place test (first ∷ rest) zero within before at = ap (λ b. cond (not b) (1 + position_or_len test rest) 0) (at (omega arith))
first_place test (first ∷ rest) (suc k) within before at =
    first_place_step (test first) (position_or_len test rest) k (before 0 (omega arith))
    (first_place test rest k (omega arith) (λ j below. before (suc j) (omega arith)) (λ below. at (omega arith)))

not_true : (b : Bool) → (b ≡ true → ⊥) → b ≡ false
not_true true no_pass = absurd (no_pass refl)
not_true false no_pass = refl

-- what a search for a byte found, as a place that may be the end
pub first_byte : (test : ℕ → Bool) (text : List ℕ) (found : Option ℕ) → IsFirstByte test text found → unwrap_or found (length text) ≡ position_or_len test text
first_byte test text None h =
    sym (first_place test text (length text) (omega arith) (λ j below. not_true _ (h j (omega arith) below)) (λ below. absurd (omega arith)))
first_byte test text (Some k) h =
    let high = h.0.high in
    sym (first_place test text k (omega arith) (λ j below. not_true _ (h.0.before j (omega arith) below)) (λ below. h.1))

raw_lines_step : (b : Bool) (first : ℕ) (rest : List ℕ) (n : ℕ) → raw_lines rest ≡ take n rest ∷ raw_lines (drop (suc n) rest) →
    cond b ([] ∷ raw_lines rest) (onto_first first (raw_lines rest)) ≡ take (cond (not b) (1 + n) 0) (first ∷ rest) ∷ raw_lines (drop (suc (cond (not b) (1 + n) 0)) (first ∷ rest))
raw_lines_step true first rest n h = refl
raw_lines_step false first rest n h = rw (h, one-add) refl

raw_lines_last : (b : Bool) (first : ℕ) → cond b ([] ∷ []) (onto_first first []) ≡ take (cond (not b) (1 + 0) 0) (first ∷ []) ∷ []
raw_lines_last true first = refl
raw_lines_last false first = refl

raw_lines-nil : raw_lines [] ≡ []
unfolding ended_parts
raw_lines-nil = refl

raw_lines_past : (n : ℕ) (text : List ℕ) → length text ≤ n → raw_lines (drop n text) ≡ []
raw_lines_past n text past = ap raw_lines (drop_all n text past) ∙ raw_lines-nil

-- the first line ends at the first LF, or at the end
pub raw_lines-first : (text : List ℕ) → 0 < length text → raw_lines text ≡ take (position_or_len is_line_feed text) text ∷ raw_lines (drop (suc (position_or_len is_line_feed text)) text)
unfolding ended_parts
raw_lines-first [] some = absurd (omega arith)
raw_lines-first (first ∷ []) some =
    raw_lines_last (is_line_feed first) first
    ∙ ap (λ rest. take (position_or_len is_line_feed (first ∷ [])) (first ∷ []) ∷ rest) (sym (raw_lines_past (suc (position_or_len is_line_feed (first ∷ []))) (first ∷ []) (omega arith)))
raw_lines-first (first ∷ second ∷ rest) some =
    raw_lines_step (is_line_feed first) first (second ∷ rest) (position_or_len is_line_feed (second ∷ rest)) (raw_lines-first (second ∷ rest) (omega arith))

pub lines-nil : (place : ℕ) → lines place [] ≡ []
unfolding placed_lines ended_parts
lines-nil place = refl

placed_lines-nil : (place : ℕ) → placed_lines place [] ≡ []
unfolding placed_lines
placed_lines-nil place = refl

pub placed_lines-cons : (place : ℕ) (text : List ℕ) (texts : List (List ℕ)) → placed_lines place (text ∷ texts) ≡ record { place = place; text = without_return text } ∷ placed_lines (place + length text + 1) texts
unfolding placed_lines
placed_lines-cons place text texts = refl

-- the first line of what is left, and the lines of what is left then
pub lines-first : (place : ℕ) (rest : List ℕ) (n step : ℕ) → 0 < length rest → n ≡ position_or_len is_line_feed rest → n ≤ length rest → step ≡ min (n + 1) (length rest) →
    lines place rest ≡ record { place = place; text = without_return (take n rest) } ∷ lines (place + step) (drop step rest)
lines-first place rest n step some is within far =
    ap (placed_lines place) (raw_lines-first rest some ∙ ap (λ m. take m rest ∷ raw_lines (drop (suc m) rest)) (sym is))
    ∙ placed_lines-cons place (take n rest) (raw_lines (drop (suc n) rest))
    ∙ ap (λ later. record { place = place; text = without_return (take n rest) } ∷ later) (later_lines (cases_lt n (length rest)))
  where
    later_lines : (n < length rest) ⊎ (length rest ≤ n) → placed_lines (place + length (take n rest) + 1) (raw_lines (drop (suc n) rest)) ≡ lines (place + step) (drop step rest)
    later_lines (inl below) =
        let length_is : length (take n rest) ≡ n = length-take-le n rest within in
        let place_is : place + length (take n rest) + 1 ≡ place + step = omega arith in
        let step_is : suc n ≡ step = omega arith in
        ap (λ at. placed_lines at (raw_lines (drop (suc n) rest))) place_is
        ∙ ap (λ m. placed_lines (place + step) (raw_lines (drop m rest))) step_is
    later_lines (inr past) =
        ap (placed_lines (place + length (take n rest) + 1)) (raw_lines_past (suc n) rest (omega arith))
        ∙ placed_lines-nil (place + length (take n rest) + 1) ∙ sym (placed_lines-nil (place + step))
        ∙ ap (placed_lines (place + step)) (sym (raw_lines_past step rest (omega arith)))

-- the same of what is left of a source from a place on
pub lines_at-first : (source rest text : List ℕ) (at n step : ℕ) → rest ≡ drop at source → 0 < length rest → n ≡ position_or_len is_line_feed rest → n ≤ length rest → step ≡ min (n + 1) (length rest) → text ≡ without_return (take n rest) →
    lines at (drop at source) ≡ record { place = at; text = text } ∷ lines (at + step) (drop (at + step) source)
lines_at-first source rest text at n step left some is within far text_is =
    ap (lines at) (sym left)
    ∙ lines-first at rest n step some is within far
    ∙ ap (λ t. record { place = at; text = t } ∷ lines (at + step) (drop step rest)) (sym text_is)
    ∙ ap (λ l. record { place = at; text = text } ∷ lines (at + step) l) (ap (drop step) left ∙ drop-drop step at source)

pub lines_at-nil : (source rest : List ℕ) (at : ℕ) → rest ≡ drop at source → length rest ≡ 0 → lines at (drop at source) ≡ []
lines_at-nil source rest at left empty = ap (lines at) (sym left ∙ nil_from_length rest empty) ∙ lines-nil at

-- the next line, said of the source
pub lines_of_source : (source before after : List ℕ) (at next : ℕ) (line : Line) → before ≡ source → after ≡ before → lines_from before at ≡ line ∷ lines_from after next → lines_from source at ≡ line ∷ lines_from source next
lines_of_source source before after at next line before_is after_is found =
    ap (λ s. lines_from s at) (sym before_is) ∙ found ∙ ap (λ s. line ∷ lines_from s next) (after_is ∙ before_is)

pub no_lines_of_source : (source before : List ℕ) (at : ℕ) → before ≡ source → lines_from before at ≡ [] → lines_from source at ≡ []
no_lines_of_source source before at before_is found = ap (λ s. lines_from s at) (sym before_is) ∙ found
