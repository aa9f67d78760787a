-- The lines of the front of a text, up to where one of its lines begins.
use Rattle.std.proofs.Common.{◌≡◌, ℕ, zero, suc, ◌<◌, ◌≤◌, ◌+◌, Bool, true, false, not, cond, min, List, [], ◌∷◌, length, take, drop, refl, ap, sym, ◌∙◌, arith, ◌⊎◌, inl, inr}
use Rattle.std.specs.List.{position_or_len}
use Rattle.std.proofs.lemmas.Bool.{cases_lt}
use Rattle.std.proofs.lemmas.List.{drop-take, length-drop, length-take-le, nil_from_length}
use Rattle.std.proofs.lemmas.List.Sums.{prefix_len-le-length}
use Rattle.text_lines.specs.Lines.{Line, is_line_feed, lines, lines_from, without_return}
use Rattle.text_lines.proofs.LineLemmas.{lines-first, lines-nil}

take-front : (n m : ℕ) (text : List ℕ) → n ≤ m → take n (take m text) ≡ take n text
take-front zero m text less = refl
take-front (suc n) zero text less = absurd (omega arith)
take-front (suc n) (suc m) [] less = refl
take-front (suc n) (suc m) (first ∷ rest) less = ap (λ (more : List ℕ). first ∷ more) (take-front n m rest (omega arith))

same_step : (b : Bool) (n k m : ℕ) → (b ≡ false → n < m → k ≡ n) → cond (not b) (1 + n) 0 < suc m → cond (not b) (1 + k) 0 ≡ cond (not b) (1 + n) 0
same_step true n k m later below = refl
same_step false n k m later below = ap (λ l. 1 + l) (later refl (omega arith))

-- a front that reaches beyond the first byte that passes has the same first byte that passes
position_or_len-take : (test : ℕ → Bool) (text : List ℕ) (m : ℕ) → position_or_len test text < m → position_or_len test (take m text) ≡ position_or_len test text
position_or_len-take test text zero below = absurd (omega arith)
position_or_len-take test [] (suc m) below = refl
position_or_len-take test (first ∷ rest) (suc m) below =
    same_step (test first) (position_or_len test rest) (position_or_len test (take m rest)) m
    (λ other less. position_or_len-take test rest m less) below

-- in a text that begins at this place the line begins, and the text up to there has so many lines
record BeginsAfter (place : ℕ) (text : List ℕ) (count : ℕ) (line : Line) : Type 0 where
  size : ℕ
  begins : line.place ≡ place + size
  within : size ≤ length text
  front : lines place (take size text) ≡ take count (lines place text)

no_line : (count : ℕ) (line : Line) (after : List Line) → drop count [] ≡ line ∷ after → ⊥
no_line zero line after found = cc
no_line (suc count) line after found = cc

no_line_of : (count place : ℕ) (text : List ℕ) (line : Line) (after : List Line) → length text ≤ 0 → drop count (lines place text) ≡ line ∷ after → ⊥
no_line_of count place text line after empty found =
    no_line count line after (sym (ap (drop count) (ap (lines place) (nil_from_length text (omega arith)) ∙ lines-nil place)) ∙ found)

module _ (place : ℕ) (text : List ℕ) (some : 0 < length text) where
  abbrev first_length : ℕ
  first_length = position_or_len is_line_feed text

  abbrev first_line : Line
  first_line = record { place = place; text = without_return (take first_length text) }

  -- how far the second line begins behind the first
  abbrev step : ℕ
  step = min (first_length + 1) (length text)

  first_within : first_length ≤ length text
  first_within = prefix_len-le-length _ text

  first_is : lines place text ≡ first_line ∷ lines (place + step) (drop step text)
  first_is = lines-first place text first_length step some refl first_within refl

  -- a front beyond the first line has that line too
  front_first : (size : ℕ) → first_length < length text → step + size ≤ length text → lines place (take (step + size) text) ≡ first_line ∷ lines (place + step) (take size (drop step text))
  front_first size below within =
      let long : length (take (step + size) text) ≡ step + size = length-take-le (step + size) text within in
      let feed : position_or_len is_line_feed (take (step + size) text) ≡ first_length = position_or_len-take is_line_feed text (step + size) (omega arith) in
      lines-first place (take (step + size) text) first_length step (omega arith) (sym feed) (omega arith) (omega arith)
      ∙ ap (λ t. record { place = place; text = without_return t } ∷ lines (place + step) (drop step (take (step + size) text))) (take-front first_length (step + size) text (omega arith))
      ∙ ap (λ rest. first_line ∷ lines (place + step) rest) (drop-take step size text)

  module _ (line : Line) where
    at_first : (after : List Line) → lines place text ≡ line ∷ after → BeginsAfter place text 0 line
    at_first after found =
        let same : first_line ∷ lines (place + step) (drop step text) ≡ line ∷ after = sym first_is ∙ found in
        let place_is : line.place ≡ place = cc in
        record { size = 0; begins = omega arith; within = omega arith; front = lines-nil place }

    later_is : (count : ℕ) (after : List Line) → drop (suc count) (lines place text) ≡ line ∷ after → drop count (lines (place + step) (drop step text)) ≡ line ∷ after
    later_is count after found = sym (ap (drop (suc count)) first_is) ∙ found

    at_later : (count : ℕ) → 0 < length (drop step text) → BeginsAfter (place + step) (drop step text) count line → BeginsAfter place text (suc count) line
    at_later count more later =
        let below : first_length < length text = omega (arith, more, length-drop step text) in
        let within : step + later.size ≤ length text = omega (arith, later.within, length-drop step text) in
        record {
          size = step + later.size;
          begins = omega (arith, later.begins);
          within = within;
          front = front_first later.size below within ∙ ap (λ (rest : List Line). first_line ∷ rest) later.front ∙ sym (ap (take (suc count)) first_is);
        }

-- a line behind so many others begins after these
begins_after : (count place : ℕ) (text : List ℕ) (line : Line) (after : List Line) → drop count (lines place text) ≡ line ∷ after → BeginsAfter place text count line
begins_after count place text line after found = go count place text found (cases_lt 0 (length text))
  where
    go : (count place : ℕ) (text : List ℕ) → drop count (lines place text) ≡ line ∷ after → (0 < length text) ⊎ (length text ≤ 0) → BeginsAfter place text count line
    go count place text found (inr empty) = absurd (no_line_of count place text line after empty found)
    go zero place text found (inl some) = at_first place text some line after found
    go (suc count) place text found (inl some) =
        let next = step place text some in
        let found_later = later_is place text some line count after found in
        elim (cases_lt 0 (length (drop next text))) [
          | inl more ↦ at_later place text some line count more (go count (place + next) (drop next text) found_later (inl more))
          | inr empty ↦ absurd (no_line_of count (place + next) (drop next text) line after empty found_later)
        ]

-- where a line of a source begins, and the lines before it are those of the source up to there
module _ (source : List ℕ) (count : ℕ) (line : Line) (after : List Line) (found : drop count (lines_from source 0) ≡ line ∷ after) where
  before : BeginsAfter 0 source count line
  before = begins_after count 0 source line after found

  pub line_begins_within : line.place ≤ length source
  line_begins_within = omega (arith, before.begins, before.within)

  pub lines_before : lines_from (take line.place source) 0 ≡ take count (lines_from source 0)
  lines_before =
      let size_is : line.place ≡ before.size = omega (arith, before.begins) in
      ap (λ size. lines_from (take size source) 0) size_is ∙ before.front
