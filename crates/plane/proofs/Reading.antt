-- What a read from the front of some bytes does.
use Rattle.std.proofs.Common.{◌≡◌, ℕ, ◌+◌, ◌<◌, ◌≤◌, List, [], ◌++◌, length, take, drop, min, sym, ◌∙◌, ap, arith}
use Rattle.std.proofs.Common.{length-take, length-drop, length-append}
use Rattle.std.proofs.Math.Seq.{take-add}
use Rattle.std.proofs.lemmas.List.{take-append-drop, drop-drop, nil_from_length, take_at}

front_again : (rest buffer : List ℕ) (n : ℕ) → n ≤ length rest → take n (take n rest ++ drop n buffer) ≡ take n rest
front_again rest buffer n within = take_at (take n rest) (drop n buffer) n (omega (arith, length-take n rest))

-- the rest is what was read and what is left, and none was read only at the end or with no room
pub read_front : (bytes rest buffer new : List ℕ) (p n : ℕ) →
    rest ≡ drop p bytes → n ≡ min (length rest) (length buffer) → new ≡ take n rest ++ drop n buffer →
    (drop p bytes ≡ take n new ++ drop (p + n) bytes) × (n ≡ 0 → 0 < length new → drop (p + n) bytes ≡ [])
read_front bytes rest buffer new p n from is copied =
    let left : drop n rest ≡ drop (p + n) bytes = ap (drop n) from ∙ drop-drop n p bytes in
    let front : take n new ≡ take n rest = ap (take n) copied ∙ front_again rest buffer n (omega arith) in (
      sym from ∙ sym (take-append-drop n rest) ∙ ap (λ l. l ++ drop n rest) (sym front) ∙ ap (λ l. take n new ++ l) left,
      λ none room. nil_from_length (drop (p + n) bytes)
          (omega (arith, ap length from, ap length copied, length-drop p bytes, length-drop (p + n) bytes, length-append (take n rest) (drop n buffer), length-take n rest, length-drop n buffer)),
    )

-- what was given is what was given before, and then what was read
pub given_front : (bytes rest buffer new : List ℕ) (p n : ℕ) →
    rest ≡ drop p bytes → n ≡ min (length rest) (length buffer) → new ≡ take n rest ++ drop n buffer →
    take (p + n) bytes ≡ take p bytes ++ take n new
given_front bytes rest buffer new p n from is copied =
    take-add p n bytes ∙ ap (λ l. take p bytes ++ l) (ap (take n) (sym from) ∙ sym (front_again rest buffer n (omega arith)) ∙ ap (take n) (sym copied))
