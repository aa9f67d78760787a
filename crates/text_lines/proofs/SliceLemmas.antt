-- The lines of a text are slices of it.
use Rattle.std.proofs.Common.{◌≡◌, ℕ, zero, suc, ◌<◌, ◌≤◌, ◌+◌, ◌-◌, Bool, true, false, cond, min, List, [], ◌∷◌, length, take, drop, refl, ap, sym, ◌∙◌, arith, subst, codes, ◌⊎◌, inl, inr}
use Rattle.std.specs.Prelude.{slice_range}
use Rattle.std.specs.List.{position_or_len}
use Rattle.std.proofs.lemmas.Bool.{cases_lt}
use Rattle.std.proofs.lemmas.List.{length-drop}
use Rattle.std.proofs.lemmas.List.Sums.{prefix_len-le-length}
use Rattle.text_lines.specs.Bytes.{ends_with}
use Rattle.text_lines.specs.Lines.{Line, StandIn, is_line_feed, lines, without_return}
use Rattle.text_lines.proofs.LineLemmas.{lines_at-first, lines_at-nil}

front_is : (k : ℕ) (rest : List ℕ) → take (length (take k rest)) rest ≡ take k rest
front_is zero rest = refl
front_is (suc k) [] = refl
front_is (suc k) (first ∷ rest) = ap (λ (more : List ℕ). first ∷ more) (front_is k rest)

front_of_front : (m n : ℕ) (rest : List ℕ) → (k : ℕ) × (take m (take n rest) ≡ take k rest)
front_of_front zero n rest = (zero, refl)
front_of_front (suc m) zero rest = (zero, refl)
front_of_front (suc m) (suc n) [] = (zero, refl)
front_of_front (suc m) (suc n) (first ∷ rest) =
    let h = front_of_front m n rest in (suc h.0, ap (λ (more : List ℕ). first ∷ more) h.1)

without_step : (b : Bool) (n : ℕ) (rest : List ℕ) → (k : ℕ) × (cond b (take (length (take n rest) - 1) (take n rest)) (take n rest) ≡ take k rest)
without_step true n rest = front_of_front (length (take n rest) - 1) n rest
without_step false n rest = (n, refl)

without_front : (n : ℕ) (rest : List ℕ) → (k : ℕ) × (without_return (take n rest) ≡ take k rest)
unfolding without_return
without_front n rest = without_step (ends_with (codes "\r") (take n rest)) n rest

slice_is : (source text : List ℕ) (at k : ℕ) → text ≡ take k (drop at source) → slice_range source at (at + length text) ≡ text
slice_is source text at k is =
    let size : at + length text - at ≡ length text = omega arith in
    ap (λ n. take n (drop at source)) (size ∙ ap length is) ∙ front_is k (drop at source) ∙ sym is

-- from any earlier place on
pub more_from : (source : List ℕ) (from less : ℕ) (all : List Line) → less ≤ from → StandIn source from all → StandIn source less all
more_from source from less [] low all = tt
more_from source from less (line ∷ rest) low all = let own = all.0 in (omega arith, all.1, all.2)

stand_step : (source : List ℕ) (from next : ℕ) (line : Line) (rest : List Line) → from ≡ line.place → from < next → slice_range source line.place (line.place + length line.text) ≡ line.text → StandIn source next rest → StandIn source from (line ∷ rest)
stand_step source from next line rest place low slice others = (omega arith, slice, more_from source next (line.place + 1) rest (omega arith) others)

next_lines : (fuel : ℕ) (source : List ℕ) (at : ℕ) → length (drop at source) ≤ suc fuel → (0 < length (drop at source)) ⊎ (length (drop at source) ≤ 0) →
    ((more : ℕ) → length (drop more source) ≤ fuel → StandIn source more (lines more (drop more source))) → StandIn source at (lines at (drop at source))
next_lines fuel source at short (inl some) later =
    let rest = drop at source in
    let n = position_or_len is_line_feed rest in
    let step = min (n + 1) (length rest) in
    let within : n ≤ length rest = prefix_len-le-length _ rest in
    let k = without_front n rest in
    let left : length (drop (at + step) source) ≤ fuel = simp length-drop (omega (arith, length-drop at source)) in
    subst (StandIn source at) (sym (lines_at-first source rest (without_return (take n rest)) at n step refl some refl within refl refl))
    (stand_step source at (at + step) (record { place = at; text = without_return (take n rest) }) (lines (at + step) (drop (at + step) source)) refl (omega arith)
    (slice_is source (without_return (take n rest)) at k.0 k.1) (later (at + step) left))
next_lines fuel source at short (inr none) later =
    subst (StandIn source at) (sym (lines_at-nil source (drop at source) at refl (omega arith))) tt

lines_stand : (fuel : ℕ) (source : List ℕ) (at : ℕ) → length (drop at source) ≤ fuel → StandIn source at (lines at (drop at source))
lines_stand zero source at short = subst (StandIn source at) (sym (lines_at-nil source (drop at source) at refl (omega arith))) tt
lines_stand (suc fuel) source at short =
    next_lines fuel source at short (cases_lt 0 (length (drop at source))) (λ more less. lines_stand fuel source more less)

-- the lines of a text stand in it
pub all_lines_stand : (text : List ℕ) → StandIn text 0 (lines 0 text)
all_lines_stand text = lines_stand (length text) text 0 (omega arith)
