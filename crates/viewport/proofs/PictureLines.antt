-- A picture's lines and marks, one after the other.
use Rattle.std.proofs.Common.{◌≡◌, ℕ, zero, suc, ◌+◌, ◌-◌, ◌<◌, ℤ, pos, ◌+ℤ◌, List, [], ◌∷◌, ◌++◌, length, take, slice_set, refl, sym, ◌∙◌, ap, subst, arith, suc-add, zero-add}
use Rattle.std.specs.Io.KnownBytes.{Appends}
use Rattle.std.specs.List.{flat_map}
use Rattle.std.specs.Prelude.{Option}
use Rattle.std.proofs.KnownBytes.{Appends-nil, Appends-trans}
use Rattle.std.proofs.lemmas.Int.{ints}
use Rattle.std.proofs.lemmas.Grind.{flat_map-append}
use Rattle.std.proofs.lemmas.List.{append-nil, length-set, take_all, take_more_set}
use Rattle.plane.specs.Device.{AppendsBeginning}
use Rattle.plane.proofs.Beginnings.{beginning_as, beginning_of_more, text_and_beginning}
use Rattle.viewport.specs.Picture.{coordinates}

nothing_on : (first : ℤ) → first +ℤ pos 0 ≡ first
nothing_on first = omega (arith, ints)

one_on : (first : ℤ) (n : ℕ) → (first +ℤ pos 1) +ℤ pos n ≡ first +ℤ pos (suc n)
one_on first n = omega (arith, ints)

-- so many coordinates, and more behind them
coordinates-add : (first : ℤ) (n more : ℕ) → coordinates first (n + more) ≡ coordinates first n ++ coordinates (first +ℤ pos n) more
unfolding coordinates
coordinates-add first zero more = ap (coordinates first) (zero-add more) ∙ ap (λ z. coordinates z more) (sym (nothing_on first))
coordinates-add first (suc n) more =
    ap (coordinates first) (suc-add n more) ∙ ap (λ zs. first ∷ zs) (coordinates-add (first +ℤ pos 1) n more)
    ∙ ap (λ z. (first ∷ coordinates (first +ℤ pos 1) n) ++ coordinates z more) (one_on first n)

-- what is drawn of them
drawn-add : (draw : ℤ → List ℕ) (first : ℤ) (n more : ℕ) →
    flat_map draw (coordinates first (n + more)) ≡ flat_map draw (coordinates first n) ++ flat_map draw (coordinates (first +ℤ pos n) more)
drawn-add draw first n more =
    ap (flat_map draw) (coordinates-add first n more) ∙ flat_map-append draw (coordinates first n) (coordinates (first +ℤ pos n) more)

-- what is drawn of one coordinate more
pub drawn-suc : (draw : ℤ → List ℕ) (first : ℤ) (n : ℕ) →
    flat_map draw (coordinates first (n + 1)) ≡ flat_map draw (coordinates first n) ++ draw (first +ℤ pos n)
unfolding coordinates
drawn-suc draw first n =
    drawn-add draw first n 1 ∙ ap (λ end. flat_map draw (coordinates first n) ++ end) (append-nil (draw (first +ℤ pos n)))

pub none_drawn : (draw : ℤ → List ℕ) (first : ℤ) → flat_map draw (coordinates first 0) ≡ []
unfolding coordinates
none_drawn draw first = refl

-- a line whose last byte is put behind what was drawn
pub ended : (line drawn : List ℕ) (n b : ℕ) → length line ≡ n + 1 → take n line ≡ drawn → slice_set line n b ≡ drawn ++ b ∷ []
ended line drawn n b long e =
    sym (take_all (n + 1) (slice_set line n b) (omega (arith, long, length-set {A = ℕ}))) ∙ take_more_set line n b (omega (arith, long)) ∙ ap (λ s. s ++ b ∷ []) e

-- one more mark
pub marked : (draw : ℤ → List ℕ) (first : ℤ) (line : List ℕ) (n b : ℕ) → n < length line → take n line ≡ flat_map draw (coordinates first n) → b ∷ [] ≡ draw (first +ℤ pos n) →
    take (n + 1) (slice_set line n b) ≡ flat_map draw (coordinates first (n + 1))
marked draw first line n b low e f =
    take_more_set line n b low ∙ ap (λ s. s ++ b ∷ []) e ∙ ap (λ s. flat_map draw (coordinates first n) ++ s) f ∙ sym (drawn-suc draw first n)

-- one more line
pub written_on : (draw : ℤ → List ℕ) (first : ℤ) (n : ℕ) (before middle after : Option (List ℕ)) (line : List ℕ) → line ≡ draw (first +ℤ pos n) →
    Appends before middle (flat_map draw (coordinates first n)) → Appends middle after line → Appends before after (flat_map draw (coordinates first (n + 1)))
written_on draw first n before middle after line e so_far more =
    subst (Appends before after) (ap (λ s. flat_map draw (coordinates first n) ++ s) e ∙ sym (drawn-suc draw first n))
    (Appends-trans before middle after (flat_map draw (coordinates first n)) line so_far more)

pub nothing_written : (draw : ℤ → List ℕ) (first : ℤ) (before : Option (List ℕ)) → Appends before before (flat_map draw (coordinates first 0))
nothing_written draw first before = subst (Appends before before) (sym (none_drawn draw first)) (Appends-nil before)

-- lines, and a beginning of one more, begin the lines of a higher picture
pub broken_off : (draw : ℤ → List ℕ) (first : ℤ) (n height : ℕ) {before middle after : Option (List ℕ)} {line : List ℕ} → n < height → line ≡ draw (first +ℤ pos n) →
    Appends before middle (flat_map draw (coordinates first n)) → AppendsBeginning middle after line → AppendsBeginning before after (flat_map draw (coordinates first height))
broken_off draw first n height {line = line} inside e so_far begun =
    let below = height - (n + 1) in
    let rest = flat_map draw (coordinates (first +ℤ pos (n + 1)) below) in
    let all : (n + 1) + below ≡ height = omega arith in
    let upper : flat_map draw (coordinates first n) ++ line ≡ flat_map draw (coordinates first (n + 1)) = ap (λ l. flat_map draw (coordinates first n) ++ l) e ∙ sym (drawn-suc draw first n) in
    beginning_as (ap (λ l. l ++ rest) upper ∙ sym (drawn-add draw first (n + 1) below) ∙ ap (λ m. flat_map draw (coordinates first m)) all)
    (beginning_of_more rest (text_and_beginning (flat_map draw (coordinates first n)) so_far begun))
