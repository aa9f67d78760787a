-- How a text is judged, by its format.
use Rattle.std.proofs.Common.{◌≡◌, ◌⊎◌, true, false, List, ℕ, Err, refl, inl, inr, ◌∙◌, ap}
use Rattle.macrocell_reader.specs.Meaning as macrocell
use Rattle.macrocell_reader.specs.Planes.{as_pattern, pattern_in}
use Rattle.plane.specs.declared.fault.Fault.{Fault}
use Rattle.rle_reader.specs.Meaning as rle
use Rattle.text_lines.specs.Meaning.{seen_as}
use Rattle.pattern_files.specs.Meaning.{is_macrocell, judged}

pub judged_macrocell : (text : List ℕ) → is_macrocell text ≡ true → judged text ≡ pattern_in text
unfolding judged
judged_macrocell text is = rw is refl

pub judged_rle : (text : List ℕ) → is_macrocell text ≡ false → judged text ≡ rle.pattern_in text
unfolding judged
judged_rle text is = rw is refl

-- where a macrocell file is not opened, its text is refused, or memory ran out
pub macrocell_refused : (text : List ℕ) (fault memory : Fault) → is_macrocell text ≡ true → (macrocell.judged text ≡ Err fault) ⊎ (fault ≡ memory) →
    (judged text ≡ Err fault) ⊎ ((is_macrocell text ≡ true) × (fault ≡ memory))
macrocell_refused text fault memory is (inl refused) = inl (judged_macrocell text is ∙ ap (seen_as as_pattern) refused)
macrocell_refused text fault memory is (inr memory_is) = inr (is, memory_is)
