-- What a text means, from its preamble and its items.
use Rattle.std.proofs.Common.{◌≡◌, ℕ, true, List, length, None, Some, Result, Ok, Err, refl, ap, sym, ◌∙◌}
use Rattle.plane.specs.declared.fault.Fault.{Fault}
use Rattle.rle_reader.specs.Body.{stripped, stripped_from}
use Rattle.text_lines.specs.Faults.{unless, ◌>>=◌}
use Rattle.rle_reader.specs.Items.{items_of}
use Rattle.text_lines.specs.Lines.{lines_from}
use Rattle.rle_reader.specs.Meaning.{Meaning, judged, body_fault, meaning_of}
use Rattle.rle_reader.specs.Preamble.{PreambleMeaning, preamble_of}
use Rattle.rle_reader.specs.Seen.{preamble_meaning}
use Rattle.rle_reader.specs.declared.preamble.Preamble.{Preamble}

unfoldable pub judged_with : List ℕ → Result PreambleMeaning Fault → Result Meaning Fault
judged_with source found = found >>= λ told. unless (body_fault told.settings.pos (items_of (stripped told.body))) (meaning_of source told)

pub judged-is : (source : List ℕ) → judged source ≡ judged_with source (preamble_of (length source) (lines_from source 0))
unfolding judged judged_with
judged-is source = refl

read-is : (source : List ℕ) (preamble : Preamble) → judged_with source (Ok (preamble_meaning source preamble)) ≡ unless (body_fault preamble.settings.pos (items_of (stripped_from source preamble.body true))) (meaning_of source (preamble_meaning source preamble))
unfolding judged_with stripped_from
read-is source preamble = refl

refused-is : (source : List ℕ) (fault : Fault) → judged_with source (Err fault) ≡ Err fault
unfolding judged_with
refused-is source fault = refl

module _ (source : List ℕ) where
  -- a fault before the body
  pub judged-preamble_fault : (fault : Fault) → Err fault ≡ preamble_of (length source) (lines_from source 0) → Err fault ≡ judged source
  judged-preamble_fault fault is = sym (refused-is source fault) ∙ ap (judged_with source) is ∙ sym (judged-is source)

  module _ (preamble : Preamble) (is : Ok (preamble_meaning source preamble) ≡ preamble_of (length source) (lines_from source 0)) where
    judged-body : unless (body_fault preamble.settings.pos (items_of (stripped_from source preamble.body true))) (meaning_of source (preamble_meaning source preamble)) ≡ judged source
    judged-body = sym (read-is source preamble) ∙ ap (judged_with source) is ∙ sym (judged-is source)

    -- a fault of the body
    pub judged-body_fault : (fault : Fault) → body_fault preamble.settings.pos (items_of (stripped_from source preamble.body true)) ≡ Some fault → Err fault ≡ judged source
    judged-body_fault fault found = sym (ap (λ o. unless o (meaning_of source (preamble_meaning source preamble))) found) ∙ judged-body

    -- no fault
    pub judged-accepted : body_fault preamble.settings.pos (items_of (stripped_from source preamble.body true)) ≡ None → Ok (meaning_of source (preamble_meaning source preamble)) ≡ judged source
    judged-accepted none = sym (ap (λ o. unless o (meaning_of source (preamble_meaning source preamble))) none) ∙ judged-body
