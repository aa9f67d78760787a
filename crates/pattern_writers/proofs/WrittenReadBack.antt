-- What a writer wrote is read back.
use Rattle.std.proofs.Common.{◌≡◌, ℕ, List, ◌++◌, sym, subst, arith}
use Rattle.std.specs.Prelude.{Option, Some}
use Rattle.std.specs.Io.KnownBytes.{Appends}
use Rattle.std.proofs.lemmas.List.{append_cancel_left}
use Rattle.rule_text.specs.CountRule.{CountRule}
use Rattle.plane.specs.Centred.{IsSmallestLevel}
use Rattle.plane.specs.Plane.{Plane}
use Rattle.plane.specs.declared.cell.Cell.{Cell}
use Rattle.plane.proofs.Uniqueness.{one_listing_lem}
use Rattle.pattern_writers.specs.McText.{WritesMc, mc_text}
use Rattle.pattern_writers.specs.Reading.{IsReadBackFromMc, IsReadBackFromRle, IsReadFromMc, IsReadFromRle}
use Rattle.pattern_writers.specs.RleText.{WritesRle, rle_text}
use Rattle.pattern_writers.specs.Output.{IfTaken}
use Rattle.pattern_writers.proofs.McTextReading.{mc_read}
use Rattle.pattern_writers.proofs.RleTextReading.{rle_read}

-- a sink took the text that was appended, and no other
taken_text : (before after : Option (List ℕ)) (appended old text : List ℕ) → Appends before after appended → before ≡ Some old → after ≡ Some (old ++ text) → text ≡ appended
taken_text before after appended old text appends had has =
    let told : Appends (Some old) (Some (old ++ text)) appended =
    subst (λ b. Appends b (Some (old ++ text)) appended) had (subst (λ a. Appends before a appended) has appends) in
    append_cancel_left old text appended told

-- so what holds of that text holds of what the sink took
holds_of_taken : (before after : Option (List ℕ)) (appended : List ℕ) (Holds : List ℕ → Type 0) → Appends before after appended → Holds appended → IfTaken before after Holds
holds_of_taken before after appended Holds appends holds =
    λ old text had has. subst Holds (sym (taken_text before after appended old text appends had has)) holds

-- a plane has one smallest level
pub one_smallest_level : (plane : Plane) (a b : ℕ) → IsSmallestLevel a plane → IsSmallestLevel b plane → a ≡ b
one_smallest_level plane a b is other = grind (arith, is.no_smaller b other.least, other.no_smaller a is.least, is.holds, other.holds)

pub rle_written_read : (plane : Plane) (comments : List (List ℕ)) (rule : CountRule) (generation : ℕ) (before after : Option (List ℕ)) →
    WritesRle plane comments rule generation before after → IfTaken before after (IsReadBackFromRle plane comments rule generation)
rle_written_read plane comments rule generation before after writes =
    holds_of_taken before after (rle_text comments rule generation writes.cells) (IsReadBackFromRle plane comments rule generation) writes.appends
    (λ cells readable.
    subst (λ (listed : List Cell). IsReadFromRle comments rule generation plane (rle_text comments rule generation listed))
    (one_listing_lem plane cells writes.cells readable.listing writes.listing) (rle_read comments rule generation plane cells readable))

pub mc_written_read : (plane : Plane) (comments : List (List ℕ)) (rule : CountRule) (generation : ℕ) (before after : Option (List ℕ)) →
    WritesMc plane comments rule generation before after → IfTaken before after (IsReadBackFromMc plane comments rule generation)
mc_written_read plane comments rule generation before after writes =
    holds_of_taken before after (mc_text comments rule generation writes.level plane) (IsReadBackFromMc plane comments rule generation) writes.appends
    (λ level fits.
    subst (λ (n : ℕ). IsReadFromMc comments rule generation plane (mc_text comments rule generation n plane))
    (one_smallest_level plane level writes.level fits.smallest writes.smallest) (mc_read comments rule generation level plane fits))
