-- The lines before the header are those of the text up to where the header begins.
use Rattle.std.proofs.Common.{◌≡◌, ℕ, ◌≤◌, List, [], ◌∷◌, length, take, Option, Result, Ok, Err, refl, ap, sym, subst, ◌∙◌}
use Rattle.std.specs.List.{prefix_len}
use Rattle.plane.specs.declared.fault.Fault.{Fault}
use Rattle.text_lines.specs.Faults.{at_place, ◌>>=◌}
use Rattle.text_lines.specs.Lines.{Line, lines_from}
use Rattle.text_lines.proofs.FrontLemmas.{line_begins_within, lines_before}
use Rattle.rle_reader.specs.Header.{header_rule}
use Rattle.rle_reader.specs.Preamble.{PreambleMeaning, may_stand, before_header, from_header, after_lines, with_header, preamble_of}
use Rattle.text_lines.specs.Comments.{comments_of}
use Rattle.rle_reader.specs.Settings.{nothing_said}
use Rattle.rle_reader.specs.declared.settings.Settings.{Settings}

module _ (told : PreambleMeaning) (comments : List (List ℕ)) where
  place_is : (settings : Settings) (header : Line) (body : List Line) (found : Result (Option (List ℕ)) Fault) →
      Ok told ≡ (found >>= λ rule. Ok (record { settings = settings; comments = comments; header = header.place; rule = rule; body = body })) →
      (header.place ≡ told.header) × (body ≡ told.body)
  place_is settings header body (Ok rule) is = (cc, cc)
  place_is settings header body (Err fault) is = cc

  header_is : (end : ℕ) (settings : Settings) (left : List Line) → Ok told ≡ with_header end comments settings left →
      (header : Line) × (body : List Line) × (left ≡ header ∷ body) × (header.place ≡ told.header) × (body ≡ told.body)
  unfolding with_header
  header_is end settings [] is = cc
  header_is end settings (header ∷ body) is =
      let same = place_is settings header body (at_place header.place (header_rule header.text)) is in (header, body, refl, same.0, same.1)

  header_read : (end : ℕ) (left : List Line) (found : Result Settings Fault) → Ok told ≡ (found >>= λ settings. with_header end comments settings left) →
      (header : Line) × (body : List Line) × (left ≡ header ∷ body) × (header.place ≡ told.header) × (body ≡ told.body)
  header_read end left (Ok settings) is = header_is end settings left is
  header_read end left (Err fault) is = cc

module _ (source : List ℕ) (told : PreambleMeaning) (is : Ok told ≡ preamble_of (length source) (lines_from source 0)) where
  pub header_and_body : (header : Line) × (body : List Line) × (from_header (lines_from source 0) ≡ header ∷ body) × (header.place ≡ told.header) × (body ≡ told.body)
  unfolding preamble_of
  header_and_body = header_read told (comments_of (before_header (lines_from source 0))) (length source) (from_header (lines_from source 0)) (after_lines nothing_said (before_header (lines_from source 0))) is

  pub header_within : told.header ≤ length source
  header_within = subst (λ place. place ≤ length source) header_and_body.3 (line_begins_within source (prefix_len may_stand (lines_from source 0)) header_and_body.0 header_and_body.1 header_and_body.2)

  pub lines_before_header : lines_from (take told.header source) 0 ≡ before_header (lines_from source 0)
  lines_before_header =
      ap (λ place. lines_from (take place source) 0) (sym header_and_body.3)
      ∙ lines_before source (prefix_len may_stand (lines_from source 0)) header_and_body.0 header_and_body.1 header_and_body.2
