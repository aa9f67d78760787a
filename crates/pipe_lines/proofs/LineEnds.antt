-- How a line ends, by the number of its bytes.
use Rattle.std.proofs.Common.{◌≡◌, ℕ, ◌<◌, ◌≤◌, ◌==◌, Bool, true, false, nat_le, if◌then◌else◌, List, [], ◌∷◌, ◌++◌, ◌∙◌, length, take, refl, ap, sym, subst, arith}
use Rattle.std.proofs.lemmas.Bool.Decides.{nat_tests}
use Rattle.std.proofs.lemmas.List.{nil_from_length, take_all}
use Rattle.plane.specs.SourceChange.{SourceChange}
use Rattle.pipe_lines.specs.Supply.{HasEnded, HasLine, HasTaken, IsUnbroken}
use Rattle.pipe_lines.proofs.Parts.{IsPart}
use Rattle.pipe_lines.specs.declared.lines.LineEnd.TheVariants as end

module _ {S : Type 0} {source : SourceChange S} {before after kept part : List ℕ} {count : ℕ} where
  at_line_feed : (short : Bool) → nat_le count 255 ≡ short → IsPart kept part count →
      HasTaken source before after (part ++ 10 ∷ []) →
      HasLine source before after kept (if short then end.Whole else end.Long)
  at_line_feed true test is taken =
      let short : length part ≤ 255 = grind (arith, nat_tests) in
      let whole : kept ≡ part = is.front ∙ take_all 255 part short in (
        subst (λ line. HasTaken source before after (line ++ 10 ∷ [])) (sym whole) taken,
        subst IsUnbroken (sym whole) is.unbroken,
        omega (arith, ap length whole),
      )
  at_line_feed false test is taken =
      let long : 255 < length part = grind (arith, nat_tests) in (part, taken, is.unbroken, long, is.front)

  -- at its LF
  pub ends_at_line_feed : IsPart kept part count →
      HasTaken source before after (part ++ 10 ∷ []) →
      HasLine source before after kept (if nat_le count 255 then end.Whole else end.Long)
  ends_at_line_feed = at_line_feed (nat_le count 255) refl

  at_source_end : (none : Bool) → (count == 0) ≡ none → IsPart kept part count →
      HasTaken source before after part → HasEnded source before after →
      HasLine source before after kept (if none then end.Absent else end.Cut)
  at_source_end true test is taken ended =
      let nothing : length part ≡ 0 = grind (arith, nat_tests) in
      let absent : part ≡ [] = nil_from_length part nothing in (
        subst (HasTaken source before after) absent taken,
        ended,
        is.front ∙ ap (take 255) absent,
      )
  at_source_end false test is taken ended =
      let some : 0 < length part = grind (arith, nat_tests) in
      (part, taken, is.unbroken, (λ absent. absurd (omega (arith, ap length absent))), ended, is.front)

  -- at the end of the source
  pub ends_at_source_end : IsPart kept part count →
      HasTaken source before after part → HasEnded source before after →
      HasLine source before after kept (if (count == 0) then end.Absent else end.Cut)
  ends_at_source_end = at_source_end (count == 0) refl
