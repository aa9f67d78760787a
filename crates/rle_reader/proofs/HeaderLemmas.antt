-- A header line without a comma.
use Rattle.std.proofs.Common.{◌≡◌, ℕ, Bool, true, false, cond, ◌&&◌, List, [], Option, Result, Err, refl, codes}
use Rattle.std.specs.List.{list_any, before_first}
use Rattle.std.specs.Str.{byte}
use Rattle.plane.specs.declared.refusal.Refusal.{Refusal}
use Rattle.plane.specs.declared.refusal.Refusal.TheVariants.{BadHeader}
use Rattle.text_lines.specs.Bytes.{is_byte}
use Rattle.rle_reader.specs.Header.{header_rule, begins_as_header, is_side, value_behind, rule_behind}
use Rattle.rle_reader.proofs.SplitLemmas.{after_first-none}

no_side : (key : List ℕ) → is_side key [] ≡ false
unfolding is_side value_behind
no_side key = refl

chosen : (b : Bool) (rule : Result (Option (List ℕ)) Refusal) → Err BadHeader ≡ cond (b && false) rule (Err BadHeader)
chosen true rule = refl
chosen false rule = refl

pub header_rule-no_comma : (line : List ℕ) → begins_as_header line ≡ true → list_any (is_byte (byte ",")) line ≡ false → Err BadHeader ≡ header_rule line
unfolding header_rule
header_rule-no_comma line begins none =
    rw (begins, after_first-none (is_byte (byte ",")) line none, no_side (codes "y"))
    (chosen (is_side (codes "x") (before_first (is_byte (byte ",")) line)) (rule_behind []))
