-- Whole numbers of any length, which may have a `-` before them.
use Rattle.std.specs.Prelude.{ℕ, if◌then◌else◌, List, Option, ℤ, pos, negsuc, neg_ℤ, min, drop, codes}
use Rattle.std.specs.Option.{option_map}
use Rattle.text_lines.specs.Bytes.{begins_with}
use Rattle.text_lines.specs.Numbers.{number_of}

-- the number that a text of digits writes, if a `-` may stand before them
unfoldable pub integer_of : List ℕ → Option ℤ
integer_of text =
    if begins_with (codes "-") text then option_map (λ number. neg_ℤ (pos number)) (number_of (drop 1 text))
    else option_map (λ number. pos number) (number_of text)

-- ---- what a machine keeps of them

-- the number, or the nearest one whose size fits 63 bits
abbrev pub clamped : ℤ → ℤ
clamped (pos number) = pos (min number 9223372036854775807)
clamped (negsuc number) = negsuc (min number 9223372036854775806)
