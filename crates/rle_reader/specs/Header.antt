-- The header line: `x = W, y = H` or `x = W, y = H, rule = R`.
use Rattle.std.specs.Prelude.{ℕ, Bool, false, ◌==◌, ◌&&◌, ◌||◌, if◌then◌else◌, List, [], ◌∷◌, Option, None, Some, codes, Result, Ok, Err, is_some}
use Rattle.std.specs.List.{list_any, before_first, after_first}
use Rattle.std.specs.Option.{option_map_or, option_copied}
use Rattle.std.specs.Borrow.{Bor}
use Rattle.std.specs.Result.{result_map_both}
use Rattle.std.specs.Str.{byte, str_eq_ignore_ascii_case}
use Rattle.plane.specs.declared.refusal.Refusal.{Refusal}
use Rattle.plane.specs.declared.refusal.Refusal.TheVariants.{NotAPattern, BadHeader}
use Rattle.text_lines.specs.Bytes.{is_byte, trimmed, trimmed_start}
use Rattle.text_lines.specs.Numbers.{number_of}

-- the name is the key, whichever case their letters stand in
abbrev pub is_key : List ℕ → List ℕ → Bool
is_key key name = str_eq_ignore_ascii_case name key

-- what stands behind `key =`, without the blanks at its ends; the key's letters stand in either
-- case
unfoldable pub value_behind : List ℕ → List ℕ → Option (List ℕ)
value_behind key part =
    if list_any (is_byte (byte "=")) part
    && is_key key (trimmed (before_first (is_byte (byte "=")) part))
    then Some (trimmed (after_first (is_byte (byte "=")) part)) else None

-- the part is `key = digits`
unfoldable pub is_side : List ℕ → List ℕ → Bool
is_side key part = option_map_or (λ value. is_some (number_of value)) (value_behind key part) false

-- the first byte after blanks is `x` or `X`
unfoldable pub begins_as_header : List ℕ → Bool
begins_as_header line = first_is_x (trimmed_start line)
  where
    first_is_x : List ℕ → Bool
    first_is_x [] = false
    first_is_x (first ∷ rest) = first == byte "x" || first == byte "X"

-- the rule behind the second comma, if there is such a comma; `rest` is what stands behind the
-- first one
unfoldable pub rule_behind : List ℕ → Result (Option (List ℕ)) Refusal
rule_behind rest =
    if list_any (is_byte (byte ",")) rest
    then named (value_behind (codes "rule") (after_first (is_byte (byte ",")) rest)) else Ok None
  where
    named : Option (List ℕ) → Result (Option (List ℕ)) Refusal
    named None = Err BadHeader
    named (Some rule) = Ok (Some rule)

-- the rule that a header line names
unfoldable pub header_rule : List ℕ → Result (Option (List ℕ)) Refusal
header_rule line =
    let rest = after_first (is_byte (byte ",")) line in
    if begins_as_header line then
    (if is_side (codes "x") (before_first (is_byte (byte ",")) line)
    && is_side (codes "y") (before_first (is_byte (byte ",")) rest)
    then rule_behind rest else Err BadHeader)
    else Err NotAPattern

-- the bytes of a rule that was read
abbrev pub seen_rule : Result (Option (Bor (List ℕ))) Refusal → Result (Option (List ℕ)) Refusal
seen_rule found = result_map_both (λ rule. option_copied rule) (λ refusal. refusal) found
