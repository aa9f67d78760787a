-- What the lines `#R`, `#G` and `#FRAMES` say.
use Rattle.std.specs.Prelude.{ℕ, nat_le, if◌then◌else◌, List, drop, fold, Option, None, Some, is_none, ◌&&◌, codes, unwrap_or}
use Rattle.plane.specs.Limits.{largest_generation}
use Rattle.plane.specs.declared.refusal.Refusal.{Refusal}
use Rattle.plane.specs.declared.refusal.Refusal.TheVariants.{FramesNotRead, BadGen}
use Rattle.text_lines.specs.Bytes.{begins_with, trimmed}
use Rattle.text_lines.specs.Lines.{Line}
use Rattle.text_lines.specs.Numbers.{number_of}

-- what is said of the pattern: its generation, and its rule and the place of the line that names it
pub record Said : Type 0 where
  pub generation : ℕ
  pub rule : Option (List ℕ)
  pub rule_place : ℕ

-- what holds where nothing is said
abbrev pub nothing_said : Said
nothing_said = record { generation = 0; rule = None; rule_place = 0 }

-- the number, if it is no more than the last generation
abbrev pub within_limit : Option ℕ → Option ℕ
within_limit None = None
within_limit (Some number) = if nat_le number largest_generation then Some number else None

-- the generation that digits write, with blanks at their ends or none
unfoldable pub generation_of : List ℕ → Option ℕ
generation_of text = within_limit (number_of (trimmed text))

-- the fault of a line `#FRAMES` or `#G`
unfoldable pub said_fault : List ℕ → Option Refusal
said_fault line =
    if begins_with (codes "#FRAMES") line then Some FramesNotRead
    else (if begins_with (codes "#G") line && is_none (generation_of (drop 2 line)) then Some BadGen
    else None)

-- what is said after a line
unfoldable pub after_line : Said → Line → Said
after_line said line =
    if begins_with (codes "#R") line.text then record said {
      rule = Some (trimmed (drop 2 line.text));
      rule_place = line.place;
    }
    else (if begins_with (codes "#G") line.text
    then record said { generation = unwrap_or (generation_of (drop 2 line.text)) 0 }
    else said)

-- what is said after these lines, where the last of each kind counts
abbrev pub after_lines : Said → List Line → Said
after_lines said lines = fold after_line said lines
