-- The text of a pattern as a macrocell file.
use Rattle.std.specs.Prelude.{ℕ, ◌-◌, ◌^◌, pos, ◌==◌, if◌then◌else◌, List, ◌++◌, codes, decimal, Option}
use Rattle.std.specs.Io.KnownBytes.{Appends}
use Rattle.std.specs.List.{flat_map}
use Rattle.rule_text.specs.CountRule.{CountRule}
use Rattle.rule_text.specs.RuleText.{canonical_text}
use Rattle.plane.specs.Centred.{IsSmallestLevel}
use Rattle.plane.specs.Device.{AppendsBeginning}
use Rattle.plane.specs.Laws.{moved}
use Rattle.plane.specs.Plane.{Plane}
use Rattle.pattern_writers.specs.LeafText.{leaf_text}
use Rattle.pattern_writers.specs.RleText.{comment_lines}
use Rattle.pattern_writers.specs.Subsquares.{Square, listed_in, number_in, nw_of, ne_of, sw_of, se_of}

-- the first line, the rule and the generation
abbrev pub mc_preamble : List ℕ → ℕ → List ℕ
mc_preamble rule generation =
    codes "[M2] (lifebatch 1)\n#R " ++ rule ++ codes "\n#G " ++ decimal generation ++ codes "\n"

-- the level and the numbers of the quarters
abbrev pub inner_text : ℕ → ℕ → ℕ → ℕ → ℕ → List ℕ
inner_text level nw ne sw se =
    decimal level ++ codes " " ++ decimal nw ++ codes " " ++ decimal ne ++ codes " " ++ decimal sw
    ++ codes " " ++ decimal se

-- the text of a square among those that are listed: its rows, or its level and the numbers of its
-- quarters
abbrev pub square_text : List Square → Square → List ℕ
square_text listed square =
    if square.level == 3
    then leaf_text square.plane
    else inner_text square.level
    (number_in listed (nw_of (square.level - 1) square.plane))
    (number_in listed (ne_of (square.level - 1) square.plane))
    (number_in listed (sw_of (square.level - 1) square.plane))
    (number_in listed (se_of (square.level - 1) square.plane))

-- each square as a line
abbrev pub node_lines : List Square → List ℕ
node_lines listed = flat_map (λ square. square_text listed square ++ codes "\n") listed

-- the plane's square of this level around (0,0), moved to the corner (0,0)
abbrev pub from_corner : ℕ → Plane → Plane
from_corner level plane = moved (pos (2 ^ (level - 1))) (pos (2 ^ (level - 1))) plane

-- the text of the plane's cells, in a square of this level around (0,0), with the comments, the
-- rule and the generation
abbrev pub mc_text : List (List ℕ) → CountRule → ℕ → ℕ → Plane → List ℕ
mc_text comments rule generation level plane =
    mc_preamble (canonical_text rule) generation ++ comment_lines comments
    ++ node_lines (listed_in level (from_corner level plane))

-- the text of the plane's cells is written between the two, in the smallest square that holds them
pub record WritesMc (plane : Plane) (comments : List (List ℕ)) (rule : CountRule) (generation : ℕ)
    (before after : Option (List ℕ)) : Type 0 where
  pub level : ℕ
  pub smallest : IsSmallestLevel level plane
  pub appends : Appends before after (mc_text comments rule generation level plane)

-- a beginning of this text is written between the two
pub record BeginsMc (plane : Plane) (comments : List (List ℕ)) (rule : CountRule) (generation : ℕ)
    (before after : Option (List ℕ)) : Type 0 where
  pub level : ℕ
  pub smallest : IsSmallestLevel level plane
  pub beginning : AppendsBeginning before after (mc_text comments rule generation level plane)
