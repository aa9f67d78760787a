-- How a body is cut into lines.
use Rattle.std.specs.Prelude.{◌≡◌, ℕ, ◌+◌, nat_le, if◌then◌else◌, List, [], ◌∷◌, ◌++◌, length, map, codes}
use Rattle.pattern_writers.specs.Items.{item_text}
use Rattle.pattern_writers.specs.declared.rle_text.items.Item.{Item}

-- a line so far and the pieces that follow it: a piece goes on the line if the line then has at
-- most 70 bytes, else it begins a new one
abbrev pub laid_out : List ℕ → List (List ℕ) → List ℕ
laid_out line [] = line ++ codes "\n"
laid_out line (piece ∷ pieces) =
    if nat_le (length line + length piece) 70 then laid_out (line ++ piece) pieces
    else (line ++ codes "\n" ++ laid_out piece pieces)

-- the items and the `!`, in lines
abbrev pub body_text : List Item → List ℕ
body_text items = laid_out [] (map item_text items ++ codes "!" ∷ [])

-- some pieces lead from one line to another, and `out` is written on the way
abbrev pub LaysOut : List ℕ → List (List ℕ) → List ℕ → List ℕ → Type 0
LaysOut before pieces after out =
    (rest : List (List ℕ)) → laid_out before (pieces ++ rest) ≡ out ++ laid_out after rest
