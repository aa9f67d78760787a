-- The words of a line.
use Rattle.std.specs.Prelude.{◌≡◌, ◌≢◌, ℕ, ◌==◌, if◌then◌else◌, List, [], ◌∷◌, length, Option, None, Some}
use Rattle.pipe_requests.specs.declared.bad.Bad.{Bad}
use Rattle.pipe_requests.specs.declared.bad.Bad.TheVariants.{Words}

-- the byte stands before the first of some words
abbrev pub begun_with : ℕ → List (List ℕ) → List (List ℕ)
begun_with byte [] = (byte ∷ []) ∷ []
begun_with byte (word ∷ others) = (byte ∷ word) ∷ others

-- the words of a text: its parts between blanks. Between two blanks side by side is an empty word
unfoldable pub words : List ℕ → List (List ℕ)
words [] = [] ∷ []
words (byte ∷ rest) = if byte == 32 then ([] ∷ words rest) else begun_with byte (words rest)

-- the words of the text behind a blank, if there is one
abbrev pub words_behind : Option (List ℕ) → List (List ℕ)
words_behind None = []
words_behind (Some rest) = words rest

-- the text has this first word, and this text behind the blank that ends it, if there is one
abbrev pub IsCut : List ℕ → List ℕ → Option (List ℕ) → Type 0
IsCut text first rest = words text ≡ first ∷ words_behind rest

-- there are more or fewer words than so many
abbrev pub HasNot : ℕ → Option (List ℕ) → Bad → Type 0
HasNot count rest why = (why ≡ Words) × (length (words_behind rest) ≢ count)
