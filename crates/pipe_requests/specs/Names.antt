-- The names of requests.
use Rattle.std.specs.Prelude.{◌≡◌, ℕ, List, codes}
use Rattle.pipe_requests.specs.declared.name.Name.{Name}
use Rattle.pipe_requests.specs.declared.name.Name.TheVariants as name

abbrev pub name_of : Name → List ℕ
name_of name.Open = codes "open"
name_of name.Advance = codes "advance"
name_of name.Generation = codes "generation"
name_of name.Rule = codes "rule"
name_of name.Population = codes "population"
name_of name.Bounds = codes "bounds"
name_of name.Window = codes "window"
name_of name.Runs = codes "runs"
name_of name.Write = codes "write"
name_of name.Picture = codes "picture"
name_of name.Period = codes "period"
name_of name.Multiple = codes "multiple"
name_of name.Same = codes "same"
name_of name.Close = codes "close"

-- the word is the name of a request
abbrev pub IsName : List ℕ → Type 0
IsName word = (name : Name) × (word ≡ name_of name)
