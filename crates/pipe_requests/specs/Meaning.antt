-- What a line asks for, and why another line is bad.
use Rattle.std.specs.Prelude.{◌≡◌, ◌⊎◌, ℕ, ◌^◌, List, [], ◌∷◌, length, codes, Option, None, Some, Result}
use Rattle.rule_text.specs.CountRule.{CountRule}
use Rattle.rule_text.specs.RuleText.{Reads}
use Rattle.rule_text.specs.declared.fault.RuleFault.{RuleFault}
use Rattle.pipe_requests.specs.Names.{IsName, name_of}
use Rattle.pipe_requests.specs.Numbers.{IsSigned, IsUnsigned, IsWithin}
use Rattle.pipe_requests.specs.Words.{words, words_behind}
use Rattle.pipe_requests.specs.declared.bad.Bad.{Bad}
use Rattle.pipe_requests.specs.declared.bad.Bad.TheVariants as bad
use Rattle.pipe_requests.specs.declared.name.Name.{Name}
use Rattle.pipe_requests.specs.declared.name.Name.TheVariants as name
use Rattle.pipe_requests.specs.declared.request.Request.{Request}
use Rattle.pipe_requests.specs.declared.request.Request.TheVariants as request
use Rattle.pipe_requests.specs.declared.request.TextFormat.{TextFormat}
use Rattle.pipe_requests.specs.declared.request.TextFormat.TheVariants as format

-- ---- requests

-- no word, or one that is read as a rule
abbrev pub AreRule : List (List ℕ) → Option (Result CountRule RuleFault) → Type 0
AreRule [] rule = rule ≡ None
AreRule (word ∷ []) rule =
    (read : Result CountRule RuleFault) × Reads word read × (rule ≡ Some read)
AreRule (word ∷ other ∷ others) rule = ⊥

-- the word names the format
abbrev pub IsFormat : List ℕ → TextFormat → Type 0
IsFormat word format.Rle = word ≡ codes "rle"
IsFormat word format.Macrocell = word ≡ codes "mc"

-- the words ask for this
abbrev pub Ask : List (List ℕ) → Request → Type 0
Ask words (request.Open length rule) =
    (word : List ℕ) × (behind : List (List ℕ)) × (words ≡ codes "open" ∷ word ∷ behind)
    × IsUnsigned word length × AreRule behind rule
Ask words (request.Advance generations) =
    (word : List ℕ) × (words ≡ codes "advance" ∷ word ∷ []) × IsUnsigned word generations
Ask words request.Generation = words ≡ codes "generation" ∷ []
Ask words request.Rule = words ≡ codes "rule" ∷ []
Ask words request.Population = words ≡ codes "population" ∷ []
Ask words request.Bounds = words ≡ codes "bounds" ∷ []
Ask words (request.Window x y width height) =
    (first second third fourth : List ℕ)
    × (words ≡ codes "window" ∷ first ∷ second ∷ third ∷ fourth ∷ [])
    × IsSigned first x × IsSigned second y × IsUnsigned third width × IsUnsigned fourth height
Ask words request.Runs = words ≡ codes "runs" ∷ []
Ask words (request.Write format) =
    (word : List ℕ) × (words ≡ codes "write" ∷ word ∷ []) × IsFormat word format
Ask words (request.Picture left top right bottom size) =
    (first second third fourth fifth : List ℕ)
    × (words ≡ codes "picture" ∷ first ∷ second ∷ third ∷ fourth ∷ fifth ∷ [])
    × IsSigned first left × IsSigned second top × IsSigned third right × IsSigned fourth bottom
    × IsWithin 16 4096 fifth size
Ask words (request.Period most) =
    (word : List ℕ) × (words ≡ codes "period" ∷ word ∷ []) × IsWithin 1 (2 ^ 32) word most
Ask words (request.Multiple whole) =
    (word : List ℕ) × (words ≡ codes "multiple" ∷ word ∷ []) × IsWithin 1 (2 ^ 63) word whole
Ask words (request.Same length) =
    (word : List ℕ) × (words ≡ codes "same" ∷ word ∷ []) × IsUnsigned word length
Ask words request.Close = words ≡ codes "close" ∷ []

-- the line asks for this
abbrev pub Means : List ℕ → Request → Type 0
Means line request = Ask (words line) request

-- ---- bad lines

-- a request of this name has so many words
abbrev pub HasWords : Name → ℕ → Type 0
HasWords name.Open count = (count ≡ 2) ⊎ (count ≡ 3)
HasWords name.Advance count = count ≡ 2
HasWords name.Window count = count ≡ 5
HasWords name.Write count = count ≡ 2
HasWords name.Picture count = count ≡ 6
HasWords name.Period count = count ≡ 2
HasWords name.Multiple count = count ≡ 2
HasWords name.Same count = count ≡ 2
HasWords other count = count ≡ 1

-- the first word is the name of a request with so many words
pub record HasForm (words : List (List ℕ)) : Type 0 where
  pub name : Name
  pub behind : List (List ℕ)
  pub named : words ≡ name_of name ∷ behind
  pub count : HasWords name (length words)

-- the format that the words ask for is none
pub record HasNoFormat (words : List (List ℕ)) : Type 0 where
  pub word : List ℕ
  pub asks : words ≡ codes "write" ∷ word ∷ []
  pub none : (format : TextFormat) → IsFormat word format → ⊥

-- the first word is the name of a request
abbrev pub IsNamed : List (List ℕ) → Type 0
IsNamed [] = ⊥
IsNamed (word ∷ others) = IsName word

-- the first reason why words are bad: the name, their number, the format, a number
abbrev pub AreBad : List (List ℕ) → Bad → Type 0
AreBad words bad.Name = IsNamed words → ⊥
AreBad words bad.Words = IsNamed words × (HasForm words → ⊥)
AreBad words bad.Format = HasNoFormat words
AreBad words bad.Number =
    HasForm words × (HasNoFormat words → ⊥) × ((request : Request) → Ask words request → ⊥)
AreBad words other = ⊥

-- the name of a request, and the words of the text behind its blank, if there is one
abbrev pub named : Name → Option (List ℕ) → List (List ℕ)
named name rest = name_of name ∷ words_behind rest

-- the line asks for nothing, and this is why
abbrev pub IsBad : List ℕ → Bad → Type 0
IsBad line why = AreBad (words line) why

-- ---- laws

-- a line asks for one thing, or is bad for one reason
pub record OneMeaning : Type 0 where
  pub one_request : (line : List ℕ) (request other : Request) → Means line request →
      Means line other → request ≡ other
  pub one_reason : (line : List ℕ) (why other : Bad) → IsBad line why → IsBad line other →
      why ≡ other
  pub not_both : (line : List ℕ) (request : Request) (why : Bad) → Means line request →
      IsBad line why → ⊥
