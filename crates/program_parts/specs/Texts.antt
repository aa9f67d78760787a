-- The texts that clap finds in the words of a command line.
use Rattle.std.specs.Prelude.{◌≡◌, ℕ, List, [], map, Option, Some}
use Rattle.std.specs.Borrow.{Bor}
use Rattle.clap.specs.Words.{App, Text, fault_of, first_of, found_of, matches_of, one_of, rows_of}
use Rattle.clap.specs.declared.parser.matches.ArgMatches.{ArgMatches}

-- the words of a command line, as texts
abbrev pub texts_of : List (Bor Text) → List Text
texts_of words = map (λ word. word.now) words

-- the text that clap finds for an option or an argument
abbrev pub text_in : App → List ℕ → List Text → Option Text
text_in app name words = first_of name (matches_of app words)

-- the text that clap reads the value of an option from
abbrev pub value_in : App → List ℕ → List Text → Option Text
value_in app name words = one_of name (matches_of app words)

-- the words are of the form, and clap has found this in them
abbrev pub AreMatchesIn : App → List Text → ArgMatches → Type 0
AreMatchesIn app words matches =
    (fault_of app words ≡ []) × (rows_of (found_of matches) ≡ matches_of app words)

-- there is a text
abbrev pub IsThere : Option Text → Type 0
IsThere given = (text : Text) × (given ≡ Some text)

-- the words give a text for this argument
abbrev pub HasText : App → List ℕ → List Text → Type 0
HasText app name words = IsThere (text_in app name words)
