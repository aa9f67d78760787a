-- The names of requests tell requests apart.
use Rattle.std.proofs.Common.{◌≡◌, ◌∙◌, ℕ, if◌then◌else◌, List, codes, refl, sym, ap, subst}
use Rattle.std.specs.Prelude.{IsUtf8, bytes_eq}
use Rattle.pipe_requests.specs.Names.{IsName, name_of}
use Rattle.pipe_requests.specs.declared.name.Name.{Name}
use Rattle.pipe_requests.specs.declared.name.Name.TheVariants as name

-- the name that a word is, where it is one
name_by : List ℕ → Name
name_by word =
    if bytes_eq word (codes "open") then name.Open else
    if bytes_eq word (codes "advance") then name.Advance else
    if bytes_eq word (codes "generation") then name.Generation else
    if bytes_eq word (codes "rule") then name.Rule else
    if bytes_eq word (codes "population") then name.Population else
    if bytes_eq word (codes "bounds") then name.Bounds else
    if bytes_eq word (codes "window") then name.Window else
    if bytes_eq word (codes "runs") then name.Runs else
    if bytes_eq word (codes "write") then name.Write else
    if bytes_eq word (codes "picture") then name.Picture else
    if bytes_eq word (codes "period") then name.Period else
    if bytes_eq word (codes "multiple") then name.Multiple else
    if bytes_eq word (codes "same") then name.Same else
    name.Close

name_by_of : (which : Name) → name_by (name_of which) ≡ which
unfolding name_by
name_by_of name.Open = refl
name_by_of name.Advance = refl
name_by_of name.Generation = refl
name_by_of name.Rule = refl
name_by_of name.Population = refl
name_by_of name.Bounds = refl
name_by_of name.Window = refl
name_by_of name.Runs = refl
name_by_of name.Write = refl
name_by_of name.Picture = refl
name_by_of name.Period = refl
name_by_of name.Multiple = refl
name_by_of name.Same = refl
name_by_of name.Close = refl

-- two requests with one name are one
pub one_name : (one other : Name) → name_of one ≡ name_of other → one ≡ other
one_name one other is = sym (name_by_of one) ∙ ap name_by is ∙ name_by_of other

utf8_name : (which : Name) → IsUtf8 (name_of which)
unfolding lib.Utf8.encode
utf8_name name.Open = (codes "open", (refl, refl))
utf8_name name.Advance = (codes "advance", (refl, refl))
utf8_name name.Generation = (codes "generation", (refl, refl))
utf8_name name.Rule = (codes "rule", (refl, refl))
utf8_name name.Population = (codes "population", (refl, refl))
utf8_name name.Bounds = (codes "bounds", (refl, refl))
utf8_name name.Window = (codes "window", (refl, refl))
utf8_name name.Runs = (codes "runs", (refl, refl))
utf8_name name.Write = (codes "write", (refl, refl))
utf8_name name.Picture = (codes "picture", (refl, refl))
utf8_name name.Period = (codes "period", (refl, refl))
utf8_name name.Multiple = (codes "multiple", (refl, refl))
utf8_name name.Same = (codes "same", (refl, refl))
utf8_name name.Close = (codes "close", (refl, refl))

-- names are text
pub name_is_text : (word : List ℕ) → IsName word → IsUtf8 word
name_is_text word named = subst IsUtf8 (sym named.1) (utf8_name named.0)
