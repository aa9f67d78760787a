-- A line asks for one thing, or is bad for one reason.
use Rattle.std.proofs.Common.{◌≡◌, ◌∙◌, ℕ, ◌^◌, ℤ, List, [], ◌∷◌, length, codes, Option, Some, Result, refl, sym, ap, subst, inl, inr}
use Rattle.std.specs.Prelude.{⊤}
use Rattle.rule_text.specs.CountRule.{CountRule}
use Rattle.rule_text.specs.declared.fault.RuleFault.{RuleFault}
use Rattle.rule_text.proofs.Readings.{one_reading}
use Rattle.std.specs.Str.{byte}
use Rattle.pipe_requests.specs.Meaning.{AreBad, AreRule, Ask, HasForm, HasNoFormat, HasWords, IsFormat, IsNamed, OneMeaning}
use Rattle.pipe_requests.specs.Names.{name_of}
use Rattle.pipe_requests.specs.Numbers.{IsSigned, IsSize, IsUnsigned, IsWithin}
use Rattle.pipe_requests.specs.Words.{words}
use Rattle.pipe_requests.specs.declared.bad.Bad.{Bad}
use Rattle.pipe_requests.specs.declared.bad.Bad.TheVariants as bad
use Rattle.pipe_requests.specs.declared.name.Name.{Name}
use Rattle.pipe_requests.specs.declared.name.Name.TheVariants as name
use Rattle.pipe_requests.specs.declared.request.Request.{Request}
use Rattle.pipe_requests.specs.declared.request.Request.TheVariants as request
use Rattle.pipe_requests.specs.declared.request.TextFormat.{TextFormat}
use Rattle.pipe_requests.specs.declared.request.TextFormat.TheVariants as format
use Rattle.pipe_requests.proofs.AskLemmas.{asked_for, name_asked}
use Rattle.pipe_requests.proofs.NameLemmas.{one_name}
use Rattle.pipe_requests.proofs.NumberLemmas.{minus_no_size}

-- ---- a word is one number, one format, or one rule

one_unsigned : (word : List ℕ) (one other : ℕ) → IsUnsigned word one → IsUnsigned word other → one ≡ other
one_unsigned word one other (number, is, value) (also, also_is, also_value) =
    let same : number ≡ also = cc in
    cc

one_size : (word : List ℕ) (one other : ℤ) → IsSize word one → IsSize word other → one ≡ other
one_size word one other (number, is, value) (also, also_is, also_value) =
    let same : number ≡ also = cc in
    cc

-- digits behind a minus are no size
minus_alone : (word digits : List ℕ) (size : ℤ) → word ≡ byte "-" ∷ digits → IsSize word size → ⊥
minus_alone word digits size is sized = minus_no_size digits size (subst (λ (w : List ℕ). IsSize w size) is sized)

one_signed : (word : List ℕ) (one other : ℤ) → IsSigned word one → IsSigned word other → one ≡ other
one_signed word one other (inl size) (inl also) = one_size word one other size also
one_signed word one other (inl size) (inr (digits, value, is, number, negative)) = absurd (minus_alone word digits one is size)
one_signed word one other (inr (digits, value, is, number, negative)) (inl size) = absurd (minus_alone word digits other is size)
one_signed word one other (inr (digits, value, is, number, negative)) (inr (others, also, also_is, also_number, also_negative)) =
    let same : digits ≡ others = cc in
    let sizes : value ≡ also = one_size others value also (subst (λ (d : List ℕ). IsSize d value) same number) also_number in
    cc

one_within : (least most : ℕ) (word : List ℕ) (one other : ℕ) → IsWithin least most word one → IsWithin least most word other → one ≡ other
one_within least most word one other is also =
    let digits = is.digits in
    let also_digits = also.digits in
    cc

one_format : (word : List ℕ) (one other : TextFormat) → IsFormat word one → IsFormat word other → one ≡ other
one_format word format.Rle format.Rle is also = refl
one_format word format.Macrocell format.Macrocell is also = refl
one_format word format.Rle format.Macrocell is also = cc
one_format word format.Macrocell format.Rle is also = cc

one_rule : (words : List (List ℕ)) (one other : Option (Result CountRule RuleFault)) → AreRule words one → AreRule words other → one ≡ other
one_rule [] one other is also = is ∙ sym also
one_rule (word ∷ []) one other (read, reads, is) (also, also_reads, also_is) =
    is ∙ ap Some (one_reading word read also reads also_reads) ∙ sym also_is
one_rule (word ∷ next ∷ others) one other is also = absurd is

-- ---- a request as its name and its parameters

abbrev Parameters : Name → Type 0
Parameters name.Open = ℕ × Option (Result CountRule RuleFault)
Parameters name.Advance = ℕ
Parameters name.Window = ℤ × ℤ × ℕ × ℕ
Parameters name.Write = TextFormat
Parameters name.Picture = ℤ × ℤ × ℤ × ℤ × ℕ
Parameters name.Period = ℕ
Parameters name.Multiple = ℕ
Parameters name.Same = ℕ
Parameters other = ⊤

abbrev made : (which : Name) → Parameters which → Request
made name.Open (size, rule) = request.Open size rule
made name.Advance generations = request.Advance generations
made name.Generation nothing = request.Generation
made name.Rule nothing = request.Rule
made name.Population nothing = request.Population
made name.Bounds nothing = request.Bounds
made name.Window (x, y, width, height) = request.Window x y width height
made name.Runs nothing = request.Runs
made name.Write format = request.Write format
made name.Picture (left, top, right, bottom, size) = request.Picture left top right bottom size
made name.Period most = request.Period most
made name.Multiple whole = request.Multiple whole
made name.Same size = request.Same size
made name.Close nothing = request.Close

-- each request is made of its parameters
taken_apart : (asked : Request) → (parameters : Parameters (name_asked asked)) × (made (name_asked asked) parameters ≡ asked)
taken_apart (request.Open size rule) = ((size, rule), refl)
taken_apart (request.Advance generations) = (generations, refl)
taken_apart request.Generation = (tt, refl)
taken_apart request.Rule = (tt, refl)
taken_apart request.Population = (tt, refl)
taken_apart request.Bounds = (tt, refl)
taken_apart (request.Window x y width height) = ((x, y, width, height), refl)
taken_apart request.Runs = (tt, refl)
taken_apart (request.Write format) = (format, refl)
taken_apart (request.Picture left top right bottom size) = ((left, top, right, bottom, size), refl)
taken_apart (request.Period most) = (most, refl)
taken_apart (request.Multiple whole) = (whole, refl)
taken_apart (request.Same size) = (size, refl)
taken_apart request.Close = (tt, refl)

-- what holds of all parameters holds of each request of that name
of_name : (P : Request → Type 0) (which : Name)
    → ((parameters : Parameters which) → P (made which parameters)) → (asked : Request) → name_asked asked ≡ which → P asked
of_name P which holds asked named =
    let apart = taken_apart asked in
    let all = subst (λ (n : Name). (parameters : Parameters n) → P (made n parameters)) (sym named) holds in
    subst P apart.1 (all apart.0)

-- ---- words ask for one thing

module _ (words : List (List ℕ)) where
  one_open : (size also : ℕ) (rule other : Option (Result CountRule RuleFault))
      → Ask words (request.Open size rule) → Ask words (request.Open also other) → request.Open size rule ≡ request.Open also other
  one_open size also rule other (word, behind, is, number, read) (next, others, next_is, next_number, next_read) =
      let first : word ≡ next = cc in
      let rest : behind ≡ others = cc in
      let sizes = one_unsigned next size also (subst (λ (w : List ℕ). IsUnsigned w size) first number) next_number in
      let rules = one_rule others rule other (subst (λ (b : List (List ℕ)). AreRule b rule) rest read) next_read in
      cc

  -- one word behind the name
  one_behind : {N : Type 0} (title : List ℕ) (IsValue : List ℕ → N → Type 0)
      → ((word : List ℕ) (one other : N) → IsValue word one → IsValue word other → one ≡ other) → (one other : N)
      → ((word : List ℕ) × (words ≡ title ∷ word ∷ []) × IsValue word one)
      → ((word : List ℕ) × (words ≡ title ∷ word ∷ []) × IsValue word other) → one ≡ other
  one_behind title IsValue only one other (word, is, value) (next, next_is, next_value) =
      let same : word ≡ next = cc in
      only next one other (subst (λ (w : List ℕ). IsValue w one) same value) next_value

  one_window : (a b : Parameters name.Window)
      → Ask words (made name.Window a) → Ask words (made name.Window b) → made name.Window a ≡ made name.Window b
  one_window (x, y, width, height) (x', y', width', height') (first, second, third, fourth, is, x_is, y_is, width_is, height_is)
      (first', second', third', fourth', is', x_is', y_is', width_is', height_is') =
      let one : first ≡ first' = cc in
      let two : second ≡ second' = cc in
      let three : third ≡ third' = cc in
      let four : fourth ≡ fourth' = cc in
      let xs = one_signed first' x x' (subst (λ (w : List ℕ). IsSigned w x) one x_is) x_is' in
      let ys = one_signed second' y y' (subst (λ (w : List ℕ). IsSigned w y) two y_is) y_is' in
      let widths = one_unsigned third' width width' (subst (λ (w : List ℕ). IsUnsigned w width) three width_is) width_is' in
      let heights = one_unsigned fourth' height height' (subst (λ (w : List ℕ). IsUnsigned w height) four height_is) height_is' in
      cc

  one_picture : (a b : Parameters name.Picture)
      → Ask words (made name.Picture a) → Ask words (made name.Picture b) → made name.Picture a ≡ made name.Picture b
  one_picture (left, top, right, bottom, size) (left', top', right', bottom', size')
      (first, second, third, fourth, fifth, is, left_is, top_is, right_is, bottom_is, size_is)
      (first', second', third', fourth', fifth', is', left_is', top_is', right_is', bottom_is', size_is') =
      let one : first ≡ first' = cc in
      let two : second ≡ second' = cc in
      let three : third ≡ third' = cc in
      let four : fourth ≡ fourth' = cc in
      let five : fifth ≡ fifth' = cc in
      let lefts = one_signed first' left left' (subst (λ (w : List ℕ). IsSigned w left) one left_is) left_is' in
      let tops = one_signed second' top top' (subst (λ (w : List ℕ). IsSigned w top) two top_is) top_is' in
      let rights = one_signed third' right right' (subst (λ (w : List ℕ). IsSigned w right) three right_is) right_is' in
      let bottoms = one_signed fourth' bottom bottom' (subst (λ (w : List ℕ). IsSigned w bottom) four bottom_is) bottom_is' in
      let sizes = one_within 16 4096 fifth' size size' (subst (λ (w : List ℕ). IsWithin 16 4096 w size) five size_is) size_is' in
      cc

  one_of_name : (which : Name) (a b : Parameters which) → Ask words (made which a) → Ask words (made which b) → made which a ≡ made which b
  one_of_name name.Open (size, rule) (also, other) is is' = one_open size also rule other is is'
  one_of_name name.Advance a b is is' = ap request.Advance (one_behind (codes "advance") IsUnsigned one_unsigned a b is is')
  one_of_name name.Generation a b is is' = refl
  one_of_name name.Rule a b is is' = refl
  one_of_name name.Population a b is is' = refl
  one_of_name name.Bounds a b is is' = refl
  one_of_name name.Window a b is is' = one_window a b is is'
  one_of_name name.Runs a b is is' = refl
  one_of_name name.Write a b is is' = ap request.Write (one_behind (codes "write") IsFormat one_format a b is is')
  one_of_name name.Picture a b is is' = one_picture a b is is'
  one_of_name name.Period a b is is' = ap request.Period (one_behind (codes "period") (IsWithin 1 (2 ^ 32)) (one_within 1 (2 ^ 32)) a b is is')
  one_of_name name.Multiple a b is is' = ap request.Multiple (one_behind (codes "multiple") (IsWithin 1 (2 ^ 63)) (one_within 1 (2 ^ 63)) a b is is')
  one_of_name name.Same a b is is' = ap request.Same (one_behind (codes "same") IsUnsigned one_unsigned a b is is')
  one_of_name name.Close a b is is' = refl

  one_name_asked : (one other : Request) → Ask words one → Ask words other → name_asked one ≡ name_asked other
  one_name_asked one other asks also =
      let is = (asked_for words one asks).named in
      let also_is = (asked_for words other also).named in
      one_name (name_asked one) (name_asked other) (cc)

  one_made : (other : Request) → Ask words other
      → (a : Parameters (name_asked other)) → Ask words (made (name_asked other) a) → made (name_asked other) a ≡ other
  one_made other also a asks =
      let which = name_asked other in
      of_name (λ (b : Request). Ask words b → made which a ≡ b) which (λ b b_asks. one_of_name which a b asks b_asks) other refl also

  one_asked : (one other : Request) → Ask words one → Ask words other → one ≡ other
  one_asked one other asks also =
      of_name (λ (a : Request). Ask words a → a ≡ other) (name_asked other) (one_made other also) one (one_name_asked one other asks also) asks

  -- ---- words are bad for one reason

  has_form : (asked : Request) → Ask words asked → HasForm words
  has_form asked asks =
      let for = asked_for words asked asks in
      let count = subst (λ (n : ℕ). HasWords (name_asked asked) n) (sym (ap length for.named)) for.count in
      record { name = name_asked asked; behind = for.behind; named = for.named; count = count }

  form_named : HasForm words → IsNamed words
  form_named form = subst IsNamed (sym form.named) (form.name, refl)

  format_form : HasNoFormat words → HasForm words
  format_form none = record { name = name.Write; behind = none.word ∷ []; named = none.asks; count = ap length none.asks }

  one_reason : (why other : Bad) → AreBad words why → AreBad words other → why ≡ other
  one_reason bad.Name bad.Name is also = refl
  one_reason bad.Name bad.Words is also = absurd (is also.0)
  one_reason bad.Name bad.Format is also = absurd (is (form_named (format_form also)))
  one_reason bad.Name bad.Number is also = absurd (is (form_named also.0))
  one_reason bad.Words bad.Name is also = absurd (also is.0)
  one_reason bad.Words bad.Words is also = refl
  one_reason bad.Words bad.Format is also = absurd (is.1 (format_form also))
  one_reason bad.Words bad.Number is also = absurd (is.1 also.0)
  one_reason bad.Format bad.Name is also = absurd (also (form_named (format_form is)))
  one_reason bad.Format bad.Words is also = absurd (also.1 (format_form is))
  one_reason bad.Format bad.Format is also = refl
  one_reason bad.Format bad.Number is also = absurd (also.1 is)
  one_reason bad.Number bad.Name is also = absurd (also (form_named is.0))
  one_reason bad.Number bad.Words is also = absurd (also.1 is.0)
  one_reason bad.Number bad.Format is also = absurd (is.1 also)
  one_reason bad.Number bad.Number is also = refl
  one_reason bad.Cut other is also = absurd is
  one_reason bad.Long other is also = absurd is
  one_reason bad.Closed other is also = absurd is
  one_reason why bad.Cut is also = absurd also
  one_reason why bad.Long is also = absurd also
  one_reason why bad.Closed is also = absurd also

  no_format : HasNoFormat words → (asked : TextFormat) → Ask words (request.Write asked) → ⊥
  no_format none asked (word, is, names) =
      let asks = none.asks in
      let same : word ≡ none.word = cc in
      none.none asked (subst (λ (w : List ℕ). IsFormat w asked) same names)

  not_without_format : (asked : Request) → Ask words asked → HasNoFormat words → ⊥
  not_without_format asked asks none =
      let is = (asked_for words asked asks).named in
      let write = none.asks in
      let same : name_of (name_asked asked) ≡ name_of name.Write = cc in
      of_name (λ (a : Request). Ask words a → ⊥) name.Write (no_format none) asked (one_name (name_asked asked) name.Write same) asks

  not_bad : (asked : Request) (why : Bad) → Ask words asked → AreBad words why → ⊥
  not_bad asked bad.Name asks is = is (form_named (has_form asked asks))
  not_bad asked bad.Words asks is = is.1 (has_form asked asks)
  not_bad asked bad.Format asks is = not_without_format asked asks is
  not_bad asked bad.Number asks is = is.2 asked asks
  not_bad asked bad.Cut asks is = is
  not_bad asked bad.Long asks is = is
  not_bad asked bad.Closed asks is = is

pub one_meaning_lem : OneMeaning
one_meaning_lem = record {
  one_request = λ line. one_asked (words line);
  one_reason = λ line. one_reason (words line);
  not_both = λ line. not_bad (words line);
}
