-- What words ask for, by the name that they begin with.
use Rattle.std.proofs.Common.{◌≡◌, ℕ, suc, ◌≤◌, ◌^◌, ℤ, List, [], ◌∷◌, length, Option, Result, refl, sym, ap, subst, arith, inl, inr}
use Rattle.std.specs.Prelude.{⊤}
use Rattle.rule_text.specs.CountRule.{CountRule}
use Rattle.rule_text.specs.declared.fault.RuleFault.{RuleFault}
use Rattle.pipe_requests.specs.Meaning.{AreBad, AreRule, Ask, HasWords, named}
use Rattle.pipe_requests.specs.Names.{name_of}
use Rattle.pipe_requests.specs.Numbers.{IsSigned, IsUnsigned, IsWithin}
use Rattle.pipe_requests.specs.Words.{HasNot, words_behind}
use Rattle.pipe_requests.specs.declared.bad.Bad.{Bad}
use Rattle.pipe_requests.specs.declared.bad.Bad.TheVariants as bad
use Rattle.pipe_requests.specs.declared.name.Name.{Name}
use Rattle.pipe_requests.specs.declared.name.Name.TheVariants as name
use Rattle.pipe_requests.specs.declared.request.Request.{Request}
use Rattle.pipe_requests.specs.declared.request.Request.TheVariants as request
use Rattle.pipe_requests.proofs.NameLemmas.{one_name}

-- the name of what is asked for
abbrev pub name_asked : Request → Name
name_asked (request.Open length rule) = name.Open
name_asked (request.Advance generations) = name.Advance
name_asked request.Generation = name.Generation
name_asked request.Rule = name.Rule
name_asked request.Population = name.Population
name_asked request.Bounds = name.Bounds
name_asked (request.Window x y width height) = name.Window
name_asked request.Runs = name.Runs
name_asked (request.Write format) = name.Write
name_asked (request.Picture left top right bottom size) = name.Picture
name_asked (request.Period most) = name.Period
name_asked (request.Multiple whole) = name.Multiple
name_asked (request.Same length) = name.Same
name_asked request.Close = name.Close

-- one word, of which this holds for some value
abbrev pub IsOneNumber : {N : Type 0} → (List ℕ → N → Type 0) → List (List ℕ) → Type 0
IsOneNumber {N} IsValue behind = (word : List ℕ) × (behind ≡ word ∷ []) × ((value : N) × IsValue word value)

-- the numbers of a window
pub record AreWindow (behind : List (List ℕ)) : Type 0 where
  pub first : List ℕ
  pub second : List ℕ
  pub third : List ℕ
  pub fourth : List ℕ
  pub words : behind ≡ first ∷ second ∷ third ∷ fourth ∷ []
  pub x : (value : ℤ) × IsSigned first value
  pub y : (value : ℤ) × IsSigned second value
  pub width : (value : ℕ) × IsUnsigned third value
  pub height : (value : ℕ) × IsUnsigned fourth value

-- the numbers of a picture
pub record ArePicture (behind : List (List ℕ)) : Type 0 where
  pub first : List ℕ
  pub second : List ℕ
  pub third : List ℕ
  pub fourth : List ℕ
  pub fifth : List ℕ
  pub words : behind ≡ first ∷ second ∷ third ∷ fourth ∷ fifth ∷ []
  pub left : (value : ℤ) × IsSigned first value
  pub top : (value : ℤ) × IsSigned second value
  pub right : (value : ℤ) × IsSigned third value
  pub bottom : (value : ℤ) × IsSigned fourth value
  pub size : (value : ℕ) × IsWithin 16 4096 fifth value

-- the numbers that words behind this name have, where they ask for something
abbrev pub HaveNumbers : Name → List (List ℕ) → Type 0
HaveNumbers name.Open behind = (word : List ℕ) × (others : List (List ℕ)) × (behind ≡ word ∷ others) × ((value : ℕ) × IsUnsigned word value)
HaveNumbers name.Advance behind = IsOneNumber IsUnsigned behind
HaveNumbers name.Window behind = AreWindow behind
HaveNumbers name.Picture behind = ArePicture behind
HaveNumbers name.Period behind = IsOneNumber (IsWithin 1 (2 ^ 32)) behind
HaveNumbers name.Multiple behind = IsOneNumber (IsWithin 1 (2 ^ 63)) behind
HaveNumbers name.Same behind = IsOneNumber IsUnsigned behind
HaveNumbers other behind = ⊤

-- the name that words begin with, and what stands behind it
pub record AskFor (words : List (List ℕ)) (which : Name) : Type 0 where
  pub behind : List (List ℕ)
  pub named : words ≡ name_of which ∷ behind
  pub count : HasWords which (suc (length behind))
  pub numbers : HaveNumbers which behind

asked_alone : (words : List (List ℕ)) (which : Name) → words ≡ name_of which ∷ [] → HasWords which 1 → HaveNumbers which [] → AskFor words which
asked_alone words which is count numbers = record { behind = []; named = is; count = count; numbers = numbers }

asked_one : (words : List (List ℕ)) (which : Name) (word : List ℕ) → words ≡ name_of which ∷ word ∷ [] → HasWords which 2
    → HaveNumbers which (word ∷ []) → AskFor words which
asked_one words which word is count numbers = record { behind = word ∷ []; named = is; count = count; numbers = numbers }

rule_count : (others : List (List ℕ)) (rule : Option (Result CountRule RuleFault)) (count : ℕ)
    → count ≡ suc (length others) → AreRule others rule → HasWords name.Open (suc count)
rule_count [] rule count is are = inl (ap suc is)
rule_count (one ∷ []) rule count is are = inr (ap suc is)
rule_count (one ∷ other ∷ others) rule count is are = absurd are

-- what asks for something begins with its name, and has its numbers behind it
pub asked_for : (words : List (List ℕ)) (asked : Request) → Ask words asked → AskFor words (name_asked asked)
asked_for words (request.Open size rule) (word, others, is, number, are) =
    let fits = rule_count others rule (suc (length others)) refl are in
    record { behind = word ∷ others; named = is; count = fits; numbers = (word, others, refl, (size, number)) }
asked_for words (request.Advance generations) (word, is, number) = asked_one words name.Advance word is refl (word, refl, (generations, number))
asked_for words request.Generation is = asked_alone words name.Generation is refl tt
asked_for words request.Rule is = asked_alone words name.Rule is refl tt
asked_for words request.Population is = asked_alone words name.Population is refl tt
asked_for words request.Bounds is = asked_alone words name.Bounds is refl tt
asked_for words (request.Window x y width height) (first, second, third, fourth, is, x_is, y_is, width_is, height_is) = record {
  behind = first ∷ second ∷ third ∷ fourth ∷ [];
  named = is;
  count = refl;
  numbers = record {
    first = first;
    second = second;
    third = third;
    fourth = fourth;
    words = refl;
    x = (x, x_is);
    y = (y, y_is);
    width = (width, width_is);
    height = (height, height_is);
  };
}
asked_for words request.Runs is = asked_alone words name.Runs is refl tt
asked_for words (request.Write format) (word, is, names) = asked_one words name.Write word is refl tt
asked_for words (request.Picture left top right bottom size)
    (first, second, third, fourth, fifth, is, left_is, top_is, right_is, bottom_is, size_is) = record {
      behind = first ∷ second ∷ third ∷ fourth ∷ fifth ∷ [];
      named = is;
      count = refl;
      numbers = record {
        first = first;
        second = second;
        third = third;
        fourth = fourth;
        fifth = fifth;
        words = refl;
        left = (left, left_is);
        top = (top, top_is);
        right = (right, right_is);
        bottom = (bottom, bottom_is);
        size = (size, size_is);
      };
    }
asked_for words (request.Period most) (word, is, number) = asked_one words name.Period word is refl (word, refl, (most, number))
asked_for words (request.Multiple whole) (word, is, number) = asked_one words name.Multiple word is refl (word, refl, (whole, number))
asked_for words (request.Same size) (word, is, number) = asked_one words name.Same word is refl (word, refl, (size, number))
asked_for words request.Close is = asked_alone words name.Close is refl tt

-- words behind this name that ask for something have its numbers
have_numbers : (which : Name) (behind : List (List ℕ)) (asked : Request) → Ask (name_of which ∷ behind) asked → HaveNumbers which behind
have_numbers which behind asked asks =
    let for = asked_for (name_of which ∷ behind) asked asks in
    let is = for.named in
    let first : name_of (name_asked asked) ≡ name_of which = cc in
    let rest : for.behind ≡ behind = cc in
    let numbers = subst (λ (b : List (List ℕ)). HaveNumbers (name_asked asked) b) rest for.numbers in
    subst (λ (n : Name). HaveNumbers n behind) (one_name (name_asked asked) which first) numbers

module _ (which : Name) (rest : Option (List ℕ)) (why : Bad) where
  -- no request of this name has so many words
  pub bad_words : why ≡ bad.Words → (HasWords which (suc (length (words_behind rest))) → ⊥) → AreBad (named which rest) why
  bad_words is none = subst (AreBad (named which rest)) (sym is) (
    (which, refl),
    λ form.
        let first = form.named in
        let same : name_of form.name ≡ name_of which = cc in
        none (subst (λ (n : Name). HasWords n (suc (length (words_behind rest)))) (one_name form.name which same) form.count),
  )

  pub bad_count : (count : ℕ) → HasNot count rest why
      → (HasWords which (suc (length (words_behind rest))) → suc (length (words_behind rest)) ≡ suc count) → AreBad (named which rest) why
  bad_count count has only = bad_words has.0 (λ fits. let is = only fits in has.1 (omega arith))

  -- so many words may stand there, but a number does not
  pub bad_number : why ≡ bad.Number → HasWords which (suc (length (words_behind rest)))
      → (which ≡ name.Write → ⊥) → (HaveNumbers which (words_behind rest) → ⊥) → AreBad (named which rest) why
  bad_number is fits other none = subst (AreBad (named which rest)) (sym is) (
    record { name = which; behind = words_behind rest; named = refl; count = fits },
    λ format.
        let asks = format.asks in
        let write : name_of which ≡ name_of name.Write = cc in
        other (one_name which name.Write write),
    λ asked asks. none (have_numbers which (words_behind rest) asked asks),
  )

-- the one word is no such number
pub no_number : {N : Type 0} (IsValue : List ℕ → N → Type 0) (behind : List (List ℕ)) (word : List ℕ)
    → behind ≡ word ∷ [] → ((value : N) → IsValue word value → ⊥) → IsOneNumber IsValue behind → ⊥
no_number IsValue behind word is none (other, other_is, (value, number)) =
    let same : other ≡ word = cc in
    none value (subst (λ (w : List ℕ). IsValue w value) same number)

-- ---- a file that is opened

pub no_word : (behind : List (List ℕ)) → behind ≡ [] → HasWords name.Open (suc (length behind)) → ⊥
no_word behind is (inl two) = let none : length behind ≡ 0 = ap length is in omega arith
no_word behind is (inr three) = let none : length behind ≡ 0 = ap length is in omega arith

module _ (behind others : List (List ℕ)) (word : List ℕ) (is : behind ≡ word ∷ others) where
  count : length behind ≡ suc (length others)
  count = ap length is

  pub too_many : 2 ≤ length others → HasWords name.Open (suc (length behind)) → ⊥
  too_many more (inl two) = let c = count in omega arith
  too_many more (inr three) = let c = count in omega arith

  pub rule_words : (rule : Option (Result CountRule RuleFault)) → AreRule others rule → HasWords name.Open (suc (length behind))
  rule_words rule are = rule_count others rule (length behind) count are

  pub no_length : ((value : ℕ) → IsUnsigned word value → ⊥) → HaveNumbers name.Open behind → ⊥
  no_length none (other, rest, other_is, (value, number)) =
      let same : other ≡ word = cc in
      none value (subst (λ (w : List ℕ). IsUnsigned w value) same number)

-- ---- a window

module _ (behind : List (List ℕ)) (first second third fourth : List ℕ) (is : behind ≡ first ∷ second ∷ third ∷ fourth ∷ []) where
  pub no_x : ((value : ℤ) → IsSigned first value → ⊥) → AreWindow behind → ⊥
  no_x none are =
      let words = are.words in
      let same : are.first ≡ first = cc in
      none are.x.0 (subst (λ (w : List ℕ). IsSigned w are.x.0) same are.x.1)

  pub no_y : ((value : ℤ) → IsSigned second value → ⊥) → AreWindow behind → ⊥
  no_y none are =
      let words = are.words in
      let same : are.second ≡ second = cc in
      none are.y.0 (subst (λ (w : List ℕ). IsSigned w are.y.0) same are.y.1)

  pub no_width : ((value : ℕ) → IsUnsigned third value → ⊥) → AreWindow behind → ⊥
  no_width none are =
      let words = are.words in
      let same : are.third ≡ third = cc in
      none are.width.0 (subst (λ (w : List ℕ). IsUnsigned w are.width.0) same are.width.1)

  pub no_height : ((value : ℕ) → IsUnsigned fourth value → ⊥) → AreWindow behind → ⊥
  no_height none are =
      let words = are.words in
      let same : are.fourth ≡ fourth = cc in
      none are.height.0 (subst (λ (w : List ℕ). IsUnsigned w are.height.0) same are.height.1)

-- ---- a picture

pub none_of_five : (behind : List (List ℕ)) → behind ≡ [] → suc (length behind) ≡ 6 → ⊥
none_of_five behind is six = let none : length behind ≡ 0 = ap length is in omega arith

pub not_five : (behind others : List (List ℕ)) (word : List ℕ) → behind ≡ word ∷ others → (length others ≡ 4 → ⊥) → suc (length behind) ≡ 6 → ⊥
not_five behind others word is not six = let count : length behind ≡ suc (length others) = ap length is in not (omega arith)

module _ (behind : List (List ℕ)) (first second third fourth fifth : List ℕ) (is : behind ≡ first ∷ second ∷ third ∷ fourth ∷ fifth ∷ []) where
  pub no_left : ((value : ℤ) → IsSigned first value → ⊥) → ArePicture behind → ⊥
  no_left none are =
      let words = are.words in
      let same : are.first ≡ first = cc in
      none are.left.0 (subst (λ (w : List ℕ). IsSigned w are.left.0) same are.left.1)

  pub no_top : ((value : ℤ) → IsSigned second value → ⊥) → ArePicture behind → ⊥
  no_top none are =
      let words = are.words in
      let same : are.second ≡ second = cc in
      none are.top.0 (subst (λ (w : List ℕ). IsSigned w are.top.0) same are.top.1)

  pub no_right : ((value : ℤ) → IsSigned third value → ⊥) → ArePicture behind → ⊥
  no_right none are =
      let words = are.words in
      let same : are.third ≡ third = cc in
      none are.right.0 (subst (λ (w : List ℕ). IsSigned w are.right.0) same are.right.1)

  pub no_bottom : ((value : ℤ) → IsSigned fourth value → ⊥) → ArePicture behind → ⊥
  no_bottom none are =
      let words = are.words in
      let same : are.fourth ≡ fourth = cc in
      none are.bottom.0 (subst (λ (w : List ℕ). IsSigned w are.bottom.0) same are.bottom.1)

  pub no_size : ((value : ℕ) → IsWithin 16 4096 fifth value → ⊥) → ArePicture behind → ⊥
  no_size none are =
      let words = are.words in
      let same : are.fifth ≡ fifth = cc in
      none are.size.0 (subst (λ (w : List ℕ). IsWithin 16 4096 w are.size.0) same are.size.1)
