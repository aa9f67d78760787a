-- Comments as lines of a text.
use Rattle.std.proofs.Common.{◌≡◌, ℕ, suc, Bool, true, false, not, cond, List, [], ◌∷◌, ◌++◌, length, map, take, codes, Ok, refl, ap, sym, ◌∙◌, arith, zero, ◌-◌, filter, subst}
use Rattle.std.specs.Prelude.{◌==◌, ◌&&◌, ◌||◌}
use Rattle.std.specs.List.{AllByRecursion}
use Rattle.std.specs.Str.{bytes_eq}
use Rattle.std.proofs.lemmas.Bool.Decides.{Decides-eqb}
use Rattle.std.proofs.lemmas.Bool.{false≢true}
use Rattle.plane.proofs.Cuts.{and_left, and_right}
use Rattle.squares.proofs.NumberMaps.{by_cases}
use Rattle.text_lines.specs.Bytes.{begins_with, ends_with}
use Rattle.text_lines.specs.Comments.{is_blank_line, is_kept, is_comment, is_settings_line}
use Rattle.text_lines.specs.Lines.{without_return, is_line_feed}
use Rattle.rle_reader.specs.Words.{word_of, words}
use Rattle.rle_reader.specs.Preamble.{stands_before_header}
use Rattle.rle_reader.specs.Settings.{after_line, after_readings}
use Rattle.rle_reader.specs.declared.settings.Settings.{Settings}
use Rattle.pattern_writers.specs.Reading.{IsComment, HasNoReturn}

-- ---- what a kept comment begins with

letters : (a c d n o s : Bool) → (not s && ((((a && (c && true)) || (a && (d && true))) || (a && (n && true))) || (a && (o && true)))) ≡ true → (a ≡ true) × ((c || (d || (n || o))) ≡ true)
letters false c d n o true is = absurd (false≢true is)
letters false c d n o false is = absurd (false≢true is)
letters true true d n o s is = (refl, refl)
letters true false true n o s is = (refl, refl)
letters true false false true o s is = (refl, refl)
letters true false false false true s is = (refl, refl)
letters true false false false false true is = absurd (false≢true is)
letters true false false false false false is = absurd (false≢true is)

at_letter : (P : ℕ → Type 0) → P 67 → P 68 → P 78 → P 79 → (b : ℕ) → ((b == 67) || ((b == 68) || ((b == 78) || (b == 79)))) ≡ true → P b
at_letter P c d n o b is =
    by_cases (b == 67) (λ e. subst P (sym ((Decides-eqb b 67).0 e)) c)
    (λ no_c. by_cases (b == 68) (λ e. subst P (sym ((Decides-eqb b 68).0 e)) d)
    (λ no_d. by_cases (b == 78) (λ e. subst P (sym ((Decides-eqb b 78).0 e)) n)
    (λ no_n. by_cases (b == 79) (λ e. subst P (sym ((Decides-eqb b 79).0 e)) o)
    (λ no_o. absurd (false≢true (sym (λ i. no_c i || (no_d i || (no_n i || no_o i))) ∙ is))))))

abbrev pub IsOtherLetter : ℕ → Type 0
IsOtherLetter b = ((b == 70) ≡ false) × ((b == 71) ≡ false) × ((b == 82) ≡ false) × ((b == 13) ≡ false)

-- what a kept comment begins with
pub record BeginsComment (line : List ℕ) : Type 0 where
  pub letter : ℕ
  pub rest : List ℕ
  pub is : line ≡ 35 ∷ letter ∷ rest
  pub other : IsOtherLetter letter

pub kept_begins : (line : List ℕ) → is_kept line ≡ true → BeginsComment line
unfolding is_kept
kept_begins [] is = absurd (false≢true is)
kept_begins (a ∷ []) is = absurd (false≢true (sym (none_of (a == 35) (is_settings_line (a ∷ []))) ∙ is))
  where
    none_of : (a s : Bool) → (not s && ((((a && false) || (a && false)) || (a && false)) || (a && false))) ≡ false
    none_of true true = refl
    none_of true false = refl
    none_of false true = refl
    none_of false false = refl
kept_begins (a ∷ b ∷ rest) is =
    let found = letters (a == 35) (b == 67) (b == 68) (b == 78) (b == 79) (is_settings_line (a ∷ b ∷ rest)) is in
    let first : a ≡ 35 = (Decides-eqb a 35).0 found.0 in
    record { letter = b; rest = rest; is = λ i. first i ∷ b ∷ rest; other = at_letter IsOtherLetter (refl, refl, refl, refl) (refl, refl, refl, refl) (refl, refl, refl, refl) (refl, refl, refl, refl) b found.1 }

pub return_left : (letter : ℕ) (rest : List ℕ) → (letter == 13) ≡ false → (others : List ℕ) × (without_return (35 ∷ letter ∷ rest) ≡ 35 ∷ letter ∷ others)
unfolding without_return
return_left letter [] other = ([], ap (λ t. cond (t && true) (35 ∷ []) (35 ∷ letter ∷ [])) other)
return_left letter (r ∷ rest) other =
    by_cases (ends_with (codes "\r") (35 ∷ letter ∷ r ∷ rest))
    (λ ends.
    let e : suc (suc (suc (length rest))) - 1 ≡ suc (suc (length rest)) = omega arith in
    (take (length rest) (r ∷ rest), ap (λ t. cond t (take (suc (suc (suc (length rest))) - 1) (35 ∷ letter ∷ r ∷ rest)) (35 ∷ letter ∷ r ∷ rest)) ends ∙ ap (λ n. take n (35 ∷ letter ∷ r ∷ rest)) e))
    (λ no_end. (r ∷ rest, ap (λ t. cond t (take (suc (suc (suc (length rest))) - 1) (35 ∷ letter ∷ r ∷ rest)) (35 ∷ letter ∷ r ∷ rest)) no_end))

-- a kept comment is a comment, also without a CR
pub comment_stays : (comment : List ℕ) → IsComment comment → is_comment (without_return comment) ≡ true
comment_stays comment is =
    let begins = kept_begins comment is.kept in
    let left = return_left begins.letter begins.rest begins.other.3 in
    ap (λ line. is_comment (without_return line)) begins.is ∙ ap is_comment left.1

-- ---- no kept comment speaks of the settings

not_first : (a b : Bool) → (not a && b) ≡ true → a ≡ false
not_first true b is = absurd (false≢true is)
not_first false b is = refl

kept_other : (line : List ℕ) → is_kept line ≡ true → is_settings_line line ≡ false
unfolding is_kept
kept_other line is = not_first (is_settings_line line) _ is

-- what a front of a text begins with the text begins with
front_begins : (front : List ℕ) (size : ℕ) (text : List ℕ) → begins_with front (take size text) ≡ true → begins_with front text ≡ true
front_begins [] size text is = refl
front_begins (first ∷ front) zero text is = absurd (false≢true is)
front_begins (first ∷ front) (suc size) [] is = absurd (false≢true is)
front_begins (first ∷ front) (suc size) (byte ∷ text) is =
    let one : (byte == first) ≡ true = and_left (byte == first) (bytes_eq (take (length front) (take size text)) front) is in
    ap (λ b. b && bytes_eq (take (length front) text) front) one
    ∙ front_begins front size text (and_right (byte == first) (bytes_eq (take (length front) (take size text)) front) is)

front_other : (size : ℕ) (text : List ℕ) → is_settings_line text ≡ false → is_settings_line (take size text) ≡ false
front_other size text other =
    by_cases (is_settings_line (take size text)) (λ is. absurd (false≢true (sym other ∙ front_begins (codes "#CXRLE") size text is))) (λ no. no)

-- without a CR at its end neither
pub comment_other : (comment : List ℕ) → IsComment comment → is_settings_line (without_return comment) ≡ false
unfolding without_return
comment_other comment is =
    let other : is_settings_line comment ≡ false = kept_other comment is.kept in
    elim (ends_with (codes "\r") comment) as (λ b. is_settings_line (cond b (take (length comment - 1) comment) comment) ≡ false) [
      | true ↦ front_other (length comment - 1) comment other
      | false ↦ other
    ]

-- ---- comments as lines

pub comment_feeds : (comments : List (List ℕ)) → AllByRecursion IsComment comments → AllByRecursion (AllByRecursion (λ b. is_line_feed b ≡ false)) comments
comment_feeds [] are = tt
comment_feeds (comment ∷ comments) are = (are.0.one_line, comment_feeds comments are.1)

no_return : (comment : List ℕ) → HasNoReturn comment → without_return comment ≡ comment
unfolding without_return
no_return comment is = ap (λ t. cond t (take (length comment - 1) comment) comment) is

pub comments_kept : (comments more : List (List ℕ)) → AllByRecursion IsComment comments → AllByRecursion HasNoReturn comments → filter is_kept (map without_return comments ++ more) ≡ comments ++ filter is_kept more
comments_kept [] more are none = refl
comments_kept (comment ∷ comments) more are none =
    ap (λ c. cond (is_kept c) (c ∷ filter is_kept (map without_return comments ++ more)) (filter is_kept (map without_return comments ++ more))) (no_return comment none.0)
    ∙ ap (λ t. cond t (comment ∷ filter is_kept (map without_return comments ++ more)) (filter is_kept (map without_return comments ++ more))) are.0.kept
    ∙ ap (λ l. comment ∷ l) (comments_kept comments more are.1 none.1)

-- ---- comments before a header

pub comment_stands : (comment : List ℕ) → IsComment comment → stands_before_header (without_return comment) ≡ true
unfolding stands_before_header
comment_stands comment is = ap (λ b. b || is_blank_line (without_return comment)) (comment_stays comment is)

pub comment_said : (settings : Settings) (comment : List ℕ) → IsComment comment → after_line settings (without_return comment) ≡ Ok settings
unfolding after_line
comment_said settings comment is =
    ap (λ b. cond b (after_readings settings (map word_of (words (without_return comment)))) (Ok settings)) (comment_other comment is)
