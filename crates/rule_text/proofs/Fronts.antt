-- A list whose front passes a test and whose rest does not go on with it, and the digits of a text.
use Rattle.std.proofs.Common.{◌≡◌, ℕ, ◌+◌, ◌<◌, Bool, true, false, cond, List, [], ◌∷◌, ◌++◌, length, take, drop, refl, ap, ◌∙◌, one-add, arith}
use Rattle.std.specs.Char.{is_ascii_digit}
use Rattle.std.specs.List.{All, AllPass, AllByRecursion, prefix_len, take_while}
use Rattle.std.proofs.Math.Seq.{take-append_seam, drop-append_seam}
use Rattle.std.proofs.lemmas.Bool.Decides.{nat_tests}
use Rattle.std.proofs.lemmas.List.Elements.{recursion_from_All, All-map, All-weaker}
use Rattle.rule_text.specs.RuleText.{digit_text, is_blank, trimmed_start}
use Rattle.rule_text.specs.RuleCut.{after_all, digit_values}

-- the list does not begin with an element that passes
abbrev pub Stops : (ℕ → Bool) → List ℕ → Type 0
Stops p [] = Unit {0}
Stops p (x ∷ xs) = p x ≡ false

prefix_len-stop : (p : ℕ → Bool) (xs : List ℕ) → Stops p xs → prefix_len p xs ≡ 0
prefix_len-stop p [] stops = refl
prefix_len-stop p (x ∷ xs) stops = rw stops refl

prefix_len-append_stop : (p : ℕ → Bool) (xs ys : List ℕ) → AllByRecursion (λ x. p x ≡ true) xs → Stops p ys → prefix_len p (xs ++ ys) ≡ length xs
prefix_len-append_stop p [] ys pass stops = prefix_len-stop p ys stops
prefix_len-append_stop p (x ∷ xs) ys pass stops =
    rw (pass.0, prefix_len-append_stop p xs ys pass.1 stops) (one-add (length xs))

pub take_while-append_stop : (p : ℕ → Bool) (xs ys : List ℕ) → AllPass p xs → Stops p ys → take_while p (xs ++ ys) ≡ xs
take_while-append_stop p xs ys pass stops =
    ap (λ n. take n (xs ++ ys)) (prefix_len-append_stop p xs ys (recursion_from_All _ xs pass) stops)
    ∙ take-append_seam xs ys

pub after_all-append_stop : (p : ℕ → Bool) (xs ys : List ℕ) → AllPass p xs → Stops p ys → after_all p (xs ++ ys) ≡ ys
after_all-append_stop p xs ys pass stops =
    ap (λ n. drop n (xs ++ ys)) (prefix_len-append_stop p xs ys (recursion_from_All _ xs pass) stops)
    ∙ drop-append_seam xs ys

-- to trim blanks is to leave out the front of blanks
pub trimmed_start-is : (text : List ℕ) → trimmed_start text ≡ after_all is_blank text
unfolding trimmed_start
trimmed_start-is [] = refl
trimmed_start-is (x ∷ xs) = by_first (is_blank x) (trimmed_start-is xs)
  where
    by_first : (b : Bool) → trimmed_start xs ≡ after_all is_blank xs → cond b (trimmed_start xs) (x ∷ xs) ≡ drop (cond b (1 + prefix_len is_blank xs) 0) (x ∷ xs)
    by_first true later = rw (one-add (prefix_len is_blank xs)) later
    by_first false later = refl

pub trimmed_start-append_stop : (blanks rest : List ℕ) → AllPass is_blank blanks → Stops is_blank rest → trimmed_start (blanks ++ rest) ≡ rest
trimmed_start-append_stop blanks rest pass stops = trimmed_start-is (blanks ++ rest) ∙ after_all-append_stop is_blank blanks rest pass stops

-- a digit is written by a digit
pub digit_text-pass : (digits : List ℕ) → All (λ digit. digit < 10) digits → AllPass is_ascii_digit (digit_text digits)
digit_text-pass digits small =
    All-map (λ byte. is_ascii_digit byte ≡ true) (λ digit. digit + 48) digits
    (All-weaker (λ digit. digit < 10) (λ digit. is_ascii_digit (digit + 48) ≡ true) (λ digit below. grind (arith, nat_tests)) digits small)

pub digit_values-digit_text : (digits : List ℕ) → digit_values (digit_text digits) ≡ digits
digit_values-digit_text [] = refl
digit_values-digit_text (d ∷ ds) = ap (λ x. x ∷ digit_values (digit_text ds)) (omega arith) ∙ ap (λ xs. d ∷ xs) (digit_values-digit_text ds)
