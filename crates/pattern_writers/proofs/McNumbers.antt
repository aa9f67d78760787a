-- The numbers of a node line, read back.
use Rattle.std.proofs.Common.{◌≡◌, ℕ, ◌^◌, ◌<◌, true, false, cond, List, [], ◌∷◌, ◌++◌, length, map, filter, codes, decimal, Some, refl, sym, ◌∙◌, ap, arith, append_assoc}
use Rattle.std.specs.Char.{is_ascii_digit}
use Rattle.std.specs.List.{AllByRecursion, list_all}
use Rattle.std.proofs.lemmas.Bool.Decides.{nat_tests}
use Rattle.plane.proofs.Cuts.{and_left}
use Rattle.plane.proofs.Elements.{AllByRecursion-append, AllByRecursion-weaker}
use Rattle.text_lines.specs.Numbers.{number_of}
use Rattle.macrocell_reader.specs.Inner.{inner_of, is_field, numbers, fields}
use Rattle.macrocell_reader.specs.Nodes.{begins_leaf, node_of}
use Rattle.macrocell_reader.specs.declared.node.Node.TheVariants.{Inner}
use Rattle.pattern_writers.specs.McText.{inner_text}
use Rattle.pattern_writers.proofs.TextLines.{IsMark, IsPlain, split_first, split_last}
use Rattle.pattern_writers.proofs.Decimals.{IsDecimal, decimal_is, decimal_read}

-- ---- fields

abbrev IsWord : List ℕ → Type 0
IsWord part = (0 < length part) × AllByRecursion IsMark part

word_is : (part : List ℕ) → IsWord part → is_field part ≡ true
word_is [] is = absurd (omega (arith, is.0))
word_is (b ∷ part) is = refl

word_kept : (part : List ℕ) (parts : List (List ℕ)) → IsWord part → filter is_field (part ∷ parts) ≡ part ∷ filter is_field parts
word_kept part parts is = ap (λ t. cond t (part ∷ filter is_field parts) (filter is_field parts)) (word_is part is)

five_flat : (a b c d e : List ℕ) → a ++ codes " " ++ b ++ codes " " ++ c ++ codes " " ++ d ++ codes " " ++ e ≡ a ++ 32 ∷ (b ++ 32 ∷ (c ++ 32 ∷ (d ++ 32 ∷ e)))
five_flat a b c d e = simp append_assoc

five_words : (a b c d e : List ℕ) → IsWord a → IsWord b → IsWord c → IsWord d → IsWord e →
    fields (a ++ codes " " ++ b ++ codes " " ++ c ++ codes " " ++ d ++ codes " " ++ e) ≡ a ∷ b ∷ c ∷ d ∷ e ∷ []
five_words a b c d e is_a is_b is_c is_d is_e =
    ap fields (five_flat a b c d e)
    ∙ ap (filter is_field) (split_first a _ is_a.1 ∙ ap (λ l. a ∷ l) (split_first b _ is_b.1 ∙ ap (λ l. b ∷ l) (split_first c _ is_c.1 ∙ ap (λ l. c ∷ l) (split_first d _ is_d.1 ∙ ap (λ l. d ∷ l) (split_last e is_e.1)))))
    ∙ word_kept a (b ∷ c ∷ d ∷ e ∷ []) is_a ∙ ap (λ l. a ∷ l) (word_kept b (c ∷ d ∷ e ∷ []) is_b ∙ ap (λ l. b ∷ l) (word_kept c (d ∷ e ∷ []) is_c ∙ ap (λ l. c ∷ l) (word_kept d (e ∷ []) is_d ∙ ap (λ l. d ∷ l) (word_kept e [] is_e))))

word_of_decimal : (n : ℕ) → n < 2 ^ 64 → IsWord (decimal n)
word_of_decimal n small = let is = decimal_is n small in (is.some, is.marks)

inner_numbers : (level a b c d : ℕ) → level < 2 ^ 64 → a < 2 ^ 64 → b < 2 ^ 64 → c < 2 ^ 64 → d < 2 ^ 64 →
    numbers (inner_text level a b c d) ≡ Some level ∷ Some a ∷ Some b ∷ Some c ∷ Some d ∷ []
unfolding numbers
inner_numbers level a b c d h_level h_a h_b h_c h_d =
    ap (map number_of) (five_words (decimal level) (decimal a) (decimal b) (decimal c) (decimal d) (word_of_decimal level h_level) (word_of_decimal a h_a) (word_of_decimal b h_b) (word_of_decimal c h_c) (word_of_decimal d h_d))
    ∙ (λ i. decimal_read level h_level i ∷ decimal_read a h_a i ∷ decimal_read b h_b i ∷ decimal_read c h_c i ∷ decimal_read d h_d i ∷ [])

-- ---- the line of an inner node

digit_no_leaf : (b : ℕ) → is_ascii_digit b ≡ true → begins_leaf b ≡ false
digit_no_leaf b is = grind (arith, nat_tests)

digit_first : (first : ℕ) (rest : List ℕ) (number : ℕ) → IsDecimal number (first ∷ rest) → (is_ascii_digit first ≡ true) × (begins_leaf first ≡ false)
digit_first first rest number is =
    let digit = and_left (is_ascii_digit first) (list_all is_ascii_digit rest) is.digits_all in (digit, digit_no_leaf first digit)

node_from_digit : (first : ℕ) (rest : List ℕ) → is_ascii_digit first ≡ true → begins_leaf first ≡ false → node_of (first ∷ rest) ≡ inner_of (numbers (first ∷ rest))
unfolding node_of
node_from_digit first rest digit leaf = rw (leaf, digit) refl

inner_from : (text digits rest : List ℕ) (number : ℕ) → IsDecimal number digits → text ≡ digits ++ rest → node_of text ≡ inner_of (numbers text)
inner_from text [] rest number is same = absurd (omega (arith, is.some))
inner_from text (first ∷ digits) rest number is same =
    let begins = digit_first first digits number is in
    ap node_of same ∙ node_from_digit first (digits ++ rest) begins.0 begins.1 ∙ ap (λ t. inner_of (numbers t)) (sym same)

five_rest : (a b c d e : List ℕ) → a ++ codes " " ++ b ++ codes " " ++ c ++ codes " " ++ d ++ codes " " ++ e ≡ a ++ (codes " " ++ b ++ codes " " ++ c ++ codes " " ++ d ++ codes " " ++ e)
five_rest a b c d e = simp append_assoc

-- the line of an inner node is read as that node
pub inner_read : (level a b c d : ℕ) → level < 2 ^ 64 → a < 2 ^ 64 → b < 2 ^ 64 → c < 2 ^ 64 → d < 2 ^ 64 → node_of (inner_text level a b c d) ≡ Some (Inner level (a ∷ b ∷ c ∷ d ∷ []))
unfolding inner_of
inner_read level a b c d h_level h_a h_b h_c h_d =
    inner_from (inner_text level a b c d) (decimal level) _ level (decimal_is level h_level) (five_rest (decimal level) (decimal a) (decimal b) (decimal c) (decimal d))
    ∙ ap inner_of (inner_numbers level a b c d h_level h_a h_b h_c h_d)

plain_of : (n : ℕ) → n < 2 ^ 64 → AllByRecursion IsPlain (decimal n)
plain_of n small = AllByRecursion-weaker IsMark IsPlain (λ b mark. omega (arith, mark)) (decimal n) (decimal_is n small).marks

-- its bytes are plain
pub inner_plain : (level a b c d : ℕ) → level < 2 ^ 64 → a < 2 ^ 64 → b < 2 ^ 64 → c < 2 ^ 64 → d < 2 ^ 64 → AllByRecursion IsPlain (inner_text level a b c d)
inner_plain level a b c d h_level h_a h_b h_c h_d =
    let space : AllByRecursion IsPlain (codes " ") = (omega arith, tt) in
    AllByRecursion-append IsPlain _ _ (AllByRecursion-append IsPlain _ _ (AllByRecursion-append IsPlain _ _ (AllByRecursion-append IsPlain _ _ (AllByRecursion-append IsPlain _ _ (AllByRecursion-append IsPlain _ _ (AllByRecursion-append IsPlain _ _ (AllByRecursion-append IsPlain (decimal level) (codes " ")
    (plain_of level h_level) space) (plain_of a h_a)) space) (plain_of b h_b)) space) (plain_of c h_c)) space) (plain_of d h_d)
