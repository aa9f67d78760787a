-- The items of a body, read back from its text.
use Rattle.std.proofs.Common.{◌≡◌, ℕ, ◌+◌, ◌<◌, ◌^◌, ◌==◌, ◌≢◌, true, false, not, if◌then◌else◌, List, [], ◌∷◌, ◌++◌, length, map, filter, drop, codes, decimal, nat_le, refl, ap, sym, ◌∙◌, arith, append_assoc}
use Rattle.std.specs.Char.{digit_value}
use Rattle.std.specs.List.{AllByRecursion, concat}
use Rattle.std.specs.Str.Parse.{AllDigits}
use Rattle.std.proofs.lemmas.Fmt.{decimal_is_IsNumeral, decimal_injective}
use Rattle.std.proofs.lemmas.List.{append-nil}
use Rattle.std.proofs.lemmas.List.Elements.{filter-append}
use Rattle.rle_reader.specs.declared.item.Tag.{Tag}
use Rattle.rle_reader.specs.declared.item.Tag.TheVariants.{Dead, Live, Row}
use Rattle.pattern_writers.specs.Items.{item_text, tag_text}
use Rattle.pattern_writers.specs.Layout.{laid_out, body_text}
use Rattle.pattern_writers.specs.declared.rle_text.items.Item.{Item}
use Rattle.pattern_writers.proofs.Decimals.{IsNoDigit, digits_end}

-- ---- without the ends of the lines

-- the bytes of a text but for the ends of its lines
abbrev pub joined_lines : List ℕ → List ℕ
joined_lines text = filter (λ byte. not (byte == 10)) text

-- the text is no more than a piece of a line
abbrev IsPiece : List ℕ → Type 0
IsPiece text = joined_lines text ≡ text

IsPiece-append : (a b : List ℕ) → IsPiece a → IsPiece b → IsPiece (a ++ b)
IsPiece-append a b one other = filter-append (λ byte. not (byte == 10)) a b ∙ ap (λ l. l ++ joined_lines b) one ∙ ap (λ l. a ++ l) other

joined_lines-line : (line : List ℕ) → IsPiece line → joined_lines (line ++ codes "\n") ≡ line
joined_lines-line line piece = filter-append (λ byte. not (byte == 10)) line (codes "\n") ∙ append-nil (joined_lines line) ∙ piece

joined_lines-more : (line text : List ℕ) → IsPiece line → joined_lines (line ++ codes "\n" ++ text) ≡ line ++ joined_lines text
joined_lines-more line text piece =
    filter-append (λ byte. not (byte == 10)) (line ++ codes "\n") text ∙ ap (λ l. l ++ joined_lines text) (joined_lines-line line piece)

-- the lines that pieces are laid out in are the pieces one after the other
laid_out-joined : (line : List ℕ) (pieces : List (List ℕ)) → IsPiece line → AllByRecursion IsPiece pieces → joined_lines (laid_out line pieces) ≡ line ++ concat pieces
laid_out-joined line [] piece all = joined_lines-line line piece ∙ sym (append-nil line)
laid_out-joined line (next ∷ pieces) piece all =
    elim (nat_le (length line + length next) 70) as (λ b.
    joined_lines (if b then laid_out (line ++ next) pieces else (line ++ codes "\n" ++ laid_out next pieces)) ≡ line ++ (next ++ concat pieces)) [
      | true ↦ laid_out-joined (line ++ next) pieces (IsPiece-append line next piece all.0) all.1 ∙ append_assoc line next (concat pieces)
      | false ↦ joined_lines-more line (laid_out next pieces) piece ∙ ap (λ l. line ++ l) (laid_out-joined next pieces all.0 all.1)
    ]

-- ---- the text of an item

-- the byte of a tag
abbrev pub tag_byte : Tag → ℕ
tag_byte Dead = 98
tag_byte Live = 111
tag_byte Row = 36

tag_text-byte : (tag : Tag) → tag_text tag ≡ tag_byte tag ∷ []
tag_text-byte Dead = refl
tag_text-byte Live = refl
tag_text-byte Row = refl

tag-no_digit : (tag : Tag) → IsNoDigit (tag_byte tag)
tag-no_digit Dead = omega arith
tag-no_digit Live = omega arith
tag-no_digit Row = omega arith

tag-no_end : (tag : Tag) → tag_byte tag ≢ 33
tag-no_end Dead is = omega arith
tag-no_end Live is = omega arith
tag-no_end Row is = omega arith

tag_byte-injective : (a b : Tag) → tag_byte a ≡ tag_byte b → a ≡ b
tag_byte-injective Dead Dead is = refl
tag_byte-injective Dead Live is = absurd (omega arith)
tag_byte-injective Dead Row is = absurd (omega arith)
tag_byte-injective Live Dead is = absurd (omega arith)
tag_byte-injective Live Live is = refl
tag_byte-injective Live Row is = absurd (omega arith)
tag_byte-injective Row Dead is = absurd (omega arith)
tag_byte-injective Row Live is = absurd (omega arith)
tag_byte-injective Row Row is = refl

-- the digits of a count
abbrev pub count_text : ℕ → List ℕ
count_text count = if count == 1 then [] else decimal count

count-digits : (count : ℕ) → count < 2 ^ 64 → AllDigits 10 (count_text count)
count-digits count small =
    elim (count == 1) as (λ b. AllDigits 10 (if b then [] else decimal count)) [
      | true ↦ tt
      | false ↦ (decimal_is_IsNumeral count small).0.1
    ]

count_text-injective : (m n : ℕ) → m < 2 ^ 64 → n < 2 ^ 64 → count_text m ≡ count_text n → m ≡ n
count_text-injective m n small short is =
    elim (m == 1) as (λ a. (m == 1) ≡ a → (if a then [] else decimal m) ≡ count_text n → m ≡ n) [
      | true ↦ λ one is.
          elim (n == 1) as (λ b. (n == 1) ≡ b → [] ≡ (if b then [] else decimal n) → m ≡ n) [
            | true ↦ λ also _. grind arith
            | false ↦ λ _ none. absurd (omega (arith, ap length none, (decimal_is_IsNumeral n short).0.0))
          ] refl is
      | false ↦ λ _ is.
          elim (n == 1) as (λ b. decimal m ≡ (if b then [] else decimal n) → m ≡ n) [
            | true ↦ λ none. absurd (omega (arith, ap length none, (decimal_is_IsNumeral m small).0.0))
            | false ↦ λ both. decimal_injective m n small short both
          ] is
    ] refl is

digits-piece : (ds : List ℕ) → AllDigits 10 ds → IsPiece ds
digits-piece [] all = refl
digits-piece (d ∷ ds) all =
    elim (d == 10) as (λ b. (d == 10) ≡ b → (if not b then (d ∷ joined_lines ds) else joined_lines ds) ≡ d ∷ ds) [
      | true ↦ λ end. let is : d ≡ 10 = grind arith in absurd (omega (arith, all.0, ap digit_value is))
      | false ↦ λ _. ap (λ l. d ∷ l) (digits-piece ds all.1)
    ] refl

tag-piece : (tag : Tag) → IsPiece (tag_text tag)
tag-piece Dead = refl
tag-piece Live = refl
tag-piece Row = refl

-- ---- the texts of items

-- a count that a text gives back
abbrev pub HasShortCount : Item → Type 0
HasShortCount item = item.count < 2 ^ 64

item-piece : (item : Item) → HasShortCount item → IsPiece (item_text item)
item-piece item small = IsPiece-append (count_text item.count) (tag_text item.tag) (digits-piece (count_text item.count) (count-digits item.count small)) (tag-piece item.tag)

-- the texts of items and the `!`
abbrev pub items_text : List Item → List ℕ
items_text [] = codes "!"
items_text (item ∷ items) = item_text item ++ items_text items

pieces-all : (items : List Item) → AllByRecursion HasShortCount items → AllByRecursion IsPiece (map item_text items ++ codes "!" ∷ [])
pieces-all [] small = (refl, tt)
pieces-all (item ∷ items) small = (item-piece item small.0, pieces-all items small.1)

pieces-concat : (items : List Item) → concat (map item_text items ++ codes "!" ∷ []) ≡ items_text items
pieces-concat [] = refl
pieces-concat (item ∷ items) = ap (λ l. item_text item ++ l) (pieces-concat items)

pub body_text-joined : (items : List Item) → AllByRecursion HasShortCount items → joined_lines (body_text items) ≡ items_text items
body_text-joined items small = laid_out-joined [] (map item_text items ++ codes "!" ∷ []) refl (pieces-all items small) ∙ pieces-concat items

-- an item's text is its digits and its tag's byte
pub item_text-flat : (item : Item) (rest : List ℕ) → item_text item ++ rest ≡ count_text item.count ++ tag_byte item.tag ∷ rest
item_text-flat item rest =
    append_assoc (count_text item.count) (tag_text item.tag) rest ∙ ap (λ l. count_text item.count ++ (l ++ rest)) (tag_text-byte item.tag)

-- no item's text begins as the `!` does
not_end : (item : Item) (rest : List ℕ) → HasShortCount item → codes "!" ≡ item_text item ++ rest → ⊥
not_end item rest small is =
    let both = digits_end [] (count_text item.count) 33 (tag_byte item.tag) [] rest tt (count-digits item.count small) (omega arith) (tag-no_digit item.tag) (is ∙ item_text-flat item rest) in
    tag-no_end item.tag (cc)

same_item : (a b : Item) → a.count ≡ b.count → a.tag ≡ b.tag → a ≡ b
same_item a b counts tags = λ i. record { count = counts i; tag = tags i }

items_text-injective : (items others : List Item) → AllByRecursion HasShortCount items → AllByRecursion HasShortCount others →
    items_text items ≡ items_text others → items ≡ others
items_text-injective [] [] small short is = refl
items_text-injective [] (other ∷ others) small short is = absurd (not_end other (items_text others) short.0 is)
items_text-injective (item ∷ items) [] small short is = absurd (not_end item (items_text items) small.0 (sym is))
items_text-injective (item ∷ items) (other ∷ others) small short is =
    let both = digits_end (count_text item.count) (count_text other.count) (tag_byte item.tag) (tag_byte other.tag) (items_text items) (items_text others)
    (count-digits item.count small.0) (count-digits other.count short.0) (tag-no_digit item.tag) (tag-no_digit other.tag)
    (sym (item_text-flat item (items_text items)) ∙ is ∙ item_text-flat other (items_text others)) in
    let tags : tag_byte item.tag ≡ tag_byte other.tag = cc in
    let first = same_item item other (count_text-injective item.count other.count small.0 short.0 both.0) (tag_byte-injective item.tag other.tag tags) in
    let rest = items_text-injective items others small.1 short.1 (ap (drop 1) both.1) in
    ap (λ i. i ∷ items) first ∙ ap (λ is. other ∷ is) rest

-- no two lists of items have one body
pub body_text-injective : (items others : List Item) → AllByRecursion HasShortCount items → AllByRecursion HasShortCount others →
    body_text items ≡ body_text others → items ≡ others
body_text-injective items others small short is =
    items_text-injective items others small short
    (sym (body_text-joined items small) ∙ ap joined_lines is ∙ body_text-joined others short)
