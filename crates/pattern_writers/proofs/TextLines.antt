-- Lines of a text, and bytes that are neither line ends nor blanks.
use Rattle.std.proofs.Common.{◌≡◌, ℕ, zero, suc, ◌+◌, ◌-◌, ◌≤◌, Bool, true, false, cond, List, [], ◌∷◌, ◌++◌, length, map, filter, drop, take, flat_map, codes, refl, sym, ◌∙◌, ap, subst, arith, append_assoc, append-nil}
use Rattle.std.specs.Prelude.{◌==◌, ◌&&◌, ◌||◌, nat_le, reverse}
use Rattle.std.specs.List.{AllByRecursion, list_all, onto_first, slice_split}
use Rattle.std.specs.Str.{bytes_eq}
use Rattle.std.proofs.lemmas.Bool.Decides.{nat_tests}
use Rattle.std.proofs.lemmas.List.{reverse-append, reverse-reverse}
use Rattle.plane.proofs.Cuts.{and_left, and_right}
use Rattle.plane.proofs.Elements.{AllByRecursion-append, AllByRecursion-weaker}
use Rattle.text_lines.specs.Bytes.{ended_parts, is_blank, trimmed, trimmed_end, trimmed_start}
use Rattle.text_lines.specs.Comments.{comments_of, is_kept}
use Rattle.text_lines.specs.Lines.{is_line_feed, placed_lines, without_return}

-- ---- parts with an end each

-- a part, its end, and what follows
pub ended_parts-first : (test : ℕ → Bool) (end : ℕ) (part rest : List ℕ) → test end ≡ true → AllByRecursion (λ b. test b ≡ false) part →
    ended_parts test (part ++ end ∷ rest) ≡ part ∷ ended_parts test rest
unfolding ended_parts
ended_parts-first test end [] rest ends none = ap (λ t. cond t ([] ∷ ended_parts test rest) (onto_first end (ended_parts test rest))) ends
ended_parts-first test end (first ∷ part) rest ends none =
    ap (λ t. cond t ([] ∷ ended_parts test (part ++ end ∷ rest)) (onto_first first (ended_parts test (part ++ end ∷ rest)))) none.0
    ∙ ap (onto_first first) (ended_parts-first test end part rest ends none.1)

one_part : (part rest more : List ℕ) (end : ℕ) → ((part ++ end ∷ []) ++ rest) ++ more ≡ part ++ end ∷ (rest ++ more)
one_part part rest more end = simp append_assoc

-- parts that each have their end, and what follows
pub ended_parts-front : (test : ℕ → Bool) (end : ℕ) (parts : List (List ℕ)) (rest : List ℕ) → test end ≡ true → AllByRecursion (AllByRecursion (λ b. test b ≡ false)) parts →
    ended_parts test (flat_map (λ part. part ++ end ∷ []) parts ++ rest) ≡ parts ++ ended_parts test rest
ended_parts-front test end [] rest ends none = refl
ended_parts-front test end (part ∷ parts) rest ends none =
    ap (ended_parts test) (one_part part (flat_map (λ p. p ++ end ∷ []) parts) rest end)
    ∙ ended_parts-first test end part (flat_map (λ p. p ++ end ∷ []) parts ++ rest) ends none.0 ∙ ap (λ l. part ∷ l) (ended_parts-front test end parts rest ends none.1)

-- parts that each have their end are cut as they were
pub ended_parts-all : (test : ℕ → Bool) (end : ℕ) (parts : List (List ℕ)) → test end ≡ true → AllByRecursion (AllByRecursion (λ b. test b ≡ false)) parts →
    ended_parts test (flat_map (λ part. part ++ end ∷ []) parts) ≡ parts
unfolding ended_parts
ended_parts-all test end parts ends none =
    ap (ended_parts test) (sym (append-nil (flat_map (λ part. part ++ end ∷ []) parts))) ∙ ended_parts-front test end parts [] ends none ∙ append-nil parts

-- ---- bytes that are neither line ends nor blanks

-- a byte above the blank and all control bytes
abbrev pub IsMark : ℕ → Type 0
IsMark b = 33 ≤ b

-- a byte that is not a control byte
abbrev pub IsPlain : ℕ → Type 0
IsPlain b = 32 ≤ b

equal_not : (a b : ℕ) → (a ≡ b → ⊥) → (a == b) ≡ false
equal_not a b differs = grind (arith, nat_tests)

pub plain_no_feed : (b : ℕ) → IsPlain b → is_line_feed b ≡ false
plain_no_feed b is = equal_not b 10 (λ same. omega (arith, is, same))

pub mark_no_blank : (b : ℕ) → IsMark b → is_blank b ≡ false
mark_no_blank b is = ap (λ t. t || (b == 9)) (equal_not b 32 (λ same. omega (arith, is, same))) ∙ equal_not b 9 (λ same. omega (arith, is, same))

all_drop : (P : ℕ → Type 0) (n : ℕ) (text : List ℕ) → AllByRecursion P text → AllByRecursion P (drop n text)
all_drop P zero text all = all
all_drop P (suc n) [] all = tt
all_drop P (suc n) (b ∷ text) all = all_drop P n text all.1

plain_no_return : (text : List ℕ) → AllByRecursion IsPlain text → bytes_eq text (codes "\r") ≡ false
plain_no_return [] all = refl
plain_no_return (b ∷ text) all = ap (λ t. t && bytes_eq text []) (equal_not b 13 (λ same. omega (arith, all.0, same)))

-- a line of plain bytes has no CR
pub plain_kept : (text : List ℕ) → AllByRecursion IsPlain text → without_return text ≡ text
unfolding without_return
plain_kept text all =
    ap (λ t. cond t (take (length text - 1) text) text) (plain_no_return (drop (length text - 1) text) (all_drop IsPlain (length text - 1) text all))

low_test : (b : ℕ) → nat_le 32 b ≡ true → 32 ≤ b
low_test b is = grind (arith, nat_tests)

pub plain_from_test : (text : List ℕ) → list_all (λ b. nat_le 32 b) text ≡ true → AllByRecursion IsPlain text
plain_from_test [] is = tt
plain_from_test (b ∷ text) is =
    (low_test b (and_left (nat_le 32 b) (list_all (λ c. nat_le 32 c) text) is), plain_from_test text (and_right (nat_le 32 b) (list_all (λ c. nat_le 32 c) text) is))

pub plain_marks : (text : List ℕ) → AllByRecursion IsMark text → AllByRecursion IsPlain text
plain_marks text marks = AllByRecursion-weaker IsMark IsPlain (λ b mark. omega (arith, mark)) text marks

-- ---- no blanks at the ends

trimmed_marks : (text : List ℕ) → AllByRecursion IsMark text → trimmed_start text ≡ text
unfolding trimmed_start
trimmed_marks [] all = refl
trimmed_marks (b ∷ text) all = ap (λ t. cond t (trimmed_start text) (b ∷ text)) (mark_no_blank b all.0)

pub all_reversed : (P : ℕ → Type 0) (text : List ℕ) → AllByRecursion P text → AllByRecursion P (reverse text)
all_reversed P [] all = tt
all_reversed P (b ∷ text) all = subst (AllByRecursion P) (sym (reverse-append (b ∷ []) text)) (AllByRecursion-append P (reverse text) (b ∷ []) (all_reversed P text all.1) (all.0, tt))

pub ends_with_marks : (text : List ℕ) → AllByRecursion IsMark text → trimmed_end text ≡ text
unfolding trimmed_end
ends_with_marks text all = ap reverse (trimmed_marks (reverse text) (all_reversed IsMark text all)) ∙ reverse-reverse text

-- a blank before marks is cut off
pub blank_cut : (text : List ℕ) → AllByRecursion IsMark text → trimmed (32 ∷ text) ≡ text
unfolding trimmed_start
blank_cut text all = ap trimmed_end (trimmed_marks text all) ∙ ends_with_marks text all

-- ---- words

pub split_first : (part rest : List ℕ) → AllByRecursion IsMark part → slice_split is_blank (part ++ 32 ∷ rest) ≡ part ∷ slice_split is_blank rest
split_first [] rest marks = refl
split_first (b ∷ part) rest marks =
    ap (λ t. cond t ([] ∷ slice_split is_blank (part ++ 32 ∷ rest)) (onto_first b (slice_split is_blank (part ++ 32 ∷ rest)))) (mark_no_blank b marks.0) ∙ ap (onto_first b) (split_first part rest marks.1)

pub split_last : (part : List ℕ) → AllByRecursion IsMark part → slice_split is_blank part ≡ part ∷ []
split_last [] marks = refl
split_last (b ∷ part) marks =
    ap (λ t. cond t ([] ∷ slice_split is_blank part) (onto_first b (slice_split is_blank part))) (mark_no_blank b marks.0) ∙ ap (onto_first b) (split_last part marks.1)

-- ---- kept comments

pub comments_placed : (place : ℕ) (raw : List (List ℕ)) → comments_of (placed_lines place raw) ≡ filter is_kept (map without_return raw)
unfolding placed_lines
comments_placed place [] = refl
comments_placed place (text ∷ raw) =
    let later = comments_placed (place + length text + 1) raw in
    ap (λ l. cond (is_kept (without_return text)) (without_return text ∷ l) l) later
