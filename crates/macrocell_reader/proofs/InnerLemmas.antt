-- The numbers of a line, one after the other.
use Rattle.std.proofs.Common.{◌≡◌, ℕ, ◌+◌, ◌-◌, ◌<◌, ◌≤◌, Bool, true, false, not, cond, nat_lt, min, List, [], ◌∷◌, length, take, drop, map, filter, Option, Some, None, unwrap_or, refl, ap, sym, ◌∙◌, arith, one-add, ◌⊎◌, inl, inr, ⊎_elim}
use Rattle.std.specs.List.{slice_split, position, position_or_len, onto_first}
use Rattle.std.specs.Option.{option_map}
use Rattle.std.proofs.lemmas.Bool.Decides.{nat_tests}
use Rattle.std.proofs.lemmas.List.{nil_from_length, take_rest}
use Rattle.std.proofs.lemmas.List.Sums.{prefix_len-le-length}
use Rattle.text_lines.specs.Bytes.{is_blank, trimmed_start}
use Rattle.text_lines.specs.Numbers.{number_of, capped}
use Rattle.text_lines.proofs.TrimLemmas.{trimmed_start-nil, trimmed_start-blank, trimmed_start-mark}
use Rattle.macrocell_reader.specs.Inner.{is_field, fields, numbers, inner_of, begins_with_number}
use Rattle.macrocell_reader.specs.Nodes.{kept}
use Rattle.macrocell_reader.specs.declared.node.Node.{Node}
use Rattle.macrocell_reader.specs.declared.node.Node.TheVariants.{Inner}

-- ---- fields

fields-blank : (first : ℕ) (rest : List ℕ) → is_blank first ≡ true → fields (first ∷ rest) ≡ fields rest
fields-blank first rest blank = rw blank refl

fields-trimmed_by : (first : ℕ) (rest : List ℕ) (b : Bool) → is_blank first ≡ b → fields (trimmed_start rest) ≡ fields rest → fields (trimmed_start (first ∷ rest)) ≡ fields (first ∷ rest)
fields-trimmed_by first rest true blank later = ap fields (trimmed_start-blank first rest blank) ∙ later ∙ sym (fields-blank first rest blank)
fields-trimmed_by first rest false mark later = ap fields (trimmed_start-mark first rest mark)

-- blanks at the front are not fields
fields-trimmed : (text : List ℕ) → fields (trimmed_start text) ≡ fields text
fields-trimmed [] = ap fields trimmed_start-nil
fields-trimmed (first ∷ rest) = fields-trimmed_by first rest (is_blank first) refl (fields-trimmed rest)

-- the first byte is not a blank, if there is one
abbrev pub begins_blank : List ℕ → Bool
begins_blank [] = false
begins_blank (first ∷ rest) = is_blank first

begins_trimmed_by : (first : ℕ) (rest : List ℕ) (b : Bool) → is_blank first ≡ b → begins_blank (trimmed_start rest) ≡ false → begins_blank (trimmed_start (first ∷ rest)) ≡ false
begins_trimmed_by first rest true blank later = ap begins_blank (trimmed_start-blank first rest blank) ∙ later
begins_trimmed_by first rest false mark later = ap begins_blank (trimmed_start-mark first rest mark) ∙ mark

begins_trimmed : (text : List ℕ) → begins_blank (trimmed_start text) ≡ false
begins_trimmed [] = ap begins_blank trimmed_start-nil
begins_trimmed (first ∷ rest) = begins_trimmed_by first rest (is_blank first) refl (begins_trimmed rest)

-- the parts of a text after its first byte
later_parts : List ℕ → List (List ℕ)
later_parts [] = []
later_parts (first ∷ rest) = slice_split is_blank rest

-- how long the part before the first blank is
abbrev pub first_length : List ℕ → ℕ
first_length text = position_or_len is_blank text

split_step : (b : Bool) (first : ℕ) (rest : List ℕ) (n : ℕ) → slice_split is_blank rest ≡ take n rest ∷ later_parts (drop n rest) →
    cond b ([] ∷ slice_split is_blank rest) (onto_first first (slice_split is_blank rest))
    ≡ take (cond (not b) (1 + n) 0) (first ∷ rest) ∷ later_parts (drop (cond (not b) (1 + n) 0) (first ∷ rest))
unfolding later_parts
split_step true first rest n h = refl
split_step false first rest n h = rw (h, one-add) refl

split_first : (text : List ℕ) → slice_split is_blank text ≡ take (first_length text) text ∷ later_parts (drop (first_length text) text)
unfolding later_parts
split_first [] = refl
split_first (first ∷ rest) = split_step (is_blank first) first rest (first_length rest) (split_first rest)

later_step : (b : Bool) (first : ℕ) (rest : List ℕ) (n : ℕ) → is_blank first ≡ b → filter is_field (later_parts (drop n rest)) ≡ fields (drop n rest) →
    filter is_field (later_parts (drop (cond (not b) (1 + n) 0) (first ∷ rest))) ≡ fields (drop (cond (not b) (1 + n) 0) (first ∷ rest))
unfolding later_parts
later_step true first rest n blank h = sym (fields-blank first rest blank)
later_step false first rest n mark h = rw one-add h

later_fields : (text : List ℕ) → filter is_field (later_parts (drop (first_length text) text)) ≡ fields (drop (first_length text) text)
unfolding later_parts
later_fields [] = refl
later_fields (first ∷ rest) = later_step (is_blank first) first rest (first_length rest) refl (later_fields rest)

first_some : (b : Bool) (first : ℕ) (rest : List ℕ) (n : ℕ) → b ≡ false → is_field (take (cond (not b) (1 + n) 0) (first ∷ rest)) ≡ true
first_some true first rest n mark = cc
first_some false first rest n mark = rw one-add refl

keeps_first : (b : Bool) (field : List ℕ) (others : List (List ℕ)) → b ≡ true → cond b (field ∷ others) others ≡ field ∷ others
keeps_first true field others some = refl
keeps_first false field others some = cc

-- the first field of a text that begins with none of its blanks
fields-first : (first : ℕ) (rest : List ℕ) → is_blank first ≡ false → let text = first ∷ rest in
    fields text ≡ take (first_length text) text ∷ fields (drop (first_length text) text)
fields-first first rest mark =
    let text = first ∷ rest in
    ap (filter is_field) (split_first text)
    ∙ keeps_first (is_field (take (first_length text) text)) (take (first_length text) text) (filter is_field (later_parts (drop (first_length text) text))) (first_some (is_blank first) first rest (first_length rest) mark)
    ∙ ap (λ others. take (first_length text) text ∷ others) (later_fields text)

-- ---- numbers

numbers-trimmed : (text : List ℕ) → numbers (trimmed_start text) ≡ numbers text
unfolding numbers
numbers-trimmed text = ap (map number_of) (fields-trimmed text)

numbers-nil : numbers [] ≡ []
unfolding numbers
numbers-nil = refl

pub numbers-first : (first : ℕ) (rest : List ℕ) → is_blank first ≡ false → let text = first ∷ rest in
    numbers text ≡ number_of (take (first_length text) text) ∷ numbers (drop (first_length text) text)
unfolding numbers
numbers-first first rest mark = ap (map number_of) (fields-first first rest mark)

number_of-nil : number_of [] ≡ None
unfolding number_of
number_of-nil = refl

none_first : (rest : List ℕ) → begins_blank rest ≡ false → number_of (take (first_length rest) rest) ≡ None → begins_with_number (numbers rest) ≡ false
none_first [] mark none = ap begins_with_number numbers-nil
none_first (first ∷ rest) mark none = ap begins_with_number (numbers-first first rest mark) ∙ ap (λ (o : Option ℕ). begins_with_number (o ∷ numbers (drop (first_length (first ∷ rest)) (first ∷ rest)))) none

some_first : (rest : List ℕ) (number : ℕ) → begins_blank rest ≡ false → number_of (take (first_length rest) rest) ≡ Some number → numbers rest ≡ Some number ∷ numbers (drop (first_length rest) rest)
some_first [] number mark some = let e : None ≡ Some number = sym number_of-nil ∙ some in cc
some_first (first ∷ rest) number mark some = numbers-first first rest mark ∙ ap (λ o. o ∷ numbers (drop (first_length (first ∷ rest)) (first ∷ rest))) some

not_some : (found : Option ℕ) → None ≡ option_map capped found → found ≡ None
not_some None h = refl
not_some (Some number) h = cc

is_capped : (found : Option ℕ) (value : ℕ) → Some value ≡ option_map capped found → (number : ℕ) × (found ≡ Some number) × (value ≡ capped number)
is_capped None value h = cc
is_capped (Some number) value h = (number, refl, cc)

module _ (text rest : List ℕ) (n : ℕ) (is : rest ≡ trimmed_start text) (far : n ≡ first_length rest) where
  mark : begins_blank rest ≡ false
  mark = ap begins_blank is ∙ begins_trimmed text

  -- no number stands at the front of a text
  pub numbers-none : None ≡ option_map capped (number_of (take n rest)) → begins_with_number (numbers text) ≡ false
  numbers-none none =
      ap begins_with_number (sym (numbers-trimmed text) ∙ ap numbers (sym is))
      ∙ none_first rest mark (ap (λ k. number_of (take k rest)) (sym far) ∙ not_some (number_of (take n rest)) none)

  -- a number stands at the front of a text
  pub numbers-some : (value : ℕ) → Some value ≡ option_map capped (number_of (take n rest)) →
      (number : ℕ) × (numbers text ≡ Some number ∷ numbers (take (length rest - n) (drop n rest))) × (value ≡ capped number)
  numbers-some value some =
      let found = is_capped (number_of (take n rest)) value some in
      let first : number_of (take (first_length rest) rest) ≡ Some found.0 = ap (λ k. number_of (take k rest)) (sym far) ∙ found.1 in (
        found.0,
        sym (numbers-trimmed text) ∙ ap numbers (sym is) ∙ some_first rest found.0 mark first
            ∙ ap (λ k. Some found.0 ∷ numbers (drop k rest)) (sym far)
            ∙ ap (λ left. Some found.0 ∷ numbers left) (sym (take_rest rest n)),
        found.2,
      )

place_of : (b : Bool) (place end : ℕ) → nat_lt place end ≡ b → place ≤ end → unwrap_or (cond b (Some place) None) end ≡ place
place_of true place end below within = refl
place_of false place end past within = grind (arith, nat_tests)

-- a place that may be the end
pub place_or_end : (text : List ℕ) → unwrap_or (position is_blank text) (length text) ≡ first_length text
place_or_end text = place_of (nat_lt (first_length text) (length text)) (first_length text) (length text) refl (prefix_len-le-length (λ byte. not (is_blank byte)) text)

-- no number is left
pub numbers-end : (text rest : List ℕ) → rest ≡ trimmed_start text → length rest ≡ 0 → numbers text ≡ []
numbers-end text rest is none = sym (numbers-trimmed text) ∙ ap numbers (sym is ∙ nil_from_length rest none) ∙ numbers-nil

no_more : (found : List (Option ℕ)) → begins_with_number found ≡ false → (found ≡ []) ⊎ ((rest : List (Option ℕ)) × (found ≡ None ∷ rest))
no_more [] none = inl refl
no_more (None ∷ rest) none = inr (rest, refl)
no_more (Some number ∷ rest) none = cc

-- a field is left
pub fields_left : (text rest : List ℕ) → rest ≡ trimmed_start text → 0 < length rest → (first : Option ℕ) × (others : List (Option ℕ)) × (numbers text ≡ first ∷ others)
fields_left text [] is some = absurd (omega arith)
fields_left text (first ∷ rest) is some = (
  number_of (take (first_length (first ∷ rest)) (first ∷ rest)),
  numbers (drop (first_length (first ∷ rest)) (first ∷ rest)),
  sym (numbers-trimmed text) ∙ ap numbers (sym is) ∙ numbers-first first rest (ap begins_blank is ∙ begins_trimmed text),
)

-- ---- five numbers

-- the node that these numbers write, as a machine keeps it
unfoldable pub node_from : List (Option ℕ) → Option Node
node_from found = option_map kept (inner_of found)

pub node_from-is : (found : List (Option ℕ)) → node_from found ≡ option_map kept (inner_of found)
unfolding node_from
node_from-is found = refl

module _ (found : List (Option ℕ)) (none : begins_with_number found ≡ false) where
  pub too_few-0 : node_from found ≡ None
  unfolding node_from inner_of
  too_few-0 = ⊎_elim (λ e. rw e refl) (λ e. rw e.1 refl) (no_more found none)

  pub too_few-1 : (a : ℕ) → node_from (Some a ∷ found) ≡ None
  unfolding node_from inner_of
  too_few-1 a = ⊎_elim (λ e. rw e refl) (λ e. rw e.1 refl) (no_more found none)

  pub too_few-2 : (a b : ℕ) → node_from (Some a ∷ Some b ∷ found) ≡ None
  unfolding node_from inner_of
  too_few-2 a b = ⊎_elim (λ e. rw e refl) (λ e. rw e.1 refl) (no_more found none)

  pub too_few-3 : (a b d : ℕ) → node_from (Some a ∷ Some b ∷ Some d ∷ found) ≡ None
  unfolding node_from inner_of
  too_few-3 a b d = ⊎_elim (λ e. rw e refl) (λ e. rw e.1 refl) (no_more found none)

  pub too_few-4 : (a b d e : ℕ) → node_from (Some a ∷ Some b ∷ Some d ∷ Some e ∷ found) ≡ None
  unfolding node_from inner_of
  too_few-4 a b d e = ⊎_elim (λ e. rw e refl) (λ e. rw e.1 refl) (no_more found none)

-- what stands behind a number
pub after : {found rest later : List (Option ℕ)} (number : ℕ) → found ≡ Some number ∷ rest → rest ≡ later → found ≡ Some number ∷ later
after number is more = is ∙ ap (λ (left : List (Option ℕ)). Some number ∷ left) more

five_is : (a b d e f : ℕ) → node_from (Some a ∷ Some b ∷ Some d ∷ Some e ∷ Some f ∷ []) ≡ Some (kept (Inner a (b ∷ d ∷ e ∷ f ∷ [])))
unfolding node_from inner_of
five_is a b d e f = refl

pub five_kept : (a b d e f level nw ne sw se : ℕ) → level ≡ min a 255 → nw ≡ min b 4294967295 → ne ≡ min d 4294967295 → sw ≡ min e 4294967295 → se ≡ min f 4294967295 →
    Some (Inner level (nw ∷ ne ∷ sw ∷ se ∷ [])) ≡ node_from (Some a ∷ Some b ∷ Some d ∷ Some e ∷ Some f ∷ [])
five_kept a b d e f level nw ne sw se is_level is_nw is_ne is_sw is_se = rw (is_level, is_nw, is_ne, is_sw, is_se) (sym (five_is a b d e f))

pub too_many : (a b d e f : ℕ) (first : Option ℕ) (rest : List (Option ℕ)) → node_from (Some a ∷ Some b ∷ Some d ∷ Some e ∷ Some f ∷ first ∷ rest) ≡ None
unfolding node_from inner_of
too_many a b d e f first rest = refl
