-- The bytes of a body that count, one after the other.
use Rattle.std.proofs.Common.{◌≡◌, ℕ, zero, suc, ◌<◌, ◌≤◌, ◌+◌, ◌-◌, Bool, true, false, not, cond, min, List, [], ◌∷◌, ◌++◌, length, take, drop, get_or, refl, ap, subst, sym, ◌∙◌, arith, ◌⊎◌, inl, inr, codes, ◌==◌, ◌&&◌}
use Rattle.std.specs.List.{position_or_len}
use Rattle.std.specs.Str.{bytes_eq}
use Rattle.std.proofs.lemmas.Bool.{cases_lt}
use Rattle.std.proofs.lemmas.Bool.Decides.{nat_tests}
use Rattle.std.proofs.lemmas.List.{drop_all, drop_more, drop-drop, take-append-drop}
use Rattle.std.proofs.lemmas.Slice.Eq.{bytes_eq-Decides}
use Rattle.text_lines.specs.Bytes.{ends_with}
use Rattle.text_lines.specs.Lines.{is_line_feed, lines, without_return}
use Rattle.text_lines.specs.Comments.{is_comment}
use Rattle.rle_reader.specs.Body.{located_bytes, significant, is_skipped, stripped, stripped_line, stripped_inside, stripped_from}
use Rattle.rle_reader.specs.declared.body.LocatedByte.{LocatedByte}
use Rattle.text_lines.proofs.LineLemmas.{lines-first, lines-nil}

located_bytes-cons : (place first : ℕ) (rest : List ℕ) → located_bytes place (first ∷ rest) ≡ record { place = place; byte = first } ∷ located_bytes (place + 1) rest
unfolding located_bytes
located_bytes-cons place first rest = refl

located_bytes-nil : (place : ℕ) → located_bytes place [] ≡ []
unfolding located_bytes
located_bytes-nil place = refl

-- a CR at the end does not count
significant-return : (place : ℕ) (text : List ℕ) → significant (located_bytes place (text ++ 13 ∷ [])) ≡ significant (located_bytes place text)
significant-return place [] = ap significant (located_bytes-cons place 13 []) ∙ ap significant (located_bytes-nil (place + 1)) ∙ ap significant (sym (located_bytes-nil place))
significant-return place (first ∷ rest) =
    ap significant (located_bytes-cons place first (rest ++ 13 ∷ []))
    ∙ ap (λ more. cond (not (is_skipped first)) (record { place = place; byte = first } ∷ more) more) (significant-return (place + 1) rest)
    ∙ ap significant (sym (located_bytes-cons place first rest))

split_end : (text : List ℕ) (n : ℕ) → bytes_eq (drop n text) (13 ∷ []) ≡ true → text ≡ take n text ++ 13 ∷ []
split_end text n same =
    sym (take-append-drop n text) ∙ ap (λ back. take n text ++ back) ((bytes_eq-Decides (drop n text) (13 ∷ [])).0 same)

ended : (b : Bool) (text : List ℕ) (n : ℕ) → (b ≡ true → text ≡ take n text ++ 13 ∷ []) → (cond b (take n text) text ≡ text) ⊎ (text ≡ cond b (take n text) text ++ 13 ∷ [])
ended true text n is = inr (is refl)
ended false text n is = inl refl

without_return-or : (text : List ℕ) → (without_return text ≡ text) ⊎ (text ≡ without_return text ++ 13 ∷ [])
unfolding without_return
without_return-or text = ended (ends_with (codes "\r") text) text (length text - 1) (split_end text (length text - 1))

pub significant-without_return : (place : ℕ) (text : List ℕ) → significant (located_bytes place (without_return text)) ≡ significant (located_bytes place text)
significant-without_return place text = by_end (without_return-or text)
  where
    by_end : (without_return text ≡ text) ⊎ (text ≡ without_return text ++ 13 ∷ []) → significant (located_bytes place (without_return text)) ≡ significant (located_bytes place text)
    by_end (inl same) = ap (λ t. significant (located_bytes place t)) same
    by_end (inr longer) = sym (significant-return place (without_return text)) ∙ ap (λ t. significant (located_bytes place t)) (sym longer)

is_comment-return : (text : List ℕ) → is_comment (text ++ 13 ∷ []) ≡ is_comment text
is_comment-return [] = refl
is_comment-return (first ∷ rest) = refl

pub is_comment-without_return : (text : List ℕ) → is_comment (without_return text) ≡ is_comment text
is_comment-without_return text = by_end (without_return-or text)
  where
    by_end : (without_return text ≡ text) ⊎ (text ≡ without_return text ++ 13 ∷ []) → is_comment (without_return text) ≡ is_comment text
    by_end (inl same) = ap is_comment same
    by_end (inr longer) = sym (is_comment-return (without_return text)) ∙ ap is_comment (sym longer)

stripped-nil : (place : ℕ) → stripped (lines place []) ≡ []
stripped-nil place = ap stripped (lines-nil place)

stripped-past : (place n : ℕ) (text : List ℕ) → length text ≤ n → stripped (lines place (drop n text)) ≡ []
stripped-past place n text past = ap (λ rest. stripped (lines place rest)) (drop_all n text past) ∙ stripped-nil place

stripped_line-comment : (place : ℕ) (text : List ℕ) → is_comment text ≡ true → stripped_line (record { place = place; text = text }) ≡ []
unfolding stripped_line
stripped_line-comment place text comment = rw comment refl

stripped_line-other : (place : ℕ) (text : List ℕ) → is_comment text ≡ false → stripped_line (record { place = place; text = text }) ≡ significant (located_bytes place text)
unfolding stripped_line
stripped_line-other place text other = rw other refl

position_step : (b : Bool) (n : ℕ) → b ≡ false → cond (not b) (1 + n) 0 ≡ suc n
position_step true n other = cc
position_step false n other = omega arith

-- no front of a text is a comment unless the text is one
is_comment-take : (n first : ℕ) (rest : List ℕ) → (first == 35) ≡ false → is_comment (take n (first ∷ rest)) ≡ false
is_comment-take zero first rest other = refl
is_comment-take (suc n) first rest other = other

module _ (place first : ℕ) (rest : List ℕ) (n step : ℕ) (is : n ≡ position_or_len is_line_feed (first ∷ rest)) (within : n ≤ length (first ∷ rest)) (far : step ≡ min (n + 1) (length (first ∷ rest))) where
  first_line : lines place (first ∷ rest) ≡ record { place = place; text = without_return (take n (first ∷ rest)) } ∷ lines (place + step) (drop step (first ∷ rest))
  first_line = lines-first place (first ∷ rest) n step (omega arith) is within far

  -- a comment is passed over
  pub stripped-comment : (first == 35) ≡ true → stripped (lines place (first ∷ rest)) ≡ stripped (lines (place + step) (drop step (first ∷ rest)))
  stripped-comment hash =
      let other : is_line_feed first ≡ false = grind (arith, nat_tests) in
      ap stripped first_line
      ∙ ap (λ found. found ++ stripped (lines (place + step) (drop step (first ∷ rest))))
      (stripped_line-comment place (without_return (take n (first ∷ rest)))
      (ap (λ m. is_comment (without_return (take m (first ∷ rest)))) (is ∙ position_step (is_line_feed first) (position_or_len is_line_feed rest) other)
      ∙ is_comment-without_return (take (suc (position_or_len is_line_feed rest)) (first ∷ rest)) ∙ hash))

  later_lines : (n < length (first ∷ rest)) ⊎ (length (first ∷ rest) ≤ n) → stripped (lines (place + step) (drop step (first ∷ rest))) ≡ stripped (lines (place + n + 1) (drop (n + 1) (first ∷ rest)))
  later_lines (inl below) =
      let step_is : step ≡ n + 1 = omega arith in
      let place_is : place + step ≡ place + n + 1 = omega arith in
      ap (λ at. stripped (lines at (drop step (first ∷ rest)))) place_is
      ∙ ap (λ m. stripped (lines (place + n + 1) (drop m (first ∷ rest)))) step_is
  later_lines (inr past) =
      stripped-past (place + step) step (first ∷ rest) (omega arith) ∙ sym (stripped-past (place + n + 1) (n + 1) (first ∷ rest) (omega arith))

  -- any other line counts from its beginning on
  pub stripped-line : (first == 35) ≡ false → stripped (lines place (first ∷ rest)) ≡ stripped_inside place (first ∷ rest)
  unfolding stripped_inside
  stripped-line other =
      ap stripped first_line
      ∙ ap (λ found. found ++ stripped (lines (place + step) (drop step (first ∷ rest))))
      (stripped_line-other place (without_return (take n (first ∷ rest)))
      (is_comment-without_return (take n (first ∷ rest)) ∙ is_comment-take n first rest other)
      ∙ significant-without_return place (take n (first ∷ rest)))
      ∙ ap (λ more. significant (located_bytes place (take n (first ∷ rest))) ++ more) (later_lines (cases_lt n (length (first ∷ rest))))
      ∙ ap (λ m. significant (located_bytes place (take m (first ∷ rest))) ++ stripped (lines (place + m + 1) (drop (m + 1) (first ∷ rest)))) is

-- the byte before these, unless it is skipped
with_byte : Bool → LocatedByte → List LocatedByte → List LocatedByte
with_byte true located more = more
with_byte false located more = located ∷ more

significant-cons : (located : LocatedByte) (more : List LocatedByte) → significant (located ∷ more) ≡ with_byte (is_skipped located.byte) located (significant more)
unfolding with_byte
significant-cons located more = elim (is_skipped located.byte) as (λ b. cond (not b) (located ∷ significant more) (significant more) ≡ with_byte b located (significant more)) [ true ↦ refl | false ↦ refl ]

with_byte-append : (b : Bool) (located : LocatedByte) (more rest : List LocatedByte) → with_byte b located more ++ rest ≡ with_byte b located (more ++ rest)
unfolding with_byte
with_byte-append true located more rest = refl
with_byte-append false located more rest = refl

-- one byte of a line that has begun, which is no LF
stripped_inside-byte : (place first : ℕ) (rest : List ℕ) → is_line_feed first ≡ false → stripped_inside place (first ∷ rest) ≡ with_byte (is_skipped first) (record { place = place; byte = first }) (stripped_inside (place + 1) rest)
unfolding stripped_inside
stripped_inside-byte place first rest other =
    let n = position_or_len is_line_feed rest in
    let located : LocatedByte = record { place = place; byte = first } in
    let place_is : place + suc n + 1 ≡ place + 1 + n + 1 = omega arith in
    let drop_is : suc n + 1 ≡ suc (n + 1) = omega arith in
    ap (λ m. significant (located_bytes place (take m (first ∷ rest))) ++ stripped (lines (place + m + 1) (drop (m + 1) (first ∷ rest)))) (position_step (is_line_feed first) n other)
    ∙ ap (λ m. significant (located_bytes place (first ∷ take n rest)) ++ stripped (lines (place + suc n + 1) (drop m (first ∷ rest)))) drop_is
    ∙ ap (λ found. significant found ++ stripped (lines (place + suc n + 1) (drop (n + 1) rest))) (located_bytes-cons place first (take n rest))
    ∙ ap (λ found. found ++ stripped (lines (place + suc n + 1) (drop (n + 1) rest))) (significant-cons located (located_bytes (place + 1) (take n rest)))
    ∙ with_byte-append (is_skipped first) located (significant (located_bytes (place + 1) (take n rest))) (stripped (lines (place + suc n + 1) (drop (n + 1) rest)))
    ∙ ap (λ at. with_byte (is_skipped first) located (significant (located_bytes (place + 1) (take n rest)) ++ stripped (lines at (drop (n + 1) rest)))) place_is

end_step : (b : Bool) (n : ℕ) → b ≡ true → cond (not b) (1 + n) 0 ≡ 0
end_step true n ends = refl
end_step false n ends = cc

-- the LF of a line that has begun
stripped_inside-end : (place first : ℕ) (rest : List ℕ) → is_line_feed first ≡ true → stripped_inside place (first ∷ rest) ≡ stripped (lines (place + 1) rest)
unfolding stripped_inside
stripped_inside-end place first rest ends =
    let place_is : place + 0 + 1 ≡ place + 1 = omega arith in
    ap (λ m. significant (located_bytes place (take m (first ∷ rest))) ++ stripped (lines (place + m + 1) (drop (m + 1) (first ∷ rest)))) (end_step (is_line_feed first) (position_or_len is_line_feed rest) ends)
    ∙ ap (λ found. significant found ++ stripped (lines (place + 0 + 1) (drop (0 + 1) (first ∷ rest)))) (located_bytes-nil place)
    ∙ ap (λ at. stripped (lines at rest)) place_is

stripped_inside-nil : (place : ℕ) → stripped_inside place [] ≡ []
unfolding stripped_inside
stripped_inside-nil place = ap (λ found. significant found ++ stripped (lines (place + 0 + 1) [])) (located_bytes-nil place) ∙ stripped-nil (place + 0 + 1)

within_step : (b : Bool) (n m : ℕ) → n ≤ m → cond b (1 + n) 0 ≤ suc m
within_step true n m h = omega arith
within_step false n m h = omega arith

position_or_len-le : (test : ℕ → Bool) (text : List ℕ) → position_or_len test text ≤ length text
position_or_len-le test [] = omega arith
position_or_len-le test (first ∷ rest) = within_step (not (test first)) (position_or_len test rest) (length rest) (position_or_len-le test rest)

-- ---- of a source

module _ (source : List ℕ) (at : ℕ) where
  pub stripped_from-end : (begins : Bool) → length source ≤ at → stripped_from source at begins ≡ []
  unfolding stripped_from
  stripped_from-end true past = stripped-past at at source past
  stripped_from-end false past = ap (stripped_inside at) (drop_all at source past) ∙ stripped_inside-nil at

  module _ (within : at < length source) where
    left : drop at source ≡ get_or source at 0 ∷ drop (at + 1) source
    left = drop_more source at 0 within

    inside : (begins : Bool) → (begins && get_or source at 0 == 35) ≡ false → stripped_from source at begins ≡ stripped_inside at (get_or source at 0 ∷ drop (at + 1) source)
    unfolding stripped_from
    inside true other =
        ap (λ rest. stripped (lines at rest)) left
        ∙ stripped-line at (get_or source at 0) (drop (at + 1) source) (position_or_len is_line_feed (get_or source at 0 ∷ drop (at + 1) source)) _ refl
        (position_or_len-le is_line_feed (get_or source at 0 ∷ drop (at + 1) source)) refl other
    inside false other = ap (stripped_inside at) left

    -- at the start of a line that is not a comment it makes no difference whether the line has
    -- begun
    pub stripped_from-begun : (get_or source at 0 == 35) ≡ false → stripped_from source at false ≡ stripped_from source at true
    stripped_from-begun other = inside false refl ∙ sym (inside true other)

    -- a byte that counts
    pub stripped_from-byte : (begins : Bool) → (begins && get_or source at 0 == 35) ≡ false → is_skipped (get_or source at 0) ≡ false →
        stripped_from source at begins ≡ record { place = at; byte = get_or source at 0 } ∷ stripped_from source (at + 1) (get_or source at 0 == 10)
    unfolding stripped_from with_byte
    stripped_from-byte begins other counts =
        let located : LocatedByte = record { place = at; byte = get_or source at 0 } in
        let no_end : (get_or source at 0 == 10) ≡ false = grind (arith, nat_tests) in
        inside begins other
        ∙ stripped_inside-byte at (get_or source at 0) (drop (at + 1) source) no_end
        ∙ ap (λ b. with_byte b located (stripped_inside (at + 1) (drop (at + 1) source))) counts
        ∙ ap (λ b. located ∷ stripped_from source (at + 1) b) (sym no_end)

    -- the same where the line has begun
    pub first_left : is_skipped (get_or source at 0) ≡ false →
        stripped_from source at false ≡ record { place = at; byte = get_or source at 0 } ∷ stripped_from source (at + 1) false
    first_left counts =
        let no_end : (get_or source at 0 == 10) ≡ false = grind (arith, nat_tests) in
        stripped_from-byte false refl counts
        ∙ ap (λ b. record { place = at; byte = get_or source at 0 } ∷ stripped_from source (at + 1) b) no_end

    skipped_end : (ends : Bool) → is_line_feed (get_or source at 0) ≡ ends → is_skipped (get_or source at 0) ≡ true → stripped_inside at (get_or source at 0 ∷ drop (at + 1) source) ≡ stripped_from source (at + 1) ends
    unfolding stripped_from with_byte
    skipped_end true is skipped = stripped_inside-end at (get_or source at 0) (drop (at + 1) source) is
    skipped_end false is skipped =
        stripped_inside-byte at (get_or source at 0) (drop (at + 1) source) is
        ∙ ap (λ b. with_byte b (record { place = at; byte = get_or source at 0 }) (stripped_inside (at + 1) (drop (at + 1) source))) skipped

    -- a byte that does not
    pub stripped_from-skipped : (begins : Bool) → (begins && get_or source at 0 == 35) ≡ false → is_skipped (get_or source at 0) ≡ true →
        stripped_from source at begins ≡ stripped_from source (at + 1) (get_or source at 0 == 10)
    stripped_from-skipped begins other skipped = inside begins other ∙ skipped_end (get_or source at 0 == 10) refl skipped

    -- a comment
    pub stripped_from-comment : (n step : ℕ) → get_or source at 0 ≡ 35 → n ≡ position_or_len is_line_feed (drop at source) → n ≤ length (drop at source) → step ≡ min (n + 1) (length (drop at source)) →
        stripped_from source at true ≡ stripped_from source (at + step) true
    unfolding stripped_from
    stripped_from-comment n step hash is fits far =
        let hash_is : (get_or source at 0 == 35) ≡ true = grind (arith, nat_tests) in
        ap (λ rest. stripped (lines at rest)) left
        ∙ stripped-comment at (get_or source at 0) (drop (at + 1) source) n step
        (is ∙ ap (position_or_len is_line_feed) left) (subst (λ rest. n ≤ length rest) left fits) (far ∙ ap (λ rest. min (n + 1) (length rest)) left) hash_is
        ∙ ap (λ rest. stripped (lines (at + step) (drop step rest))) (sym left)
        ∙ ap (λ rest. stripped (lines (at + step) rest)) (drop-drop step at source)
