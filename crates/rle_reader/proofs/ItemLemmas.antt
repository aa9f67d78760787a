-- The first item of a body, and the items after it.
use Rattle.std.proofs.Common.{◌≡◌, ℕ, ◌<◌, ◌+◌, ◌==◌, ◌↔◌, Bool, true, false, cond, List, [], ◌∷◌, ◌++◌, length, map, Option, None, Some, Result, Ok, Err, IfOk, IfSome, IfNone, OnSome, IsTrue, refl, ap, subst, sym, ◌∙◌, arith, fold, append_assoc, length-append, slice_range}
use Rattle.std.proofs.lemmas.List.{map-append}
use Rattle.std.proofs.lemmas.Bool.{eqb-true}
use Rattle.std.specs.Char.{is_ascii_digit}
use Rattle.std.specs.List.{AllByRecursion}
use Rattle.std.specs.Option.{option_map}
use Rattle.std.specs.Result.{result_map_both}
use Rattle.std.proofs.lemmas.Bool.Decides.{nat_tests}
use Rattle.text_lines.proofs.NumberLemmas.{capped_step}
use Rattle.plane.specs.declared.fault.Fault.{Fault}
use Rattle.plane.specs.declared.refusal.Refusal.{Refusal}
use Rattle.plane.specs.declared.refusal.Refusal.TheVariants.{BadCount}
use Rattle.rle_reader.specs.declared.body.LocatedByte.{LocatedByte}
use Rattle.text_lines.specs.Faults.{fault_at}
use Rattle.rle_reader.specs.Items.{ItemSlice, IsEnd, is_digit, is_end, items_of, with_digit, with_tag, place_of, count_of, tag_of, item_slice_between, item_slice_from, next_among, next_of, items_after, kept}
use Rattle.text_lines.specs.Numbers.{decimal_value, capped}
use Rattle.text_lines.specs.Numbers as numbers
use Rattle.rle_reader.specs.Seen.{IsCount}
use Rattle.rle_reader.specs.declared.item.Count.{Count}
use Rattle.std.specs.Option.{option_to_list}
use Rattle.rle_reader.specs.declared.item.Tag.{Tag}

-- all of these are digits
abbrev pub AreDigits : List LocatedByte → Type 0
AreDigits digits = AllByRecursion (λ located. is_digit located ≡ true) digits

pub items_of-digit : (digit : LocatedByte) (rest : List LocatedByte) → is_digit digit ≡ true → items_of (digit ∷ rest) ≡ with_digit digit (items_of rest)
unfolding items_of
items_of-digit digit rest is = rw is refl

pub items_of-stop : (stop : LocatedByte) (rest : List LocatedByte) → is_digit stop ≡ false → is_end stop ≡ true → items_of (stop ∷ rest) ≡ record { items = []; left_over = [] }
unfolding items_of
items_of-stop stop rest no_digit ends = rw (no_digit, ends) refl

pub items_of-other : (tag : LocatedByte) (rest : List LocatedByte) → is_digit tag ≡ false → is_end tag ≡ false → items_of (tag ∷ rest) ≡ with_tag tag (items_of rest)
unfolding items_of
items_of-other tag rest no_digit no_end = rw (no_digit, no_end) refl

pub items_of-nil : items_of [] ≡ record { items = []; left_over = [] }
unfolding items_of
items_of-nil = refl

-- digits and then a tag are the first item
pub items_of-tag : (digits : List LocatedByte) (tag : LocatedByte) (rest : List LocatedByte) → AreDigits digits → is_digit tag ≡ false → is_end tag ≡ false →
    items_of (digits ++ tag ∷ rest) ≡ record { items = record { digits = digits; tag = tag } ∷ (items_of rest).items; left_over = (items_of rest).left_over }
unfolding with_digit
items_of-tag [] tag rest each no_digit no_end = items_of-other tag rest no_digit no_end
items_of-tag (digit ∷ digits) tag rest each no_digit no_end =
    items_of-digit digit (digits ++ tag ∷ rest) each.0
    ∙ ap (with_digit digit) (items_of-tag digits tag rest each.1 no_digit no_end)

-- digits and then the end are left over
pub items_of-end : (digits rest : List LocatedByte) → AreDigits digits → IsEnd rest → items_of (digits ++ rest) ≡ record { items = []; left_over = digits }
unfolding with_digit
items_of-end [] [] each ends = items_of-nil
items_of-end [] (stop ∷ rest) each ends = items_of-stop stop rest (ap (λ b. is_ascii_digit b) (eqb-true stop.byte 33 ends)) ends
items_of-end (digit ∷ digits) rest each ends =
    items_of-digit digit (digits ++ rest) each.0
    ∙ ap (with_digit digit) (items_of-end digits rest each.1 ends)

first_place : (digits : List LocatedByte) (first tag : LocatedByte) (mid rest : List LocatedByte) → first ∷ mid ≡ digits ++ tag ∷ rest → first.place ≡ place_of digits tag
first_place [] first tag mid rest whole = cc
first_place (digit ∷ digits) first tag mid rest whole = cc

unfoldable pub seen_some : Result ItemSlice Refusal → ℕ → Result (Option ItemSlice) Fault
seen_some found place = result_map_both (λ run. Some run) (λ refusal. fault_at refusal place) found

unfoldable pub as_kept : Result (Option ItemSlice) Fault → Result (Option ItemSlice) Fault
as_kept found = result_map_both (option_map kept) (λ fault. fault) found

kept_if : (b : Bool) (run : ItemSlice) (place : ℕ) → seen_some (cond b (Err BadCount) (Ok (kept run))) place ≡ as_kept (seen_some (cond b (Err BadCount) (Ok run)) place)
unfolding seen_some as_kept
kept_if true run place = refl
kept_if false run place = refl

kept_as : (source : List ℕ) (place count end at : ℕ) (tag : Result Tag Refusal) → seen_some (item_slice_between source place (capped count) end tag) at ≡ as_kept (seen_some (item_slice_between source place count end tag) at)
unfolding seen_some as_kept
kept_as source place count end at (Err refusal) = refl
kept_as source place count end at (Ok tag) =
    let run : ItemSlice = record { text = slice_range source place end; place = place; count = count; tag = tag } in
    let same : (capped count == 0) ≡ (count == 0) = grind (arith, nat_tests) in
    ap (λ b. seen_some (cond b (Err BadCount) (Ok (kept run))) at) same ∙ kept_if (count == 0) run at

-- ---- the slice from a place to a tag

module _ (source : List ℕ) (place count : ℕ) (located : LocatedByte) where
  abbrev said_of : Result Tag Refusal → Result (Option ItemSlice) Fault
  said_of reading = result_map_both (λ run. Some run) (λ refusal. fault_at refusal place) (item_slice_between source place count (located.place + 1) reading)

  abbrev said : Result (Option ItemSlice) Fault
  said = result_map_both (λ run. Some run) (λ refusal. fault_at refusal place) (item_slice_from source place count located)

  pub item_slice-no_tag : (refusal : Refusal) (fault : Fault) → Err refusal ≡ tag_of located.byte → fault ≡ fault_at refusal place → Err fault ≡ said
  unfolding item_slice_from
  item_slice-no_tag refusal fault reading is = ap Err is ∙ ap said_of reading

  pub item_slice-no_count : (tag : Tag) (fault : Fault) → Ok tag ≡ tag_of located.byte → count ≡ 0 → fault ≡ fault_at BadCount place → Err fault ≡ said
  unfolding item_slice_from
  item_slice-no_count tag fault reading none is =
      ap Err is
      ∙ ap (λ b. result_map_both (λ run. Some run) (λ refusal. fault_at refusal place) (cond {A = Result ItemSlice Refusal} b (Err BadCount) (Ok (record { text = slice_range source place (located.place + 1); place = place; count = count; tag = tag })))) (sym (ap (λ n. n == 0) none))
      ∙ ap said_of reading

  pub item_slice-counted : (tag : Tag) (text : List ℕ) → Ok tag ≡ tag_of located.byte → (count ≡ 0 → ⊥) → text ≡ slice_range source place (located.place + 1) →
      Ok (Some (record { text = text; place = place; count = count; tag = tag })) ≡ said
  unfolding item_slice_from
  item_slice-counted tag text reading some text_is =
      let counted : (count == 0) ≡ false = grind (arith, nat_tests) in
      ap (λ (t : List ℕ). Ok (Some (record { text = t; place = place; count = count; tag = tag }))) text_is
      ∙ ap (λ b. result_map_both (λ run. Some run) (λ refusal. fault_at refusal place) (cond {A = Result ItemSlice Refusal} b (Err BadCount) (Ok (record { text = slice_range source place (located.place + 1); place = place; count = count; tag = tag })))) (sym counted)
      ∙ ap said_of reading

-- capping the count before or after makes no difference
kept-item_slice_from : (source : List ℕ) (place count : ℕ) (tag : LocatedByte) → seen_some (item_slice_from source place (capped count) tag) place ≡ as_kept (seen_some (item_slice_from source place count tag) place)
unfolding seen_some as_kept item_slice_from
kept-item_slice_from source place count tag = kept_as source place count (tag.place + 1) place (tag_of tag.byte)

next_of-tag : (source : List ℕ) (digits : List LocatedByte) (tag : LocatedByte) (rest : List LocatedByte) → AreDigits digits → is_digit tag ≡ false → is_end tag ≡ false →
    next_of source (items_of (digits ++ tag ∷ rest)) ≡ seen_some (item_slice_from source (place_of digits tag) (count_of digits) tag) (place_of digits tag)
unfolding seen_some next_among
next_of-tag source digits tag rest each no_digit no_end = ap (next_of source) (items_of-tag digits tag rest each no_digit no_end)

pub next-tagged : (source : List ℕ) (all digits : List LocatedByte) (first tag : LocatedByte) (mid rest : List LocatedByte) (value : ℕ) (found : Result (Option ItemSlice) Fault) →
    all ≡ first ∷ mid → first ∷ mid ≡ digits ++ tag ∷ rest → AreDigits digits → is_digit tag ≡ false → is_end tag ≡ false → value ≡ capped (count_of digits) →
    found ≡ result_map_both (λ run. Some run) (λ refusal. fault_at refusal first.place) (item_slice_from source first.place value tag) →
    found ≡ result_map_both (option_map kept) (λ fault. fault) (next_of source (items_of all))
unfolding seen_some as_kept
next-tagged source all digits first tag mid rest value found all_is whole each no_digit no_end value_is is =
    is
    ∙ ap (λ place. seen_some (item_slice_from source place value tag) place) (first_place digits first tag mid rest whole)
    ∙ ap (λ count. seen_some (item_slice_from source (place_of digits tag) count tag) (place_of digits tag)) value_is
    ∙ kept-item_slice_from source (place_of digits tag) (count_of digits) tag
    ∙ ap as_kept (sym (next_of-tag source digits tag rest each no_digit no_end))
    ∙ ap (λ located_bytes. as_kept (next_of source (items_of located_bytes))) (sym (all_is ∙ whole))

pub rest-tagged : (all digits : List LocatedByte) (tag : LocatedByte) (rest : List LocatedByte) → all ≡ digits ++ tag ∷ rest → AreDigits digits → is_digit tag ≡ false → is_end tag ≡ false →
    items_of rest ≡ items_after (items_of all)
rest-tagged all digits tag rest whole each no_digit no_end =
    ap items_after (sym (items_of-tag digits tag rest each no_digit no_end)) ∙ ap (λ located_bytes. items_after (items_of located_bytes)) (sym whole)

pub on_next : {T E : Type 0} (r : Result (Option T) E) (P : Type 0) → P → IfOk r (λ next. OnSome next P)
on_next (Ok None) P h = tt
on_next (Ok (Some x)) P h = h
on_next (Err e) P h = tt

written_end : (source : List ℕ) (digits : List LocatedByte) (first : LocatedByte) (mid rest : List LocatedByte) (written : Bool) → first ∷ mid ≡ digits ++ rest → (IsTrue written ↔ (0 < length digits)) →
    cond {A = Result (Option ItemSlice) Fault} written (Err (fault_at BadCount first.place)) (Ok None) ≡ as_kept (next_among source [] digits)
unfolding as_kept next_among
written_end source [] first mid rest true whole is = absurd (omega (arith, is.0 refl))
written_end source [] first mid rest false whole is = refl
written_end source (digit ∷ digits) first mid rest true whole is = ap (λ place. Err (fault_at BadCount place)) cc
written_end source (digit ∷ digits) first mid rest false whole is =
    let some : 0 < length (digit ∷ digits) = omega arith in
    let impossible = is.1 some in
    cc

pub next-untagged : (source : List ℕ) (all digits : List LocatedByte) (first : LocatedByte) (mid rest : List LocatedByte) (written : Bool) (found : Result (Option ItemSlice) Fault) →
    all ≡ first ∷ mid → first ∷ mid ≡ digits ++ rest → AreDigits digits → IsEnd rest → (IsTrue written ↔ (0 < length digits)) →
    found ≡ cond written (Err (fault_at BadCount first.place)) (Ok None) →
    found ≡ result_map_both (option_map kept) (λ fault. fault) (next_of source (items_of all))
unfolding as_kept
next-untagged source all digits first mid rest written found all_is whole each ends is_written is =
    is ∙ written_end source digits first mid rest written whole is_written
    ∙ ap (λ items. as_kept (next_of source items)) (sym (items_of-end digits rest each ends))
    ∙ ap (λ located_bytes. as_kept (next_of source (items_of located_bytes))) (sym (all_is ∙ whole))

pub next-nil : (source : List ℕ) (all : List LocatedByte) → all ≡ [] → Ok None ≡ result_map_both (option_map kept) (λ fault. fault) (next_of source (items_of all))
unfolding next_among
next-nil source all none = ap (λ items. result_map_both (option_map kept) (λ fault. fault) (next_of source items)) (sym (ap items_of none ∙ items_of-nil))

-- ---- the digits of a count, one after the other

-- the digits at the front of these bytes have this value, and these bytes are left
pub record IsRead (all : List LocatedByte) (value : ℕ) (left : List LocatedByte) : Type 0 where
  pub digits : List LocatedByte
  pub each : AreDigits digits
  pub whole : all ≡ digits ++ left
  pub some : 0 < length digits
  pub value_is : value ≡ capped (decimal_value (map (λ located. located.byte) digits))

fold_push : (value : ℕ) (bytes : List ℕ) (last : ℕ) → fold numbers.with_digit value (bytes ++ last ∷ []) ≡ numbers.with_digit (fold numbers.with_digit value bytes) last
fold_push value [] last = refl
fold_push value (first ∷ rest) last = fold_push (numbers.with_digit value first) rest last

pub read-first : (first : LocatedByte) (left : List LocatedByte) (value : ℕ) → is_digit first ≡ true → value ≡ capped (numbers.with_digit 0 first.byte) → IsRead (first ∷ left) value left
read-first first left value is value_is = record {
  digits = first ∷ [];
  each = (is, tt);
  whole = refl;
  some = omega arith;
  value_is = value_is;
}

digits_push : (digits : List LocatedByte) (digit : LocatedByte) → AreDigits digits → is_digit digit ≡ true → AreDigits (digits ++ digit ∷ [])
digits_push [] digit each is = (is, tt)
digits_push (first ∷ rest) digit each is = (each.0, digits_push rest digit each.1 is)

pub read-more : (all left : List LocatedByte) (value next : ℕ) (digit : LocatedByte) → IsRead all value (digit ∷ left) → is_digit digit ≡ true → next ≡ capped (numbers.with_digit value digit.byte) → IsRead all next left
read-more all left value next digit read is next_is = record {
  digits = read.digits ++ digit ∷ [];
  each = digits_push read.digits digit read.each is;
  whole = read.whole ∙ sym (append_assoc read.digits (digit ∷ []) left);
  some = omega (arith, length-append read.digits (digit ∷ []));
  value_is =
      next_is ∙ ap (λ v. capped (numbers.with_digit v digit.byte)) read.value_is
      ∙ capped_step (decimal_value (map (λ located. located.byte) read.digits)) digit.byte
      ∙ ap capped (sym (fold_push 0 (map (λ located. located.byte) read.digits) digit.byte))
      ∙ ap (λ bytes. capped (decimal_value bytes)) (sym (map-append (λ (located : LocatedByte). located.byte) read.digits (digit ∷ [])));
}

count_of-some : (digits : List LocatedByte) → 0 < length digits → count_of digits ≡ decimal_value (map (λ located. located.byte) digits)
count_of-some [] some = absurd (omega arith)
count_of-some (first ∷ rest) some = refl

pub count-next : (all left : List LocatedByte) (value : ℕ) (next : LocatedByte) → IsRead all value (next ∷ left) → is_ascii_digit next.byte ≡ false → IsCount all (record { value = value; is_written = true; next = Some next }) left
count-next all left value next read other = record {
  digits = read.digits;
  each = read.each;
  whole = read.whole;
  next = other;
  end = tt;
  value = read.value_is ∙ ap capped (sym (count_of-some read.digits read.some));
  written = (λ _. read.some, λ _. refl);
}

pub count-end : (all left after : List LocatedByte) (value : ℕ) → IsRead all value left → left ≡ [] → after ≡ [] → IsCount all (record { value = value; is_written = true; next = None }) after
count-end all left after value read none after_none = record {
  digits = read.digits;
  each = read.each;
  whole = read.whole ∙ ap (λ rest. read.digits ++ rest) (none ∙ sym after_none);
  next = tt;
  end = after_none;
  value = read.value_is ∙ ap capped (sym (count_of-some read.digits read.some));
  written = (λ _. read.some, λ _. refl);
}

pub read-left : (all left other : List LocatedByte) (value : ℕ) → IsRead all value left → left ≡ other → IsRead all value other
read-left all left other value read same = record {
  digits = read.digits;
  each = read.each;
  whole = read.whole ∙ ap (λ rest. read.digits ++ rest) same;
  some = read.some;
  value_is = read.value_is;
}

-- what a count says of the byte after its digits
module _ (all left : List LocatedByte) (count : Count) (is : IsCount all count left) where
  pub counted-some : (last : LocatedByte) → count.next ≡ Some last → (all ≡ is.digits ++ last ∷ left) × (is_ascii_digit last.byte ≡ false)
  counted-some last next = (
    is.whole ∙ ap (λ o. is.digits ++ (option_to_list o ++ left)) next,
    subst (λ o. IfSome o (λ located. is_ascii_digit located.byte ≡ false)) next is.next,
  )

end-nil : (rest : List LocatedByte) → rest ≡ [] → IsEnd rest
end-nil [] none = tt
end-nil (first ∷ rest) none = cc

-- the digits of a count stand before the end, where the byte after them is a `!` or is missing
pub counted-end : (all left : List LocatedByte) (count : Count) → IsCount all count left → IfSome count.next (λ last. is_end last ≡ true) → IsEnd (option_to_list count.next ++ left)
counted-end all left count is ends = by_next count.next is.end ends
  where
    by_next : (next : Option LocatedByte) → IfNone next (left ≡ []) → IfSome next (λ last. is_end last ≡ true) → IsEnd (option_to_list next ++ left)
    by_next None none ends = end-nil left none
    by_next (Some last) none ends = ends

pub item_slice_from-source : (own source : List ℕ) (place value : ℕ) (tag : LocatedByte) (found : Result (Option ItemSlice) Fault) → own ≡ source →
    found ≡ result_map_both (λ run. Some run) (λ refusal. fault_at refusal place) (item_slice_from own place value tag) →
    found ≡ result_map_both (λ run. Some run) (λ refusal. fault_at refusal place) (item_slice_from source place value tag)
item_slice_from-source own source place value tag found same is =
    is ∙ ap (λ s. result_map_both (λ run. Some run) (λ refusal. fault_at refusal place) (item_slice_from s place value tag)) same
