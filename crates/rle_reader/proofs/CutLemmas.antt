-- Every body has exactly one cut into items.
use Rattle.std.proofs.Common.{◌≡◌, Bool, true, false, List, [], ◌∷◌, ◌++◌, refl, ap, subst, sym, ◌∙◌, append_assoc}
use Rattle.std.specs.List.{flat_map}
use Rattle.rle_reader.specs.declared.body.LocatedByte.{LocatedByte}
use Rattle.rle_reader.specs.Items.{Item, Items, AreItemsOf, is_digit, is_end, items_of, with_digit, with_tag}
use Rattle.rle_reader.proofs.ItemLemmas.{items_of-nil, items_of-digit, items_of-stop, items_of-other, items_of-tag, items_of-end}

cut-nil : AreItemsOf [] (record { items = []; left_over = [] })
cut-nil = record { each = tt; digits = tt; whole = ([], tt, refl) }

cut-stop : (stop : LocatedByte) (rest : List LocatedByte) → is_end stop ≡ true → AreItemsOf (stop ∷ rest) (record { items = []; left_over = [] })
cut-stop stop rest ends = record { each = tt; digits = tt; whole = (stop ∷ rest, ends, refl) }

cut-tag : (tag : LocatedByte) (rest : List LocatedByte) (found : Items) → is_digit tag ≡ false → is_end tag ≡ false → AreItemsOf rest found → AreItemsOf (tag ∷ rest) (with_tag tag found)
cut-tag tag rest found no_digit no_end are = record {
  each = (record { digits = tt; tag = no_digit; not_end = no_end }, are.each);
  digits = are.digits;
  whole = (are.whole.0, are.whole.1, ap (λ located_bytes. tag ∷ located_bytes) are.whole.2);
}

cut-digit : (digit : LocatedByte) (rest : List LocatedByte) (items : List Item) (over : List LocatedByte) → is_digit digit ≡ true → AreItemsOf rest (record { items = items; left_over = over }) → AreItemsOf (digit ∷ rest) (with_digit digit (record { items = items; left_over = over }))
unfolding with_digit
cut-digit digit rest [] over is are = record {
  each = tt;
  digits = (is, are.digits);
  whole = (are.whole.0, are.whole.1, ap (λ located_bytes. digit ∷ located_bytes) are.whole.2);
}
cut-digit digit rest (item ∷ items) over is are = record {
  each = (record { digits = (is, are.each.0.digits); tag = are.each.0.tag; not_end = are.each.0.not_end }, are.each.1);
  digits = are.digits;
  whole = (are.whole.0, are.whole.1, ap (λ located_bytes. digit ∷ located_bytes) are.whole.2);
}

cut-first : (first : LocatedByte) (rest : List LocatedByte) (digit end : Bool) → is_digit first ≡ digit → is_end first ≡ end → AreItemsOf rest (items_of rest) → AreItemsOf (first ∷ rest) (items_of (first ∷ rest))
cut-first first rest true end digit_is end_is are =
    subst (AreItemsOf (first ∷ rest)) (sym (items_of-digit first rest digit_is)) (cut-digit first rest (items_of rest).items (items_of rest).left_over digit_is are)
cut-first first rest false true digit_is end_is are =
    subst (AreItemsOf (first ∷ rest)) (sym (items_of-stop first rest digit_is end_is)) (cut-stop first rest end_is)
cut-first first rest false false digit_is end_is are =
    subst (AreItemsOf (first ∷ rest)) (sym (items_of-other first rest digit_is end_is)) (cut-tag first rest (items_of rest) digit_is end_is are)

-- the items of a body are a cut of it
pub items_of-cut : (body : List LocatedByte) → AreItemsOf body (items_of body)
items_of-cut [] = subst (AreItemsOf []) (sym items_of-nil) cut-nil
items_of-cut (first ∷ rest) = cut-first first rest (is_digit first) (is_end first) refl refl (items_of-cut rest)

cut-only : (body : List LocatedByte) (items : List Item) (over : List LocatedByte) → AreItemsOf body (record { items = items; left_over = over }) → record { items = items; left_over = over } ≡ items_of body
cut-only body [] over are = sym (ap items_of are.whole.2 ∙ items_of-end over are.whole.0 are.digits are.whole.1)
cut-only body (item ∷ items) over are =
    let pieces = flat_map (λ (i : Item). i.digits ++ i.tag ∷ []) items in
    let rest = are.whole.0 in
    let more = pieces ++ over ++ rest in
    let later = cut-only more items over (record { each = are.each.1; digits = are.digits; whole = (rest, are.whole.1, refl) }) in
    let whole : body ≡ item.digits ++ item.tag ∷ more =
    are.whole.2
    ∙ ap (λ front. front ++ rest) (append_assoc (item.digits ++ item.tag ∷ []) pieces over)
    ∙ append_assoc (item.digits ++ item.tag ∷ []) (pieces ++ over) rest
    ∙ append_assoc item.digits (item.tag ∷ []) more in
    ap (λ (found : Items). record { items = item ∷ found.items; left_over = found.left_over }) later
    ∙ sym (items_of-tag item.digits item.tag more are.each.0.digits are.each.0.tag are.each.0.not_end)
    ∙ ap items_of (sym whole)

-- and no other is
pub items_of-only : (body : List LocatedByte) (found : Items) → AreItemsOf body found → found ≡ items_of body
items_of-only body found are = cut-only body found.items found.left_over are
