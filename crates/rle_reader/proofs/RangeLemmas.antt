-- The items and the live cells of an accepted text lie in the range.
use Rattle.std.proofs.Common.{◌≡◌, ℕ, ◌+◌, ◌≤◌, Bool, true, false, ◌&&◌, ◌||◌, List, [], ◌∷◌, length, filter, Option, None, Some, Result, Ok, Err, IfOk, refl, sym, subst, ◌∙◌, arith, ◌⊎◌, inl, inr, ℤ, pos, ◌+ℤ◌, int_le, int_lt}
use Rattle.std.specs.Ordering.{int_eq}
use Rattle.std.proofs.lemmas.Bool.Decides.{nat_tests, Decides-int_eq}
use Rattle.std.proofs.lemmas.Int.{ints}
use Rattle.std.proofs.lemmas.List.Sums.{sum_by-cons}
use Rattle.plane.specs.Range.{IsCoordinate, IsInRange}
use Rattle.plane.specs.declared.fault.Fault.{Fault}
use Rattle.plane.specs.Limits.{coordinate_limit, most_live_cells}
use Rattle.rle_reader.specs.Body.{stripped}
use Rattle.rle_reader.specs.Items.{ItemSlice, items_of}
use Rattle.text_lines.specs.Faults.{unless}
use Rattle.text_lines.specs.Lines.{lines_from}
use Rattle.rle_reader.specs.Meaning.{Meaning, StayInRange, body_fault, covers, is_covered, is_live, judged, live_cells, live_plane, meaning_of}
use Rattle.rle_reader.specs.Preamble.{PreambleMeaning, preamble_of}
use Rattle.rle_reader.specs.Range.{IsWithinReach}
use Rattle.rle_reader.specs.State.{State, start_at, after_item, leaves_range, passes_cells, passes_limit}
use Rattle.rle_reader.specs.declared.item.Tag.{Tag}
use Rattle.rle_reader.specs.declared.item.Tag.TheVariants.{Dead, Live, Row}
use Rattle.rle_reader.proofs.FaultLemmas.{InReach}
use Rattle.rle_reader.proofs.FitLemmas.{reach_after, stay-preamble, within}
use Rattle.rle_reader.proofs.MeaningLemmas.{judged_with, judged-is}
use Rattle.rle_reader.proofs.PositionLemmas.{preamble_of-in_range}

-- ---- the live cells

either_true : (a b : Bool) → (a || b) ≡ true → (a ≡ true) ⊎ (b ≡ true)
either_true true b h = inl refl
either_true false b h = inr h

pub all_true : (a b c d : Bool) → (a && b && c && d) ≡ true → (b ≡ true) × (c ≡ true) × (d ≡ true)
all_true true true true d h = (refl, refl, h)
all_true true true false d h = cc
all_true true false c d h = cc
all_true false b c d h = cc

by_either : {A B C : Type 0} → A ⊎ B → (A → C) → (B → C) → C
by_either (inl a) f g = f a
by_either (inr b) f g = g b

neither : (a b : Bool) → (a || b) ≡ false → (a ≡ false) × (b ≡ false)
neither true b h = cc
neither false b h = (refl, h)

-- the cells of a run of live cells that stays in the range
run-in_range : (state : State) (tag : Tag) (count : ℕ) (x y : ℤ) → InReach state → leaves_range state tag count ≡ false →
    (is_live tag && int_eq y state.row && int_le state.column x && int_lt x (state.column +ℤ pos count)) ≡ true → IsInRange (record { y = y; x = x })
run-in_range state Dead count x y reach stays covered = cc
run-in_range state Row count x y reach stays covered = cc
run-in_range state Live count x y reach stays covered =
    let inside = neither (passes_limit state.column count) (int_le coordinate_limit state.row) stays in
    let covers_it = all_true (is_live Live) (int_eq y state.row) (int_le state.column x) (int_lt x (state.column +ℤ pos count)) covered in
    let row : y ≡ state.row = (Decides-int_eq y state.row).0 covers_it.0 in
    record {
      x = record { low = grind (arith, ints, reach.column.low, covers_it.1); high = grind (arith, ints, inside.0, covers_it.2) };
      y = subst IsCoordinate (sym row) (record { low = grind (arith, ints, reach.row.low); high = grind (arith, ints, inside.1) });
    }

covered-in_range : (left : ℤ) (state : State) (runs : List ItemSlice) (x y : ℤ) → IsWithinReach left → InReach state → StayInRange left state runs → is_covered left state runs x y ≡ true → IsInRange (record { y = y; x = x })
unfolding is_covered
covered-in_range left state [] x y left_reach reach stay covered = cc
covered-in_range left state (run ∷ runs) x y left_reach reach stay covered =
    by_either (either_true (covers state run x y) (is_covered left (after_item left state run.tag run.count) runs x y) covered)
    (λ here. run-in_range state run.tag run.count x y reach stay.0 here)
    (λ later. covered-in_range left (after_item left state run.tag run.count) runs x y left_reach
    (reach_after left state run.tag run.count left_reach reach stay.0) stay.2 later)

-- ---- how many they are

unfoldable pub live_count : Tag → ℕ → ℕ
live_count Live count = count
live_count Dead count = 0
live_count Row count = 0

pub live_cells-tag : (tag : Tag) (run : ItemSlice) (runs : List ItemSlice) → run.tag ≡ tag → live_cells (run ∷ runs) ≡ live_count tag run.count + live_cells runs
unfolding live_count
live_cells-tag Live run runs is = rw is (sum_by-cons (λ (r : ItemSlice). r.count) run (filter (λ (r : ItemSlice). is_live r.tag) runs))
live_cells-tag Dead run runs is = rw is (omega arith)
live_cells-tag Row run runs is = rw is (omega arith)

live_after : (left : ℤ) (state : State) (tag : Tag) (count : ℕ) → (after_item left state tag count).live ≡ state.live + live_count tag count
unfolding live_count
live_after left state Live count = refl
live_after left state Dead count = omega arith
live_after left state Row count = omega arith

few_after : (left : ℤ) (state : State) (tag : Tag) (count : ℕ) → state.live ≤ most_live_cells → passes_cells state tag count ≡ false → (after_item left state tag count).live ≤ most_live_cells
few_after left state Live count few below = grind (arith, nat_tests, below)
few_after left state Dead count few below = few
few_after left state Row count few below = few

live_cells-few : (left : ℤ) (state : State) (runs : List ItemSlice) → state.live ≤ most_live_cells → StayInRange left state runs → state.live + live_cells runs ≤ most_live_cells
live_cells-few left state [] few stay = omega (arith, few)
live_cells-few left state (run ∷ runs) few stay =
    let later = live_cells-few left (after_item left state run.tag run.count) runs (few_after left state run.tag run.count few stay.1) stay.2 in
    omega (arith, later, live_after left state run.tag run.count, live_cells-tag run.tag run runs refl)

-- ---- an accepted text

-- the meaning is that of an preamble without a fault
record IsAccepted (text : List ℕ) (meaning : Meaning) : Type 0 where
  preamble : PreambleMeaning
  is : meaning_of text preamble ≡ meaning
  in_range : IsInRange preamble.settings.pos
  none : body_fault preamble.settings.pos (items_of (stripped preamble.body)) ≡ None

accepted_unless : (text : List ℕ) (told : PreambleMeaning) (meaning : Meaning) (fault : Option Fault) → body_fault told.settings.pos (items_of (stripped told.body)) ≡ fault → IsInRange told.settings.pos →
    unless fault (meaning_of text told) ≡ Ok meaning → IsAccepted text meaning
accepted_unless text told meaning None none range is = record { preamble = told; is = cc; in_range = range; none = none }
accepted_unless text told meaning (Some fault) found range is = cc

accepted_with : (text : List ℕ) (meaning : Meaning) (found : Result PreambleMeaning Fault) → IfOk found (λ (o : PreambleMeaning). IsInRange o.settings.pos) → judged_with text found ≡ Ok meaning → IsAccepted text meaning
unfolding judged_with
accepted_with text meaning (Ok told) range is = accepted_unless text told meaning (body_fault told.settings.pos (items_of (stripped told.body))) refl range is
accepted_with text meaning (Err fault) range is = cc

accepted : (text : List ℕ) (meaning : Meaning) → judged text ≡ Ok meaning → IsAccepted text meaning
accepted text meaning is =
    accepted_with text meaning (preamble_of (length text) (lines_from text 0)) (preamble_of-in_range (length text) (lines_from text 0)) (sym (judged-is text) ∙ is)

meaning_of-pos : (text : List ℕ) (told : PreambleMeaning) → IsInRange told.settings.pos → IsInRange (meaning_of text told).pos
unfolding meaning_of
meaning_of-pos text told range = range

module _ (text : List ℕ) (meaning : Meaning) (is : judged text ≡ Ok meaning) where
  pub accepted-items : StayInRange meaning.pos.x (start_at meaning.pos) meaning.runs
  accepted-items =
      let h = accepted text meaning is in
      subst (λ (m : Meaning). StayInRange m.pos.x (start_at m.pos) m.runs) h.is (stay-preamble text h.preamble h.none)

  pub accepted-live_cells : live_cells meaning.runs ≤ most_live_cells
  accepted-live_cells =
      let few = live_cells-few meaning.pos.x (start_at meaning.pos) meaning.runs (omega arith) accepted-items in omega (arith, few)

  pub accepted-cells : (x y : ℤ) → live_plane meaning x y ≡ true → IsInRange (record { y = y; x = x })
  accepted-cells x y live =
      let h = accepted text meaning is in
      let range : IsInRange meaning.pos = subst (λ (m : Meaning). IsInRange m.pos) h.is (meaning_of-pos text h.preamble h.in_range) in
      let column = within meaning.pos.x range.x in
      covered-in_range meaning.pos.x (start_at meaning.pos) meaning.runs x y column (record { column = column; row = within meaning.pos.y range.y }) accepted-items live
