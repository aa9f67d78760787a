-- The first fault of the items, one item after the other.
use Rattle.std.proofs.Common.{◌≡◌, ℕ, ◌==◌, ◌+◌, Bool, true, false, cond, List, [], ◌∷◌, ◌++◌, None, Some, Result, Ok, Err, refl, ap, sym, ◌∙◌, arith, ℤ, pos, nat_lt, ◌||◌, slice_range, int_le, drop}
use Rattle.std.specs.Option.{option_map, option_or}
use Rattle.std.proofs.lemmas.Bool.Decides.{nat_tests}
use Rattle.std.proofs.lemmas.Int.{ints}
use Rattle.plane.specs.declared.fault.Fault.{Fault}
use Rattle.plane.specs.declared.refusal.Refusal.{Refusal}
use Rattle.plane.specs.declared.refusal.Refusal.TheVariants.{BadCount, OutOfRange, TooManyCells}
use Rattle.rle_reader.specs.declared.body.LocatedByte.{LocatedByte}
use Rattle.text_lines.specs.Faults.{fault_at}
use Rattle.rle_reader.specs.Items.{Item, ItemSlice, place_of, count_of, tag_of, item_slice_between, item_slice_from, next_among}
use Rattle.rle_reader.specs.Meaning.{item_fault, state_after, first_fault_from}
use Rattle.text_lines.specs.Numbers.{capped}
use Rattle.rle_reader.specs.Range.{IsWithinReach}
use Rattle.rle_reader.specs.State.{State, after_item, leaves_range, passes_cells, passes_limit, when, faults_of, first_fault, motion_fault}
use Rattle.rle_reader.specs.declared.item.Tag.{Tag}
use Rattle.rle_reader.specs.declared.item.Tag.TheVariants.{Dead, Live, Row}
use Rattle.rle_reader.proofs.ItemLemmas.{seen_some, as_kept}

-- the column and the row are within reach
pub record InReach (state : State) : Type 0 where
  pub column : IsWithinReach state.column
  pub row : IsWithinReach state.row

passes_limit-capped : (coordinate : ℤ) (count : ℕ) → IsWithinReach coordinate → passes_limit coordinate (capped count) ≡ passes_limit coordinate count
passes_limit-capped coordinate count reach = grind (arith, ints, reach.low, reach.high)

small-count : (coordinate : ℤ) (count : ℕ) → IsWithinReach coordinate → passes_limit coordinate count ≡ false → capped count ≡ count
small-count coordinate count reach below = grind (arith, ints, reach.low, reach.high)

passes_cells-capped : (live count : ℕ) → nat_lt 268435456 (live + capped count) ≡ nat_lt 268435456 (live + count)
passes_cells-capped live count = grind (arith, nat_tests)

leaves-capped : (state : State) (tag : Tag) (count : ℕ) → InReach state → leaves_range state tag (capped count) ≡ leaves_range state tag count
leaves-capped state Dead count reach = passes_limit-capped state.column count reach.column
leaves-capped state Live count reach = ap (λ b. b || int_le (pos 4611686018427387904) state.row) (passes_limit-capped state.column count reach.column)
leaves-capped state Row count reach = passes_limit-capped state.row count reach.row

cells-capped : (state : State) (tag : Tag) (count : ℕ) → passes_cells state tag (capped count) ≡ passes_cells state tag count
cells-capped state Dead count = refl
cells-capped state Live count = passes_cells-capped state.live count
cells-capped state Row count = refl

-- capping a count changes no fault
motion_fault-capped : (state : State) (tag : Tag) (count : ℕ) → InReach state → motion_fault state tag (capped count) ≡ motion_fault state tag count
unfolding motion_fault
motion_fault-capped state tag count reach =
    ap (λ b. first_fault (when b OutOfRange ++ when (passes_cells state tag (capped count)) TooManyCells)) (leaves-capped state tag count reach)
    ∙ ap (λ b. first_fault (when (leaves_range state tag count) OutOfRange ++ when b TooManyCells)) (cells-capped state tag count)

pub either_false : (a b : Bool) → (a || b) ≡ false → a ≡ false
either_false true b h = h
either_false false b h = refl

stays-capped : (state : State) (tag : Tag) (count : ℕ) → InReach state → leaves_range state tag count ≡ false → capped count ≡ count
stays-capped state Dead count reach stays = small-count state.column count reach.column stays
stays-capped state Live count reach stays = small-count state.column count reach.column (either_false _ _ stays)
stays-capped state Row count reach stays = small-count state.row count reach.row stays

pub no_fault : (a b : Bool) → first_fault (when a OutOfRange ++ when b TooManyCells) ≡ None → a ≡ false
no_fault true b h = cc
no_fault false b h = refl

-- a count of an item without a fault is not capped
pub fits-capped : (state : State) (tag : Tag) (count : ℕ) → InReach state → motion_fault state tag count ≡ None → capped count ≡ count
unfolding motion_fault
fits-capped state tag count reach none = stays-capped state tag count reach (no_fault (leaves_range state tag count) (passes_cells state tag count) none)

faults_of-counted : (state : State) (tag : Tag) (count : ℕ) → (count == 0) ≡ false → first_fault (faults_of state (Ok tag) count) ≡ motion_fault state tag count
unfolding faults_of motion_fault
faults_of-counted state tag count some = rw some refl

item_fault-is : (state : State) (item : Item) (tag : Tag) → tag_of item.tag.byte ≡ Ok tag → (count_of item.digits == 0) ≡ false →
    item_fault state item ≡ option_map (λ refusal. fault_at refusal (place_of item.digits item.tag)) (motion_fault state tag (count_of item.digits))
unfolding item_fault
item_fault-is state item tag is some =
    ap (λ reading. option_map (λ refusal. fault_at refusal (place_of item.digits item.tag)) (first_fault (faults_of state reading (count_of item.digits)))) is
    ∙ ap (option_map (λ refusal. fault_at refusal (place_of item.digits item.tag))) (faults_of-counted state tag (count_of item.digits) some)

state_after-is : (left : ℤ) (state : State) (item : Item) (tag : Tag) → tag_of item.tag.byte ≡ Ok tag → state_after left state item ≡ after_item left state tag (count_of item.digits)
unfolding state_after
state_after-is left state item tag is = rw is refl

-- an item that was read has that tag and that count, and its count is not 0
pub record IsReading (reading : Result Tag Refusal) (count place : ℕ) (run : ItemSlice) : Type 0 where
  pub tag : reading ≡ Ok run.tag
  pub counted : (count == 0) ≡ false
  pub count_is : run.count ≡ capped count
  pub place_is : run.place ≡ place

counted_reading : (b : Bool) (source : List ℕ) (place count end : ℕ) (tag : Tag) (run : ItemSlice) → (count == 0) ≡ b →
    as_kept (seen_some (cond b (Err BadCount) (Ok (record { text = slice_range source place end; place = place; count = count; tag = tag }))) place) ≡ Ok (Some run) → IsReading (Ok tag) count place run
unfolding as_kept seen_some
counted_reading true source place count end tag run zero_is is = cc
counted_reading false source place count end tag run some is =
    let same : record { text = slice_range source place end; place = place; count = capped count; tag = tag } ≡ run = cc in
    record {
      tag = ap (λ (r : ItemSlice). Ok r.tag) same;
      counted = some;
      count_is = sym (ap (λ (r : ItemSlice). r.count) same);
      place_is = sym (ap (λ (r : ItemSlice). r.place) same);
    }

reading_of : (source : List ℕ) (place count end : ℕ) (reading : Result Tag Refusal) (run : ItemSlice) → as_kept (seen_some (item_slice_between source place count end reading) place) ≡ Ok (Some run) → IsReading reading count place run
unfolding as_kept seen_some
reading_of source place count end (Err refusal) run is = cc
reading_of source place count end (Ok tag) run is = counted_reading (count == 0) source place count end tag run refl is

module _ (left : ℤ) (state : State) (reach : InReach state) (source : List ℕ) (run : ItemSlice) where
  -- an item that was read has no other fault than where it leads
  reading_fault : (item : Item) → IsReading (tag_of item.tag.byte) (count_of item.digits) (place_of item.digits item.tag) run →
      item_fault state item ≡ option_map (λ refusal. fault_at refusal run.place) (motion_fault state run.tag run.count)
  reading_fault item read =
      item_fault-is state item run.tag read.tag read.counted
      ∙ ap (option_map (λ refusal. fault_at refusal (place_of item.digits item.tag)))
      (sym (motion_fault-capped state run.tag (count_of item.digits) reach) ∙ ap (motion_fault state run.tag) (sym read.count_is))
      ∙ ap (λ place. option_map (λ refusal. fault_at refusal place) (motion_fault state run.tag run.count)) (sym read.place_is)

  reading_state : (item : Item) → IsReading (tag_of item.tag.byte) (count_of item.digits) (place_of item.digits item.tag) run → motion_fault state run.tag run.count ≡ None →
      state_after left state item ≡ after_item left state run.tag run.count
  reading_state item read none =
      let fits = fits-capped state run.tag (count_of item.digits) reach
      (sym (motion_fault-capped state run.tag (count_of item.digits) reach) ∙ ap (motion_fault state run.tag) (sym read.count_is) ∙ none) in
      state_after-is left state item run.tag read.tag ∙ ap (after_item left state run.tag) (sym fits ∙ sym read.count_is)

  -- the items after one without a fault have the first fault of all
  pub first_fault-on : (items : List Item) (over : List LocatedByte) → as_kept (next_among source items over) ≡ Ok (Some run) → motion_fault state run.tag run.count ≡ None →
      first_fault_from left (after_item left state run.tag run.count) (drop 1 items) over ≡ first_fault_from left state items over
  unfolding as_kept seen_some next_among item_slice_from first_fault_from item_fault
  first_fault-on [] [] is none = cc
  first_fault-on [] (digit ∷ rest) is none = cc
  first_fault-on (item ∷ items) over is none =
      let read = reading_of source (place_of item.digits item.tag) (count_of item.digits) (item.tag.place + 1) (tag_of item.tag.byte) run is in
      sym (ap (λ o. option_or o (first_fault_from left (state_after left state item) items over))
      (reading_fault item read ∙ ap (option_map (λ refusal. fault_at refusal run.place)) none)
      ∙ ap (λ s. first_fault_from left s items over) (reading_state item read none))

  -- an item with a fault is the first
  pub first_fault-here : (items : List Item) (over : List LocatedByte) (refusal : Refusal) → as_kept (next_among source items over) ≡ Ok (Some run) → motion_fault state run.tag run.count ≡ Some refusal →
      first_fault_from left state items over ≡ Some (fault_at refusal run.place)
  unfolding as_kept seen_some next_among item_slice_from first_fault_from item_fault
  first_fault-here [] [] refusal is some = cc
  first_fault-here [] (digit ∷ rest) refusal is some = cc
  first_fault-here (item ∷ items) over refusal is some =
      let read = reading_of source (place_of item.digits item.tag) (count_of item.digits) (item.tag.place + 1) (tag_of item.tag.byte) run is in
      ap (λ o. option_or o (first_fault_from left (state_after left state item) items over))
      (reading_fault item read ∙ ap (option_map (λ refusal. fault_at refusal run.place)) some)

some_read : (found : Result ItemSlice Refusal) (place : ℕ) → as_kept (seen_some found place) ≡ Ok None → ⊥
unfolding as_kept seen_some
some_read (Ok run) place is = cc
some_read (Err refusal) place is = cc

counted_refused : (b : Bool) (state : State) (source : List ℕ) (place count end : ℕ) (tag : Tag) (fault : Fault) → (count == 0) ≡ b →
    as_kept (seen_some (cond b (Err BadCount) (Ok (record { text = slice_range source place end; place = place; count = count; tag = tag }))) place) ≡ Err fault →
    option_map (λ refusal. fault_at refusal place) (first_fault (faults_of state (Ok tag) count)) ≡ Some fault
unfolding as_kept seen_some faults_of
counted_refused true state source place count end tag fault zero_is is = rw zero_is (ap Some cc)
counted_refused false state source place count end tag fault some is = cc

refused_read : (state : State) (source : List ℕ) (place count end : ℕ) (reading : Result Tag Refusal) (fault : Fault) → as_kept (seen_some (item_slice_between source place count end reading) place) ≡ Err fault →
    option_map (λ refusal. fault_at refusal place) (first_fault (faults_of state reading count)) ≡ Some fault
unfolding as_kept seen_some faults_of
refused_read state source place count end (Err refusal) fault is = ap Some cc
refused_read state source place count end (Ok tag) fault is = counted_refused (count == 0) state source place count end tag fault refl is

module _ (left : ℤ) (state : State) (source : List ℕ) where
  -- no items, and no fault
  pub first_fault-none : (items : List Item) (over : List LocatedByte) → as_kept (next_among source items over) ≡ Ok None → first_fault_from left state items over ≡ None
  unfolding as_kept seen_some next_among item_slice_from first_fault_from item_fault
  first_fault-none [] [] is = refl
  first_fault-none [] (digit ∷ rest) is = cc
  first_fault-none (item ∷ items) over is = absurd (some_read (item_slice_between source (place_of item.digits item.tag) (count_of item.digits) (item.tag.place + 1) (tag_of item.tag.byte)) (place_of item.digits item.tag) is)

  -- an item that could not be read
  pub first_fault-read : (items : List Item) (over : List LocatedByte) (fault : Fault) → as_kept (next_among source items over) ≡ Err fault → first_fault_from left state items over ≡ Some fault
  unfolding as_kept seen_some next_among item_slice_from first_fault_from item_fault
  first_fault-read [] [] fault is = cc
  first_fault-read [] (digit ∷ rest) fault is = ap Some (cc)
  first_fault-read (item ∷ items) over fault is =
      ap (λ o. option_or o (first_fault_from left (state_after left state item) items over))
      (refused_read state source (place_of item.digits item.tag) (count_of item.digits) (item.tag.place + 1) (tag_of item.tag.byte) fault is)
