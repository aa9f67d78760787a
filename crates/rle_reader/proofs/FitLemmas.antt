-- In an accepted body each count fits a machine, and the items stay in the range.
use Rattle.std.proofs.Common.{◌≡◌, ℕ, ◌==◌, ◌+◌, Bool, true, false, List, [], ◌∷◌, ◌++◌, map, Option, None, Some, Result, Ok, Err, refl, ap, sym, subst, ◌∙◌, arith, ℤ, pos, ◌+ℤ◌, append_assoc, slice_range}
use Rattle.std.specs.Option.{option_map, option_or}
use Rattle.std.specs.Result.{ok_prefix}
use Rattle.std.proofs.lemmas.Int.{ints}
use Rattle.plane.specs.declared.refusal.Refusal.{Refusal}
use Rattle.plane.specs.declared.refusal.Refusal.TheVariants.{BadCount, OutOfRange, TooManyCells}
use Rattle.rle_reader.specs.Body.{stripped, stripped_from}
use Rattle.rle_reader.specs.declared.body.LocatedByte.{LocatedByte}
use Rattle.text_lines.specs.Lines.{lines_from}
use Rattle.rle_reader.specs.Preamble.{PreambleMeaning}
use Rattle.rle_reader.specs.Seen.{preamble_meaning}
use Rattle.rle_reader.specs.declared.preamble.Preamble.{Preamble}
use Rattle.rle_reader.specs.Items.{Item, ItemSlice, place_of, count_of, tag_of, item_slice_from, run_of, kept, items_of}
use Rattle.rle_reader.specs.Meaning.{item_fault, state_after, first_fault_from, body_fault, meaning_of, runs_kept, StayInRange}
use Rattle.rle_reader.specs.Range.{IsWithinReach}
use Rattle.plane.specs.Range.{IsCoordinate, IsInRange}
use Rattle.rle_reader.specs.State.{State, start_at, after_item, leaves_range, passes_cells, passes_limit, when, faults_of, first_fault, motion_fault}
use Rattle.rle_reader.specs.declared.item.Tag.{Tag}
use Rattle.rle_reader.specs.declared.item.Tag.TheVariants.{Dead, Live, Row}
use Rattle.rle_reader.proofs.FaultLemmas.{InReach, fits-capped, either_false, no_fault}

pub or_none : {A : Type 0} (a b : Option A) → option_or a b ≡ None → (a ≡ None) × (b ≡ None)
or_none None b h = (refl, h)
or_none (Some x) b h = cc

mapped_none : {A B : Type 0} (f : A → B) (a : Option A) → option_map f a ≡ None → a ≡ None
mapped_none f None h = refl
mapped_none f (Some x) h = cc

moved_on : (coordinate : ℤ) (count : ℕ) → IsWithinReach coordinate → passes_limit coordinate count ≡ false → IsWithinReach (coordinate +ℤ pos count)
moved_on coordinate count reach below = record { low = omega (arith, ints, reach.low); high = grind (arith, ints) }

pub reach_after : (left : ℤ) (state : State) (tag : Tag) (count : ℕ) → IsWithinReach left → InReach state → leaves_range state tag count ≡ false → InReach (after_item left state tag count)
reach_after left state Dead count left_reach reach stays = record { column = moved_on state.column count reach.column stays; row = reach.row }
reach_after left state Live count left_reach reach stays = record { column = moved_on state.column count reach.column (either_false _ _ stays); row = reach.row }
reach_after left state Row count left_reach reach stays = record { column = left_reach; row = moved_on state.row count reach.row stays }

-- the reading of a tag has no fault in this state with this count
pub record IsGood (state : State) (reading : Result Tag Refusal) (count : ℕ) : Type 0 where
  pub tag : Tag
  pub is : reading ≡ Ok tag
  pub counted : (count == 0) ≡ false
  pub none : motion_fault state tag count ≡ None

-- of the two faults of a motion the second is absent too
no_second_fault : (a b : Bool) → first_fault (when a OutOfRange ++ when b TooManyCells) ≡ None → b ≡ false
no_second_fault true b h = cc
no_second_fault false true h = cc
no_second_fault false false h = refl

good_count : (b : Bool) (state : State) (tag : Tag) (count : ℕ) → (count == 0) ≡ b →
    first_fault (when b BadCount ++ (when (leaves_range state tag count) OutOfRange ++ when (passes_cells state tag count) TooManyCells)) ≡ None → IsGood state (Ok tag) count
unfolding motion_fault
good_count true state tag count zero_is none = cc
good_count false state tag count some none = record { tag = tag; is = refl; counted = some; none = none }

good_reading : (state : State) (reading : Result Tag Refusal) (count : ℕ) → first_fault (faults_of state reading count) ≡ None → IsGood state reading count
unfolding faults_of
good_reading state (Err refusal) count none = cc
good_reading state (Ok tag) count none =
    good_count (count == 0) state tag count refl
    (ap first_fault (sym (append_assoc (when (count == 0) BadCount) (when (leaves_range state tag count) OutOfRange) (when (passes_cells state tag count) TooManyCells))) ∙ none)

pub good_item : (state : State) (item : Item) → item_fault state item ≡ None → IsGood state (tag_of item.tag.byte) (count_of item.digits)
unfolding item_fault
good_item state item none = good_reading state (tag_of item.tag.byte) (count_of item.digits) (mapped_none _ _ none)

pub good_state : (left : ℤ) (state : State) (item : Item) (good : IsGood state (tag_of item.tag.byte) (count_of item.digits)) → state_after left state item ≡ after_item left state good.tag (count_of item.digits)
unfolding state_after
good_state left state item good = rw good.is refl

pub good_run : (source : List ℕ) (state : State) (item : Item) (good : IsGood state (tag_of item.tag.byte) (count_of item.digits)) →
    run_of source item ≡ Ok (record { text = slice_range source (place_of item.digits item.tag) (item.tag.place + 1); place = place_of item.digits item.tag; count = count_of item.digits; tag = good.tag })
unfolding item_slice_from
good_run source state item good = rw (good.is, good.counted) refl

kept_first : (found : Result ItemSlice Refusal) (run : ItemSlice) (rest : List (Result ItemSlice Refusal)) → found ≡ Ok run → kept run ≡ run → map kept (ok_prefix rest) ≡ ok_prefix rest → map kept (ok_prefix (found ∷ rest)) ≡ ok_prefix (found ∷ rest)
kept_first (Ok other) run rest is fits more =
    let same : other ≡ run = cc in
    ap (λ r. kept r ∷ map kept (ok_prefix rest)) same ∙ ap (λ r. r ∷ map kept (ok_prefix rest)) (fits ∙ sym same) ∙ ap (λ l. other ∷ l) more
kept_first (Err refusal) run rest is fits more = cc

-- without a fault each run is kept as it is
pub kept_runs-fit : (source : List ℕ) (left : ℤ) (state : State) (items : List Item) (over : List LocatedByte) → IsWithinReach left → InReach state → first_fault_from left state items over ≡ None →
    map kept (ok_prefix (map (run_of source) items)) ≡ ok_prefix (map (run_of source) items)
unfolding first_fault_from motion_fault
kept_runs-fit source left state [] over left_reach reach none = refl
kept_runs-fit source left state (item ∷ items) over left_reach reach none =
    let h = or_none (item_fault state item) (first_fault_from left (state_after left state item) items over) none in
    let good = good_item state item h.0 in
    let fits = fits-capped state good.tag (count_of item.digits) reach good.none in
    let stays = no_fault (leaves_range state good.tag (count_of item.digits)) (passes_cells state good.tag (count_of item.digits)) good.none in
    let run : ItemSlice = record { text = slice_range source (place_of item.digits item.tag) (item.tag.place + 1); place = place_of item.digits item.tag; count = count_of item.digits; tag = good.tag } in
    kept_first (run_of source item) run (map (run_of source) items) (good_run source state item good)
    (ap (λ (n : ℕ). record run { count = n }) fits)
    (kept_runs-fit source left (after_item left state good.tag (count_of item.digits)) items over left_reach
    (reach_after left state good.tag (count_of item.digits) left_reach reach stays)
    (ap (λ s. first_fault_from left s items over) (sym (good_state left state item good)) ∙ h.1))

pub within : (number : ℤ) → IsCoordinate number → IsWithinReach number
within number is = record { low = is.low; high = omega (arith, ints, is.high) }

-- the runs of an accepted body are those of its meaning
pub runs_kept-accepted : (source : List ℕ) (preamble : Preamble) → IsInRange preamble.settings.pos → body_fault preamble.settings.pos (items_of (stripped_from source preamble.body true)) ≡ None →
    runs_kept source (stripped_from source preamble.body true) ≡ (meaning_of source (preamble_meaning source preamble)).runs
unfolding runs_kept body_fault meaning_of stripped_from
runs_kept-accepted source preamble range none =
    let corner = preamble.settings.pos in
    let found = items_of (stripped (lines_from source preamble.body)) in
    let x = within corner.x range.x in
    let y = within corner.y range.y in
    kept_runs-fit source corner.x (start_at corner) found.items found.left_over x (record { column = x; row = y }) none

stay_first : (left : ℤ) (state : State) (found : Result ItemSlice Refusal) (run : ItemSlice) (rest : List (Result ItemSlice Refusal)) → found ≡ Ok run →
    leaves_range state run.tag run.count ≡ false → passes_cells state run.tag run.count ≡ false → StayInRange left (after_item left state run.tag run.count) (ok_prefix rest) →
    StayInRange left state (ok_prefix (found ∷ rest))
stay_first left state (Ok other) run rest is stays few more =
    let same : run ≡ other = cc in
    subst (λ (r : ItemSlice). StayInRange left state (r ∷ ok_prefix rest)) same (stays, few, more)
stay_first left state (Err refusal) run rest is stays few more = cc

-- without a fault the runs stay in the range, and their live cells are not too many
pub stay-without_fault : (source : List ℕ) (left : ℤ) (state : State) (items : List Item) (over : List LocatedByte) → first_fault_from left state items over ≡ None →
    StayInRange left state (ok_prefix (map (run_of source) items))
unfolding first_fault_from motion_fault
stay-without_fault source left state [] over none = tt
stay-without_fault source left state (item ∷ items) over none =
    let h = or_none (item_fault state item) (first_fault_from left (state_after left state item) items over) none in
    let good = good_item state item h.0 in
    let count = count_of item.digits in
    let stays = no_fault (leaves_range state good.tag count) (passes_cells state good.tag count) good.none in
    let few = no_second_fault (leaves_range state good.tag count) (passes_cells state good.tag count) good.none in
    let run : ItemSlice = record { text = slice_range source (place_of item.digits item.tag) (item.tag.place + 1); place = place_of item.digits item.tag; count = count; tag = good.tag } in
    stay_first left state (run_of source item) run (map (run_of source) items) (good_run source state item good) stays few
    (stay-without_fault source left (after_item left state good.tag count) items over
    (ap (λ s. first_fault_from left s items over) (sym (good_state left state item good)) ∙ h.1))

-- the runs of an accepted text stay in the range
pub stay-preamble : (text : List ℕ) (told : PreambleMeaning) → body_fault told.settings.pos (items_of (stripped told.body)) ≡ None →
    let meaning = meaning_of text told in StayInRange meaning.pos.x (start_at meaning.pos) meaning.runs
unfolding body_fault meaning_of
stay-preamble text told none =
    let corner = told.settings.pos in
    let found = items_of (stripped told.body) in
    stay-without_fault text corner.x (start_at corner) found.items found.left_over none

-- the same, where the preamble is what was read
pub stay-accepted : (source : List ℕ) (preamble : Preamble) → body_fault preamble.settings.pos (items_of (stripped_from source preamble.body true)) ≡ None →
    let meaning = meaning_of source (preamble_meaning source preamble) in StayInRange meaning.pos.x (start_at meaning.pos) meaning.runs
unfolding stripped_from
stay-accepted source preamble none = stay-preamble source (preamble_meaning source preamble) none
