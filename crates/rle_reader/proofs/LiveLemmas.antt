-- The runs of live cells that are still to come, one byte after the other, and one item after the
-- other.
use Rattle.std.proofs.Common.{◌≡◌, ℕ, ◌+◌, ◌<◌, ◌≤◌, ◌⊎◌, inl, inr, length, get_or, ◌==◌, Bool, true, false, List, [], ◌∷◌, ◌++◌, map, fold, max, None, Result, Ok, Err, refl, ap, sym, ◌∙◌, arith, ℤ, pos, ◌+ℤ◌, slice_range}
use Rattle.std.specs.Result.{ok_prefix}
use Rattle.std.proofs.lemmas.Bool.{eqb-true}
use Rattle.std.proofs.lemmas.Bool.Decides.{nat_tests}
use Rattle.std.proofs.lemmas.Int.{ints}
use Rattle.plane.specs.declared.cell.Cell.{Cell}
use Rattle.plane.specs.declared.refusal.Refusal.{Refusal}
use Rattle.text_lines.specs.Numbers.{capped}
use Rattle.text_lines.specs.Numbers as numbers
use Rattle.text_lines.proofs.NumberLemmas.{capped-fold}
use Rattle.rle_reader.specs.Items.{Item, Items, ItemSlice, is_digit, is_end, items_of, with_digit, count_of, tag_of, run_of, place_of}
use Rattle.rle_reader.specs.LiveLeft.{live_left, runs_at, column_after, row_after, further}
use Rattle.rle_reader.specs.LiveRuns.{live_run, live_runs_from, live_runs_of}
use Rattle.rle_reader.specs.Meaning.{body_fault, item_fault, first_fault_from, meaning_of, state_after}
use Rattle.rle_reader.specs.Range.{IsWithinReach}
use Rattle.rle_reader.specs.State.{State, start_at, after_item, leaves_range, passes_cells, passes_limit, motion_fault}
use Rattle.rle_reader.specs.declared.body.LocatedByte.{LocatedByte}
use Rattle.rle_reader.specs.declared.item.Tag.{Tag}
use Rattle.rle_reader.specs.declared.item.Tag.TheVariants.{Dead, Live, Row}
use Rattle.std.specs.Char.{is_ascii_digit}
use Rattle.rle_reader.specs.Body.{is_skipped, stripped, stripped_from}
use Rattle.rle_reader.proofs.BodyLemmas.{first_left, stripped_from-end}
use Rattle.plane.specs.Range.{IsInRange}
use Rattle.text_lines.specs.Lines.{lines_from}
use Rattle.rle_reader.specs.Seen.{preamble_meaning}
use Rattle.rle_reader.specs.declared.preamble.Preamble.{Preamble}
use Rattle.rle_reader.proofs.FaultLemmas.{InReach, fits-capped, either_false, no_fault}
use Rattle.rle_reader.proofs.FitLemmas.{or_none, within, good_item, good_state, good_run, reach_after}
use Rattle.rle_reader.proofs.ItemLemmas.{items_of-nil, items_of-digit, items_of-stop, items_of-other}

-- ---- one byte after the other

pub live_left-nil : (left column row : ℤ) (count : ℕ) → live_left left column row count [] ≡ []
unfolding live_left
live_left-nil left column row count = refl

pub live_left-digit : (left column row : ℤ) (count : ℕ) (first : LocatedByte) (rest : List LocatedByte) → is_digit first ≡ true →
    live_left left column row count (first ∷ rest) ≡ live_left left column row (capped (numbers.with_digit count first.byte)) rest
unfolding live_left
live_left-digit left column row count first rest is = rw is refl

pub live_left-other : (left column row : ℤ) (count : ℕ) (first : LocatedByte) (rest : List LocatedByte) → is_digit first ≡ false →
    live_left left column row count (first ∷ rest) ≡ runs_at (λ tag. live_run (record { y = row; x = column }) tag (max count 1)
    ++ live_left left (column_after left column tag (max count 1)) (row_after row tag (max count 1)) 0 rest) (tag_of first.byte)
unfolding live_left
live_left-other left column row count first rest is = rw is refl

-- ---- the byte at a place of the text

skipped_bytes : (byte : ℕ) → is_skipped byte ≡ true → (byte ≡ 32) ⊎ ((byte ≡ 9) ⊎ ((byte ≡ 13) ⊎ (byte ≡ 10)))
skipped_bytes byte skipped = grind (arith, nat_tests)

skipped-no_tag : (byte : ℕ) (tag : Tag) → (byte ≡ 32) ⊎ ((byte ≡ 9) ⊎ ((byte ≡ 13) ⊎ (byte ≡ 10))) → tag_of byte ≡ Ok tag → ⊥
unfolding tag_of
skipped-no_tag byte tag (inl blank) is = let none = ap tag_of (sym blank) ∙ is in cc
skipped-no_tag byte tag (inr (inl tab)) is = let none = ap tag_of (sym tab) ∙ is in cc
skipped-no_tag byte tag (inr (inr (inl return))) is = let none = ap tag_of (sym return) ∙ is in cc
skipped-no_tag byte tag (inr (inr (inr line_feed))) is = let none = ap tag_of (sym line_feed) ∙ is in cc

not_skipped : (byte : ℕ) (tag : Tag) (skipped : Bool) → is_skipped byte ≡ skipped → tag_of byte ≡ Ok tag → is_skipped byte ≡ false
not_skipped byte tag true skipped is = absurd (skipped-no_tag byte tag (skipped_bytes byte skipped) is)
not_skipped byte tag false other is = other

module _ (source : List ℕ) (at : ℕ) (within : at < length source) (left column row : ℤ) (count : ℕ) where
  -- a digit
  pub left_digit : is_ascii_digit (get_or source at 0) ≡ true →
      live_left left column row count (stripped_from source at false)
      ≡ live_left left column row (capped (numbers.with_digit count (get_or source at 0))) (stripped_from source (at + 1) false)
  left_digit is =
      let counts : is_skipped (get_or source at 0) ≡ false = grind (arith, nat_tests) in
      ap (live_left left column row count) (first_left source at within counts)
      ∙ live_left-digit left column row count (record { place = at; byte = get_or source at 0 }) (stripped_from source (at + 1) false) is

  other_left : (reading : Result Tag Refusal) → is_ascii_digit (get_or source at 0) ≡ false → is_skipped (get_or source at 0) ≡ false → tag_of (get_or source at 0) ≡ reading →
      live_left left column row count (stripped_from source at false)
      ≡ runs_at (λ tag. live_run (record { y = row; x = column }) tag (max count 1)
      ++ live_left left (column_after left column tag (max count 1)) (row_after row tag (max count 1)) 0 (stripped_from source (at + 1) false)) reading
  other_left reading no_digit counts is =
      ap (live_left left column row count) (first_left source at within counts)
      ∙ live_left-other left column row count (record { place = at; byte = get_or source at 0 }) (stripped_from source (at + 1) false) no_digit
      ∙ ap (runs_at (λ tag. live_run (record { y = row; x = column }) tag (max count 1)
      ++ live_left left (column_after left column tag (max count 1)) (row_after row tag (max count 1)) 0 (stripped_from source (at + 1) false))) is

  -- a tag
  pub left_tag : (tag : Tag) → is_ascii_digit (get_or source at 0) ≡ false → tag_of (get_or source at 0) ≡ Ok tag →
      live_left left column row count (stripped_from source at false)
      ≡ live_run (record { y = row; x = column }) tag (max count 1)
      ++ live_left left (column_after left column tag (max count 1)) (row_after row tag (max count 1)) 0 (stripped_from source (at + 1) false)
  left_tag tag no_digit is = other_left (Ok tag) no_digit (not_skipped (get_or source at 0) tag (is_skipped (get_or source at 0)) refl is) is

  -- a byte that is none of these
  pub left_stop : (refusal : Refusal) → is_ascii_digit (get_or source at 0) ≡ false → is_skipped (get_or source at 0) ≡ false → tag_of (get_or source at 0) ≡ Err refusal →
      live_left left column row count (stripped_from source at false) ≡ []
  left_stop refusal no_digit counts is = other_left (Err refusal) no_digit counts is

-- the end of the text
pub left_end : (source : List ℕ) (at : ℕ) (left column row : ℤ) (count : ℕ) → length source ≤ at → live_left left column row count (stripped_from source at false) ≡ []
left_end source at left column row count past = ap (live_left left column row count) (stripped_from-end source at false past) ∙ live_left-nil left column row count

-- a tag that was passed, and what is then left
pub left_passed : (source after : List ℕ) (at at' : ℕ) (left column row left' column' row' : ℤ) (count cells : ℕ) (tag : Tag) → at < length source →
    is_ascii_digit (get_or source at 0) ≡ false → tag_of (get_or source at 0) ≡ Ok tag → cells ≡ max count 1 →
    after ≡ source → at' ≡ at + 1 → left' ≡ left → column' ≡ column_after left column tag cells → row' ≡ row_after row tag cells →
    live_left left column row count (stripped_from source at false)
    ≡ live_run (record { y = row; x = column }) tag cells ++ live_left left' column' row' 0 (stripped_from after at' false)
left_passed source after at at' left column row left' column' row' count cells tag within no_digit is cells_is after_is at_is left_is column_is row_is =
    left_tag source at within left column row count tag no_digit is
    ∙ ap (λ n. live_run (record { y = row; x = column }) tag n ++ live_left left (column_after left column tag n) (row_after row tag n) 0 (stripped_from source (at + 1) false)) (sym cells_is)
    ∙ ap (λ x. live_run (record { y = row; x = column }) tag cells ++ live_left left x (row_after row tag cells) 0 (stripped_from source (at + 1) false)) (sym column_is)
    ∙ ap (λ y. live_run (record { y = row; x = column }) tag cells ++ live_left left column' y 0 (stripped_from source (at + 1) false)) (sym row_is)
    ∙ ap (λ l. live_run (record { y = row; x = column }) tag cells ++ live_left l column' row' 0 (stripped_from source (at + 1) false)) (sym left_is)
    ∙ ap (λ a. live_run (record { y = row; x = column }) tag cells ++ live_left left' column' row' 0 (stripped_from source a false)) (sym at_is)
    ∙ ap (λ s. live_run (record { y = row; x = column }) tag cells ++ live_left left' column' row' 0 (stripped_from s at' false)) (sym after_is)

-- an item that is not of live cells is not a run
pub no_run : (first : Cell) (tag : Tag) (count : ℕ) (more : List (Cell × ℕ)) → (tag ≡ Live → ⊥) → live_run first tag count ++ more ≡ more
no_run first Dead count more other = refl
no_run first Row count more other = refl
no_run first Live count more other = absurd (other refl)

-- ---- one item after the other

-- the value of digits, of which a machine keeps what it can after each
unfoldable kept_value : ℕ → List LocatedByte → ℕ
kept_value count [] = count
kept_value count (digit ∷ digits) = kept_value (capped (numbers.with_digit count digit.byte)) digits

kept_value-is : (count : ℕ) (digits : List LocatedByte) → capped count ≡ count →
    kept_value count digits ≡ capped (fold numbers.with_digit count (map (λ (located : LocatedByte). located.byte) digits))
unfolding kept_value
kept_value-is count [] fits = sym fits
kept_value-is count (digit ∷ digits) fits =
    kept_value-is (capped (numbers.with_digit count digit.byte)) digits (omega arith)
    ∙ capped-fold (numbers.with_digit count digit.byte) (map (λ (located : LocatedByte). located.byte) digits)

-- the runs of these items, before whose first digits others of this value were read
unfoldable item_runs : ℤ → ℤ → ℤ → ℕ → List Item → List (Cell × ℕ)
item_runs left column row count [] = []
item_runs left column row count (item ∷ items) =
    let cells = max (kept_value count item.digits) 1 in
    runs_at (λ tag. live_run (record { y = row; x = column }) tag cells
    ++ item_runs left (column_after left column tag cells) (row_after row tag cells) 0 items) (tag_of item.tag.byte)

-- a byte that is `!` stands for no tag
no_tag : (first : LocatedByte) → is_end first ≡ true → (f : Tag → List (Cell × ℕ)) → runs_at f (tag_of first.byte) ≡ []
unfolding tag_of
no_tag first ends f = ap (λ b. runs_at f (tag_of b)) (eqb-true first.byte 33 ends)

runs_digit : (left column row : ℤ) (count : ℕ) (digit : LocatedByte) (items : List Item) (over : List LocatedByte) →
    item_runs left column row (capped (numbers.with_digit count digit.byte)) items ≡ item_runs left column row count (with_digit digit (record { items = items; left_over = over })).items
unfolding item_runs with_digit kept_value
runs_digit left column row count digit [] over = refl
runs_digit left column row count digit (item ∷ items) over = refl

-- where what holds of the bytes behind a tag is known, it holds of the tag
runs_tag : (left column row : ℤ) (count : ℕ) (rest : List LocatedByte) (items : List Item) →
    ((column' row' : ℤ) (count' : ℕ) → live_left left column' row' count' rest ≡ item_runs left column' row' count' items) → (reading : Result Tag Refusal) →
    runs_at (λ tag. live_run (record { y = row; x = column }) tag (max count 1)
    ++ live_left left (column_after left column tag (max count 1)) (row_after row tag (max count 1)) 0 rest) reading
    ≡ runs_at (λ tag. live_run (record { y = row; x = column }) tag (max count 1)
    ++ item_runs left (column_after left column tag (max count 1)) (row_after row tag (max count 1)) 0 items) reading
runs_tag left column row count rest items more (Err refusal) = refl
runs_tag left column row count rest items more (Ok tag) =
    ap (λ later. live_run (record { y = row; x = column }) tag (max count 1) ++ later)
    (more (column_after left column tag (max count 1)) (row_after row tag (max count 1)) 0)

runs_first : (left column row : ℤ) (count : ℕ) (first : LocatedByte) (rest : List LocatedByte) (digit end : Bool) → is_digit first ≡ digit → is_end first ≡ end →
    ((column' row' : ℤ) (count' : ℕ) → live_left left column' row' count' rest ≡ item_runs left column' row' count' (items_of rest).items) →
    live_left left column row count (first ∷ rest) ≡ item_runs left column row count (items_of (first ∷ rest)).items
unfolding item_runs kept_value
runs_first left column row count first rest true end is end_is more =
    live_left-digit left column row count first rest is
    ∙ more column row (capped (numbers.with_digit count first.byte))
    ∙ runs_digit left column row count first (items_of rest).items (items_of rest).left_over
    ∙ ap (λ (found : Items). item_runs left column row count found.items) (sym (items_of-digit first rest is))
runs_first left column row count first rest false true is ends more =
    live_left-other left column row count first rest is
    ∙ no_tag first ends _
    ∙ ap (λ (found : Items). item_runs left column row count found.items) (sym (items_of-stop first rest is ends))
runs_first left column row count first rest false false is no_end more =
    live_left-other left column row count first rest is
    ∙ runs_tag left column row count rest (items_of rest).items more (tag_of first.byte)
    ∙ ap (λ (found : Items). item_runs left column row count found.items) (sym (items_of-other first rest is no_end))

-- the runs of bytes are those of their items
left_items : (left column row : ℤ) (count : ℕ) (bytes : List LocatedByte) → live_left left column row count bytes ≡ item_runs left column row count (items_of bytes).items
unfolding item_runs
left_items left column row count [] =
    live_left-nil left column row count ∙ ap (λ (found : Items). item_runs left column row count found.items) (sym items_of-nil)
left_items left column row count (first ∷ rest) =
    runs_first left column row count first rest (is_digit first) (is_end first) refl refl (λ column' row' count'. left_items left column' row' count' rest)

-- ---- without faults these are the runs of the items as slices

further-is : (coordinate : ℤ) (count : ℕ) → IsWithinReach coordinate → passes_limit coordinate count ≡ false → further coordinate count ≡ coordinate +ℤ pos count
further-is coordinate count reach below = grind (arith, ints, reach.low, reach.high)

-- no sum wraps
column_after-is : (left : ℤ) (state : State) (tag : Tag) (count : ℕ) → InReach state → leaves_range state tag count ≡ false → column_after left state.column tag count ≡ (after_item left state tag count).column
column_after-is left state Dead count reach stays = further-is state.column count reach.column stays
column_after-is left state Live count reach stays = further-is state.column count reach.column (either_false _ _ stays)
column_after-is left state Row count reach stays = refl

row_after-is : (left : ℤ) (state : State) (tag : Tag) (count : ℕ) → InReach state → leaves_range state tag count ≡ false → row_after state.row tag count ≡ (after_item left state tag count).row
row_after-is left state Dead count reach stays = refl
row_after-is left state Live count reach stays = refl
row_after-is left state Row count reach stays = further-is state.row count reach.row stays

cells_are : (digits : List LocatedByte) → capped (count_of digits) ≡ count_of digits → (count_of digits == 0) ≡ false → max (kept_value 0 digits) 1 ≡ count_of digits
unfolding kept_value
cells_are [] fits some = refl
cells_are (first ∷ rest) fits some =
    ap (λ n. max n 1) (kept_value-is 0 (first ∷ rest) refl ∙ fits) ∙ grind (arith, nat_tests)

first_run : (left : ℤ) (state : State) (found : Result ItemSlice Refusal) (run : ItemSlice) (rest : List (Result ItemSlice Refusal)) → found ≡ Ok run →
    live_run (record { y = state.row; x = state.column }) run.tag run.count ++ live_runs_from left (after_item left state run.tag run.count) (ok_prefix rest)
    ≡ live_runs_from left state (ok_prefix (found ∷ rest))
unfolding live_runs_from
first_run left state (Ok other) run rest is =
    let same : run ≡ other = cc in ap (λ (r : ItemSlice). live_runs_from left state (r ∷ ok_prefix rest)) same
first_run left state (Err refusal) run rest is = cc

item_runs-are : (source : List ℕ) (left : ℤ) (state : State) (items : List Item) (over : List LocatedByte) → IsWithinReach left → InReach state → first_fault_from left state items over ≡ None →
    item_runs left state.column state.row 0 items ≡ live_runs_from left state (ok_prefix (map (run_of source) items))
unfolding item_runs first_fault_from motion_fault live_runs_from
item_runs-are source left state [] over left_reach reach none = refl
item_runs-are source left state (item ∷ items) over left_reach reach none =
    let h = or_none (item_fault state item) (first_fault_from left (state_after left state item) items over) none in
    let good = good_item state item h.0 in
    let count = count_of item.digits in
    let tag = good.tag in
    let stays = no_fault (leaves_range state tag count) (passes_cells state tag count) good.none in
    let after = after_item left state tag count in
    let run : ItemSlice = record { text = slice_range source (place_of item.digits item.tag) (item.tag.place + 1); place = place_of item.digits item.tag; count = count; tag = tag } in
    let runs : ℕ → Tag → List (Cell × ℕ) = λ cells t. live_run (record { y = state.row; x = state.column }) t cells
    ++ item_runs left (column_after left state.column t cells) (row_after state.row t cells) 0 items in
    ap (λ cells. runs_at (runs cells) (tag_of item.tag.byte)) (cells_are item.digits (fits-capped state tag count reach good.none) good.counted)
    ∙ ap (runs_at (runs count)) good.is
    ∙ ap (λ column. live_run (record { y = state.row; x = state.column }) tag count ++ item_runs left column (row_after state.row tag count) 0 items) (column_after-is left state tag count reach stays)
    ∙ ap (λ row. live_run (record { y = state.row; x = state.column }) tag count ++ item_runs left after.column row 0 items) (row_after-is left state tag count reach stays)
    ∙ ap (λ later. live_run (record { y = state.row; x = state.column }) tag count ++ later)
    (item_runs-are source left after items over left_reach (reach_after left state tag count left_reach reach stays)
    (ap (λ s. first_fault_from left s items over) (sym (good_state left state item good)) ∙ h.1))
    ∙ first_run left state (run_of source item) run (map (run_of source) items) (good_run source state item good)

-- the runs of an accepted body are those of its meaning
pub live_left-accepted : (source : List ℕ) (preamble : Preamble) → IsInRange preamble.settings.pos → body_fault preamble.settings.pos (items_of (stripped_from source preamble.body true)) ≡ None →
    live_left preamble.settings.pos.x preamble.settings.pos.x preamble.settings.pos.y 0 (stripped_from source preamble.body true) ≡ live_runs_of (meaning_of source (preamble_meaning source preamble))
unfolding body_fault meaning_of stripped_from
live_left-accepted source preamble range none =
    let corner = preamble.settings.pos in
    let bytes = stripped (lines_from source preamble.body) in
    let x = within corner.x range.x in
    let y = within corner.y range.y in
    left_items corner.x corner.x corner.y 0 bytes
    ∙ item_runs-are source corner.x (start_at corner) (items_of bytes).items (items_of bytes).left_over x (record { column = x; row = y }) none
