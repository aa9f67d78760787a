-- How the body of an RLE text grows item by item.
use Rattle.std.proofs.Common.{◌≡◌, ℕ, ◌+◌, ◌<◌, ◌≤◌, List, [], ◌∷◌, ◌++◌, length, map, flat_map, take, drop, get_or, codes, Vec, Global, ap, sym, ◌∙◌, refl, append_assoc, add-one, drop-cons}
use Rattle.std.proofs.Common.{arith}
use Rattle.std.specs.Bool.{Decides}
use Rattle.std.proofs.lemmas.Bool.{cond-true, cond-false, le-leb, lt-leb}
use Rattle.std.proofs.lemmas.Bool.Decides.{Decides-int_eq}
use Rattle.std.proofs.lemmas.List.{append-nil, drop_all, take_more, map-append, take-append-drop}
use Rattle.plane.specs.declared.cell.Cell.{Cell}
use Rattle.std.specs.Prelude.{ℤ, if◌then◌else◌, nat_le}
use Rattle.std.specs.Ordering.{int_eq}
use Rattle.rle_reader.specs.declared.item.Tag.TheVariants.{Dead, Live, Row}
use Rattle.pattern_writers.specs.declared.rle_text.items.Item.{Item}
use Rattle.pattern_writers.specs.declared.rle_text.row_run.RowRun.{RowRun}
use Rattle.pattern_writers.specs.Items.{item_text, cell_after, items_of, next_cell, run_items, counted, distance}
use Rattle.pattern_writers.specs.Layout.{laid_out, body_text, LaysOut}

-- pieces and then more pieces
LaysOut-trans : (a b c : List ℕ) (ps qs : List (List ℕ)) (o p : List ℕ) → LaysOut a ps b o → LaysOut b qs c p → LaysOut a (ps ++ qs) c (o ++ p)
LaysOut-trans a b c ps qs o p first second = λ rest.
    ap (laid_out a) (append_assoc ps qs rest) ∙ first (qs ++ rest) ∙ ap (λ l. o ++ l) (second rest) ∙ sym (append_assoc o p (laid_out c rest))

-- the texts of one item more
texts_more : (items : List Item) (i : ℕ) (d : Item) → i < length items → map item_text (take (i + 1) items) ≡ map item_text (take i items) ++ item_text (get_or items i d) ∷ []
texts_more items i d h = ap (map item_text) (take_more items i d h) ∙ map-append item_text (take i items) (get_or items i d ∷ [])

-- one item more leads to the line that its text leads to
pub LaysOut-more : (items : List Item) (i : ℕ) (d : Item) (text line next out more : List ℕ) → i < length items → text ≡ item_text (get_or items i d)
    → LaysOut [] (map item_text (take i items)) line out → LaysOut line (text ∷ []) next more
    → LaysOut [] (map item_text (take (i + 1) items)) next (out ++ more)
LaysOut-more items i d text line next out more h is first second = λ rest.
    ap (λ pieces. laid_out [] (pieces ++ rest)) (texts_more items i d h ∙ ap (λ t. map item_text (take i items) ++ t ∷ []) (sym is))
    ∙ LaysOut-trans [] line next (map item_text (take i items)) (text ∷ []) out more first second rest

-- a piece that fits goes on the line
pub LaysOut-on : (line piece next : List ℕ) → length line + length piece ≤ 70 → next ≡ line ++ piece → LaysOut line (piece ∷ []) next []
LaysOut-on line piece next fits is = λ rest.
    cond-true (nat_le (length line + length piece) 70) _ _ (le-leb (length line + length piece) 70 fits) ∙ ap (λ l. laid_out l rest) (sym is)

-- one that doesn't begins a line
pub LaysOut-off : (line piece next : List ℕ) → 70 < length line + length piece → next ≡ piece → LaysOut line (piece ∷ []) next (line ++ codes "\n")
LaysOut-off line piece next long is = λ rest.
    cond-false (nat_le (length line + length piece) 70) _ _ (lt-leb (length line + length piece) 70 long)
    ∙ ap (λ l. line ++ codes "\n" ++ laid_out l rest) (sym is)

-- what some items lay out stands before what the others do
pub body_text-so_far : (items : List Item) (n : ℕ) (line out : List ℕ) → LaysOut [] (map item_text (take n items)) line out →
    body_text items ≡ out ++ laid_out line (map item_text (drop n items) ++ codes "!" ∷ [])
body_text-so_far items n line out so_far =
    ap (λ l. laid_out [] (map item_text l ++ codes "!" ∷ [])) (sym (take-append-drop n items))
    ∙ ap (λ l. laid_out [] (l ++ codes "!" ∷ [])) (map-append item_text (take n items) (drop n items))
    ∙ ap (laid_out []) (append_assoc (map item_text (take n items)) (map item_text (drop n items)) (codes "!" ∷ []))
    ∙ so_far (map item_text (drop n items) ++ codes "!" ∷ [])

-- after all items and the `!` the last line is left
pub body_text-ends : (items : List Item) (line last out more : List ℕ) → LaysOut [] (map item_text items) line out → LaysOut line (codes "!" ∷ []) last more
    → body_text items ≡ (out ++ more) ++ (last ++ codes "\n")
body_text-ends items line last out more first second =
    first (codes "!" ∷ []) ∙ ap (λ l. out ++ l) (second []) ∙ sym (append_assoc out more (last ++ codes "\n"))

pub drop_step : {X : Type 0} → (xs : List X) (i : ℕ) (d : X) → i < length xs → drop i xs ≡ get_or xs i d ∷ drop (i + 1) xs
drop_step xs i d h = rw (drop-cons xs i d h, add-one) refl

-- the items of one run more
pub items_of-more : (left : ℤ) (next : Cell) (runs : List RowRun) (i : ℕ) (d : RowRun) (done : List Item) → i < length runs →
    done ++ items_of left next (drop i runs)
    ≡ (done ++ run_items left next (get_or runs i d)) ++ items_of left (next_cell (get_or runs i d)) (drop (i + 1) runs)
items_of-more left next runs i d done h =
    ap (λ l. done ++ items_of left next l) (drop_step runs i d h)
    ∙ sym (append_assoc done (run_items left next (get_or runs i d)) (items_of left (next_cell (get_or runs i d)) (drop (i + 1) runs)))

-- the cell after one run more
pub cell_after-more : (next : Cell) (runs : List RowRun) (i : ℕ) (d : RowRun) → i < length runs →
    cell_after next (drop i runs) ≡ cell_after (next_cell (get_or runs i d)) (drop (i + 1) runs)
cell_after-more next runs i d h = ap (cell_after next) (drop_step runs i d h)

-- the items of some runs and then of others
items_of-append : (left : ℤ) (next : Cell) (runs more : List RowRun) → items_of left next (runs ++ more) ≡ items_of left next runs ++ items_of left (cell_after next runs) more
items_of-append left next [] more = refl
items_of-append left next (run ∷ runs) more =
    ap (λ l. run_items left next run ++ l) (items_of-append left (next_cell run) runs more)
    ∙ sym (append_assoc (run_items left next run) (items_of left (next_cell run) runs) (items_of left (cell_after (next_cell run) runs) more))

-- the items of the runs of one band more
pub items_of-band : (left : ℤ) (next after : Cell) (bands : List (Vec RowRun Global)) (i : ℕ) (d : Vec RowRun Global) (done later : List Item) → i < length bands →
    later ≡ done ++ items_of left next (get_or bands i d).items → after ≡ cell_after next (get_or bands i d).items →
    done ++ items_of left next (flat_map (λ (band : Vec RowRun Global). band.items) (drop i bands))
    ≡ later ++ items_of left after (flat_map (λ (band : Vec RowRun Global). band.items) (drop (i + 1) bands))
items_of-band left next after bands i d done later h is behind =
    let band = get_or bands i d in
    let rest = flat_map (λ (b : Vec RowRun Global). b.items) (drop (i + 1) bands) in
    ap (λ l. done ++ items_of left next (flat_map (λ (b : Vec RowRun Global). b.items) l)) (drop_step bands i d h)
    ∙ ap (λ l. done ++ l) (items_of-append left next band.items rest)
    ∙ sym (append_assoc done (items_of left next band.items) (items_of left (cell_after next band.items) rest))
    ∙ ap (λ l. l ++ items_of left (cell_after next band.items) rest) (sym is)
    ∙ ap (λ cell. later ++ items_of left cell rest) (sym behind)

-- no run is left, and no band
pub all_pushed : (left : ℤ) (next : Cell) (runs : List RowRun) (i : ℕ) (done : List Item) → length runs ≤ i → done ++ items_of left next (drop i runs) ≡ done
all_pushed left next runs i done end = ap (λ l. done ++ items_of left next l) (drop_all i runs end) ∙ append-nil done

pub all_bands_pushed : (left : ℤ) (next : Cell) (bands : List (Vec RowRun Global)) (i : ℕ) (done : List Item) → length bands ≤ i →
    done ++ items_of left next (flat_map (λ (band : Vec RowRun Global). band.items) (drop i bands)) ≡ done
all_bands_pushed left next bands i done end =
    ap (λ l. done ++ items_of left next (flat_map (λ (band : Vec RowRun Global). band.items) l)) (drop_all i bands end) ∙ append-nil done

-- what the items of a run are pushed as
pub run_items-pushed : (before one two three : List Item) (left : ℤ) (next : Cell) (run : RowRun) (start : ℤ) (rows dead live : ℕ) →
    rows ≡ distance next.y run.row → start ≡ (if int_eq run.row next.y then next.x else left) → dead ≡ distance start run.first → live ≡ distance run.first run.end →
    one ≡ before ++ counted Row rows → two ≡ one ++ counted Dead dead → three ≡ two ++ counted Live live →
    three ≡ before ++ run_items left next run
run_items-pushed before one two three left next run start rows dead live is_rows is_start is_dead is_live first second third =
    third ∙ rw (second, first, is_rows, is_dead, is_start, is_live) (simp append_assoc)

-- the choice of the same value
pub chosen_same : (a b x y start : ℤ) → a ≡ b → start ≡ x → start ≡ (if int_eq a b then x else y)
chosen_same a b x y start same is = is ∙ sym (cond-true (int_eq a b) x y ((Decides-int_eq a b).1 same))

-- the choice of another value
pub chosen_other : (a b x y start : ℤ) → (a ≡ b → ⊥) → start ≡ y → start ≡ (if int_eq a b then x else y)
chosen_other a b x y start other is =
    let decides : Decides (int_eq a b) (a ≡ b) = Decides-int_eq a b in
    is ∙ grind arith
