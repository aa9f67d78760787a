-- A listing of the cells that runs make live has no more cells than the runs have live cells.
use Rattle.std.proofs.Common.{◌≡◌, ℕ, zero, suc, ◌+◌, ◌≤◌, Bool, true, false, cond, ◌&&◌, ◌||◌, List, [], ◌∷◌, length, Ok, refl, sym, ◌∙◌, ap, arith, ℤ, pos, ◌+ℤ◌, ◌≤ℤ◌, ◌<ℤ◌, int_le, int_lt}
use Rattle.std.specs.Cmp.{int_cmp_total, int_ranked, tied_itself}
use Rattle.std.specs.List.{AllByRecursion, list_any}
use Rattle.std.specs.List.Sorted.{IsStrictlySortedBy}
use Rattle.std.specs.Ordering.{int_cmp, int_eq, ordering_then}
use Rattle.std.specs.declared.cmp.Ordering.TheVariants.{Less}
use Rattle.std.proofs.lemmas.Bool.Decides.{Decides-int_eq}
use Rattle.std.proofs.lemmas.Int.{ints}
use Rattle.plane.specs.declared.cell.Cell.{Cell}
use Rattle.plane.specs.Limits.{most_live_cells}
use Rattle.plane.specs.Listing.{IsListing, is_at, plane_of, reading_order}
use Rattle.plane.specs.Plane.{Plane}
use Rattle.plane.proofs.Listings.{is_at-own}
use Rattle.plane.proofs.Elements.{AllByRecursion-weaker}
use Rattle.rle_reader.specs.Items.{ItemSlice}
use Rattle.rle_reader.specs.Meaning.{Meaning, covers, is_covered, is_live, judged, live_cells, live_plane}
use Rattle.rle_reader.specs.State.{State, start_at, after_item}
use Rattle.rle_reader.specs.declared.item.Tag.{Tag}
use Rattle.rle_reader.specs.declared.item.Tag.TheVariants.{Dead, Live, Row}
use Rattle.rle_reader.proofs.RangeLemmas.{accepted-live_cells, all_true, live_cells-tag, live_count}

-- ---- how many cells pass a test

passing : (Cell → Bool) → List Cell → ℕ
passing p [] = 0
passing p (cell ∷ cells) = cond (p cell) 1 0 + passing p cells

one_weaker : (a b : Bool) → (a ≡ true → b ≡ true) → cond a 1 0 ≤ cond b 1 0
one_weaker true b weaker = rw (weaker refl) (omega arith)
one_weaker false b weaker = omega arith

passing-weaker : (p q : Cell → Bool) (cells : List Cell) → AllByRecursion (λ c. p c ≡ true → q c ≡ true) cells → passing p cells ≤ passing q cells
unfolding passing
passing-weaker p q [] weaker = omega arith
passing-weaker p q (cell ∷ cells) weaker =
    let here = one_weaker (p cell) (q cell) weaker.0 in omega (arith, here, passing-weaker p q cells weaker.1)

one_or : (a b : Bool) → cond (a || b) 1 0 ≤ cond a 1 0 + cond b 1 0
one_or true b = omega arith
one_or false b = omega arith

passing-or : (p q : Cell → Bool) (cells : List Cell) → passing (λ c. p c || q c) cells ≤ passing p cells + passing q cells
unfolding passing
passing-or p q [] = omega arith
passing-or p q (cell ∷ cells) = omega (arith, one_or (p cell) (q cell), passing-or p q cells)

passing-none : (cells : List Cell) → passing (λ c. false) cells ≡ 0
unfolding passing
passing-none [] = refl
passing-none (cell ∷ cells) = omega (arith, passing-none cells)

passing-all : (p : Cell → Bool) (cells : List Cell) → AllByRecursion (λ c. p c ≡ true) cells → length cells ≡ passing p cells
unfolding passing
passing-all p [] all = refl
passing-all p (cell ∷ cells) all = let here = ap {B = ℕ} (λ b. cond b 1 0) all.0 in omega (arith, here, passing-all p cells all.1)

-- ---- the cells of one run

-- the cell lies in the row, from a column on and before another
abbrev is_between : ℤ → ℤ → ℤ → Cell → Bool
is_between row from to cell = int_eq cell.y row && int_le from cell.x && int_lt cell.x to

record IsBetween (row from to : ℤ) (cell : Cell) : Type 0 where
  in_row : cell.y ≡ row
  low : from ≤ℤ cell.x
  high : cell.x <ℤ to

between : (row from to : ℤ) (cell : Cell) → is_between row from to cell ≡ true → IsBetween row from to cell
between row from to cell is =
    let all = all_true true (int_eq cell.y row) (int_le from cell.x) (int_lt cell.x to) is in
    record { in_row = (Decides-int_eq cell.y row).0 all.0; low = grind (arith, ints, all.1); high = grind (arith, ints, all.2) }

-- of two cells in one row, the later one is further right
further_right : (a b : Cell) → a.y ≡ b.y → reading_order a b ≡ Less → a.x <ℤ b.x
further_right a b row before =
    let tie = ap (int_cmp a.y) (sym row) ∙ tied_itself int_cmp_total a.y in
    int_ranked a.x b.x Less (sym before ∙ ap (λ o. ordering_then o (int_cmp a.x b.x)) tie)

-- what is read after a cell of the run lies in what is left of it
is_between-later : (row from to : ℤ) (a b : Cell) → a.y ≡ row → reading_order a b ≡ Less → is_between row from to b ≡ true → is_between row (a.x +ℤ pos 1) to b ≡ true
is_between-later row from to a b a_row before is =
    let all = all_true true (int_eq b.y row) (int_le from b.x) (int_lt b.x to) is in
    let right = further_right a b (a_row ∙ sym ((Decides-int_eq b.y row).0 all.0)) before in
    let left : int_le (a.x +ℤ pos 1) b.x ≡ true = grind (arith, ints, right) in
    rw (all.0, left, all.2) refl

-- where the first cell takes a column, the others have one fewer
few_after_first : (row from to : ℤ) (n : ℕ) (cell : Cell) (cells : List Cell) → to ≤ℤ (from +ℤ pos n) → IsBetween row from to cell →
    AllByRecursion (λ other. reading_order cell other ≡ Less) cells →
    ((m : ℕ) → to ≤ℤ ((cell.x +ℤ pos 1) +ℤ pos m) → passing (is_between row (cell.x +ℤ pos 1) to) cells ≤ m) →
    1 + passing (is_between row from to) cells ≤ n
few_after_first row from to zero cell cells wide is first few = absurd (omega (arith, ints, wide, is.low, is.high))
few_after_first row from to (suc m) cell cells wide is first few =
    let rest = few m (omega (arith, ints, wide, is.low)) in
    let later = passing-weaker (is_between row from to) (is_between row (cell.x +ℤ pos 1) to) cells
    (AllByRecursion-weaker _ _ (λ other before. is_between-later row from to cell other is.in_row before) cells first) in
    omega (arith, rest, later)

-- so many columns of a row have at most so many cells
few_between : (row from to : ℤ) (n : ℕ) (cells : List Cell) → to ≤ℤ (from +ℤ pos n) → IsStrictlySortedBy reading_order cells → passing (is_between row from to) cells ≤ n
unfolding passing IsStrictlySortedBy
few_between row from to n [] wide rising = omega arith
few_between row from to n (cell ∷ cells) wide rising =
    elim (is_between row from to cell) as (λ b. is_between row from to cell ≡ b → cond b 1 0 + passing (is_between row from to) cells ≤ n) [
      | true ↦ λ is. few_after_first row from to n cell cells wide (between row from to cell is) rising.0
          (λ m left. few_between row (cell.x +ℤ pos 1) to m cells left rising.1)
      | false ↦ λ _. omega (arith, few_between row from to n cells wide rising.1)
    ] refl

few_covered : (state : State) (tag : Tag) (count : ℕ) (cells : List Cell) → IsStrictlySortedBy reading_order cells →
    passing (λ c. is_live tag && int_eq c.y state.row && int_le state.column c.x && int_lt c.x (state.column +ℤ pos count)) cells ≤ live_count tag count
unfolding live_count
few_covered state Live count cells rising = few_between state.row state.column (state.column +ℤ pos count) count cells (omega (arith, ints)) rising
few_covered state Dead count cells rising = omega (arith, passing-none cells)
few_covered state Row count cells rising = omega (arith, passing-none cells)

-- ---- the cells of all runs

few_live : (left : ℤ) (state : State) (runs : List ItemSlice) (cells : List Cell) → IsStrictlySortedBy reading_order cells →
    passing (λ c. is_covered left state runs c.x c.y) cells ≤ live_cells runs
unfolding is_covered
few_live left state [] cells rising = omega (arith, passing-none cells)
few_live left state (run ∷ runs) cells rising =
    let next = after_item left state run.tag run.count in
    let both = passing-or (λ c. covers state run c.x c.y) (λ c. is_covered left next runs c.x c.y) cells in
    let here = few_covered state run.tag run.count cells rising in
    let later = few_live left next runs cells rising in
    omega (arith, both, here, later, live_cells-tag run.tag run runs refl)

-- ---- the cells of a listing

or_true : (a b : Bool) → b ≡ true → (a || b) ≡ true
or_true true b h = refl
or_true false b h = h

-- each cell of a list is live on its plane
all_live : (cells : List Cell) → AllByRecursion (λ c. plane_of cells c.x c.y ≡ true) cells
unfolding plane_of
all_live [] = tt
all_live (cell ∷ cells) = (
  ap (λ b. b || list_any (is_at cell.x cell.y) cells) (is_at-own cell),
  AllByRecursion-weaker _ _ (λ other live. or_true (is_at other.x other.y cell) (list_any (is_at other.x other.y) cells) live) cells (all_live cells),
)

listing-live : (cells : List Cell) (plane : Plane) → IsListing cells plane → AllByRecursion (λ c. plane c.x c.y ≡ true) cells
listing-live cells plane listing = AllByRecursion-weaker _ _ (λ cell live. sym (listing.live cell.x cell.y) ∙ live) cells (all_live cells)

listing-few : (left : ℤ) (state : State) (runs : List ItemSlice) (cells : List Cell) → IsListing cells (is_covered left state runs) → length cells ≤ live_cells runs
listing-few left state runs cells listing =
    let all = passing-all (λ c. is_covered left state runs c.x c.y) cells (listing-live cells (is_covered left state runs) listing) in
    omega (arith, all, few_live left state runs cells listing.rising)

pub accepted-listing : (text : List ℕ) (meaning : Meaning) (cells : List Cell) → judged text ≡ Ok meaning → IsListing cells (live_plane meaning) → length cells ≤ most_live_cells
accepted-listing text meaning cells is listing =
    let few = listing-few meaning.pos.x (start_at meaning.pos) meaning.runs cells listing in
    omega (arith, few, accepted-live_cells text meaning is)
