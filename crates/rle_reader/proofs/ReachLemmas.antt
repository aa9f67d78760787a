-- How far from 0 the live items lie.
use Rattle.std.proofs.Common.{◌≡◌, ℕ, ◌⊎◌, inl, inr, ⊎_elim, false, ◌||◌, Bool, true, List, [], ◌∷◌, ◌++◌, None, ap, sym, subst, arith, ℤ, pos, neg_ℤ, ◌≤ℤ◌, ◌<ℤ◌, int_le}
use Rattle.std.specs.List.{AllByRecursion}
use Rattle.std.proofs.lemmas.Int.{ints}
use Rattle.plane.specs.Limits.{coordinate_limit}
use Rattle.plane.specs.declared.cell.Cell.{Cell}
use Rattle.rle_reader.specs.Items.{ItemSlice, items_of}
use Rattle.rle_reader.specs.LiveRuns.{LiesWithin, live_run, live_runs_from, live_runs_of}
use Rattle.plane.specs.Range.{IsInRange}
use Rattle.rle_reader.specs.Body.{stripped_from}
use Rattle.rle_reader.specs.Meaning.{body_fault, meaning_of}
use Rattle.rle_reader.specs.Seen.{live_runs_kept, preamble_meaning}
use Rattle.rle_reader.specs.declared.preamble.Preamble.{Preamble}
use Rattle.rle_reader.proofs.FitLemmas.{runs_kept-accepted}
use Rattle.rle_reader.specs.State.{State, state_at, start_at, after_item, leaves_range, passes_cells, passes_limit, motion_fault}
use Rattle.rle_reader.specs.declared.item.Tag.{Tag}
use Rattle.rle_reader.specs.declared.item.Tag.TheVariants.{Dead, Live, Row}
use Rattle.rle_reader.proofs.FaultLemmas.{no_fault}

-- a square of this half side reaches from the corner on up to this column, and has this row or all
-- of the range below it
pub record IsEnough (reach : ℕ) (corner : Cell) (right row : ℤ) : Type 0 where
  pub left_side : neg_ℤ (pos reach) ≤ℤ corner.x
  pub top_side : neg_ℤ (pos reach) ≤ℤ corner.y
  pub right_side : right ≤ℤ pos reach
  pub bottom : (row <ℤ pos reach) ⊎ (coordinate_limit ≤ℤ pos reach)

-- what is enough for later items is enough for earlier ones
enough_before : (reach : ℕ) (corner : Cell) (right row right' row' : ℤ) → right ≤ℤ right' → row ≤ℤ row' → IsEnough reach corner right' row' → IsEnough reach corner right row
enough_before reach corner right row right' row' across down enough = record {
  left_side = enough.left_side;
  top_side = enough.top_side;
  right_side = omega (arith, ints, across, enough.right_side);
  bottom = ⊎_elim (λ below. inl (omega (arith, ints, below, down))) inr enough.bottom;
}

pub no_farther : (number same first : ℤ) → same ≡ number → first ≤ℤ number → first ≤ℤ same
no_farther number same first is below = omega (arith, ints, is, below)

-- an item leads neither to the left of the pattern nor up
moved : (left : ℤ) (state : State) (tag : Tag) (count : ℕ) → left ≤ℤ state.column → let next = after_item left state tag count in (left ≤ℤ next.column) × (state.row ≤ℤ next.row)
moved left state Dead count behind = (omega (arith, ints, behind), omega (arith, ints))
moved left state Live count behind = (omega (arith, ints, behind), omega (arith, ints))
moved left state Row count behind = (omega (arith, ints), omega (arith, ints))

second_false : (a b : Bool) → (a || b) ≡ false → b ≡ false
second_false true b h = cc
second_false false b h = h

above : (row : ℤ) (reach : ℕ) → int_le coordinate_limit row ≡ false → (row <ℤ pos reach) ⊎ (coordinate_limit ≤ℤ pos reach) → row <ℤ pos reach
above row reach below bottom = ⊎_elim (λ h. h) (λ whole. grind (arith, ints, whole)) bottom

within_first : (reach : ℕ) (corner : Cell) (left : ℤ) (state : State) (tag : Tag) (count : ℕ) (later : List (Cell × ℕ)) → left ≡ corner.x → left ≤ℤ state.column → corner.y ≤ℤ state.row →
    leaves_range state tag count ≡ false → (let next = after_item left state tag count in IsEnough reach corner next.column next.row) → AllByRecursion (LiesWithin reach) later →
    AllByRecursion (LiesWithin reach) (live_run (record { y = state.row; x = state.column }) tag count ++ later)
within_first reach corner left state Dead count later left_is behind below stays enough all = all
within_first reach corner left state Row count later left_is behind below stays enough all = all
within_first reach corner left state Live count later left_is behind below stays enough all = (
  record {
    left = omega (arith, ints, left_is, behind, enough.left_side);
    right = enough.right_side;
    top = omega (arith, ints, below, enough.top_side);
    bottom = above state.row reach (second_false (passes_limit state.column count) (int_le coordinate_limit state.row) stays) enough.bottom;
  },
  all,
)

-- whatever is enough for the items so far has all these runs, if it has those of the items that are
-- left
pub record IsBounded (corner : Cell) (runs : List (Cell × ℕ)) (left column row : ℤ) (live : ℕ) (right : ℤ) (rest : List ItemSlice) : Type 0 where
  pub left_is : left ≡ corner.x
  pub behind : left ≤ℤ column
  pub below : corner.y ≤ℤ row
  pub all : (reach : ℕ) → IsEnough reach corner right row → AllByRecursion (LiesWithin reach) (live_runs_from left (state_at column row live) rest) → AllByRecursion (LiesWithin reach) runs

pub bounded_start : (corner : Cell) (left column row : ℤ) (live : ℕ) (right : ℤ) (all rest : List ItemSlice) → left ≡ corner.x → state_at column row live ≡ start_at corner → rest ≡ all →
    IsBounded corner (live_runs_from corner.x (start_at corner) all) left column row live right rest
bounded_start corner left column row live right all rest left_is state rest_is =
    let x : column ≡ corner.x = ap (λ (s : State). s.column) state in
    let y : row ≡ corner.y = ap (λ (s : State). s.row) state in
    record {
      left_is = left_is;
      behind = omega (arith, ints, left_is, x);
      below = omega (arith, ints, y);
      all = λ reach enough later.
          subst (λ l. AllByRecursion (LiesWithin reach) (live_runs_from l (start_at corner) all)) left_is
          (subst (λ s. AllByRecursion (LiesWithin reach) (live_runs_from left s all)) state
          (subst (λ r. AllByRecursion (LiesWithin reach) (live_runs_from left (state_at column row live) r)) rest_is later));
    }

bounded_first : (corner : Cell) (runs : List (Cell × ℕ)) (left column row : ℤ) (live : ℕ) (right right' : ℤ) (run : ItemSlice) (rest : List ItemSlice) →
    IsBounded corner runs left column row live right (run ∷ rest) → leaves_range (state_at column row live) run.tag run.count ≡ false →
    (let next = after_item left (state_at column row live) run.tag run.count in right ≤ℤ right' → next.column ≤ℤ right' → IsBounded corner runs left next.column next.row next.live right' rest)
unfolding live_runs_from
bounded_first corner runs left column row live right right' run rest bounded stays further reached =
    let state = state_at column row live in
    let next = after_item left state run.tag run.count in
    let on = moved left state run.tag run.count bounded.behind in
    record {
      left_is = bounded.left_is;
      behind = on.0;
      below = omega (arith, ints, on.1, bounded.below);
      all = λ reach enough later.
          bounded.all reach (enough_before reach corner right row right' next.row further on.1 enough)
          (within_first reach corner left state run.tag run.count (live_runs_from left next rest) bounded.left_is bounded.behind bounded.below stays
          (enough_before reach corner next.column next.row right' next.row reached (omega (arith, ints)) enough) later);
    }

-- one item more, that a reader took and a cursor passed
pub bounded_more : (corner : Cell) (runs : List (Cell × ℕ)) (left column row left' column' row' : ℤ) (live live' : ℕ) (right right' : ℤ) (run : ItemSlice) (all rest : List ItemSlice) → all ≡ run ∷ rest →
    IsBounded corner runs left column row live right all → motion_fault (state_at column row live) run.tag run.count ≡ None →
    state_at column' row' live' ≡ after_item left (state_at column row live) run.tag run.count → left' ≡ left → right ≤ℤ right' → column' ≤ℤ right' →
    IsBounded corner runs left' column' row' live' right' rest
unfolding motion_fault
bounded_more corner runs left column row left' column' row' live live' right right' run all rest first bounded none state left_is further reached =
    let before = subst (λ items. IsBounded corner runs left column row live right items) first bounded in
    let start = state_at column row live in
    let stays = no_fault (leaves_range start run.tag run.count) (passes_cells start run.tag run.count) none in
    let step = bounded_first corner runs left column row live right right' run rest before stays further (subst (λ (s : State). s.column ≤ℤ right') state reached) in
    subst (λ l. IsBounded corner runs l column' row' live' right' rest) (sym left_is)
    (subst (λ (s : State). IsBounded corner runs left s.column s.row s.live right' rest) (sym state) step)

-- behind the last item
pub bounded_all : (corner : Cell) (runs : List (Cell × ℕ)) (left column row : ℤ) (live : ℕ) (right : ℤ) (rest : List ItemSlice) (reach : ℕ) → rest ≡ [] → IsBounded corner runs left column row live right rest →
    IsEnough reach corner right row → AllByRecursion (LiesWithin reach) runs
unfolding live_runs_from
bounded_all corner runs left column row live right rest reach none bounded enough =
    bounded.all reach enough (subst (λ r. AllByRecursion (LiesWithin reach) (live_runs_from left (state_at column row live) r)) (sym none) tt)

-- the runs that are kept of an accepted text are those of its meaning
pub reach_accepted : (source : List ℕ) (preamble : Preamble) (reach : ℕ) → IsInRange preamble.settings.pos → body_fault preamble.settings.pos (items_of (stripped_from source preamble.body true)) ≡ None →
    AllByRecursion (LiesWithin reach) (live_runs_kept source preamble) → AllByRecursion (LiesWithin reach) (live_runs_of (meaning_of source (preamble_meaning source preamble)))
unfolding meaning_of
reach_accepted source preamble reach range none all =
    subst (λ runs. AllByRecursion (LiesWithin reach) (live_runs_from preamble.settings.pos.x (start_at preamble.settings.pos) runs)) (runs_kept-accepted source preamble range none) all
