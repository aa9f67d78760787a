-- The nodes that are written, read back: they stand in order, and have the planes of the squares.
use Rattle.std.proofs.Common.{◌≡◌, ℕ, zero, suc, ◌+◌, ◌-◌, ◌^◌, ◌<◌, ◌≤◌, Bool, true, false, not, cond, List, [], ◌∷◌, ◌++◌, length, map, get_or, Some, None, refl, sym, ◌∙◌, ap, subst, arith, append_assoc, append-nil, ◌⊎◌, inl, inr}
use Rattle.std.specs.Prelude.{◌==◌, ◌||◌, slice_get}
use Rattle.std.specs.List.{AllByRecursion, list_any, position_or_len}
use Rattle.std.specs.Option.{option_map_or}
use Rattle.std.proofs.lemmas.Bool.{false≢true}
use Rattle.std.proofs.lemmas.Bool.Decides.{Decides-eqb}
use Rattle.std.proofs.lemmas.List.Sums.{passes_at_first, prefix_len-le-length}
use Rattle.plane.specs.Plane.{Plane}
use Rattle.plane.specs.Square.{IsSquare, empty}
use Rattle.plane.proofs.Same.{plane_equal}
use Rattle.squares.proofs.NumberMaps.{by_cases}
use Rattle.macrocell_reader.specs.NodeFaults.{StandInOrder, fault_among, is_child}
use Rattle.macrocell_reader.specs.Nodes.{level_of, node_of}
use Rattle.macrocell_reader.specs.Planes.{node_plane, plane_at, planes_after, planes_of}
use Rattle.macrocell_reader.specs.declared.node.Node.{Node}
use Rattle.pattern_writers.specs.McText.{square_text}
use Rattle.pattern_writers.specs.Subsquares.{Square, is_dead, is_listed, is_same_square, number_in, nw_of, ne_of, sw_of, se_of}
use Rattle.pattern_writers.proofs.ListedSquares.{number_listed, number_of_empty}
use Rattle.pattern_writers.proofs.Repeats.{still_listed}
use Rattle.pattern_writers.proofs.Subsquares.{dead_empty, same_square}

-- ---- numbers of quarters

-- a square that is empty or listed
abbrev pub IsThere : List Square → Square → Type 0
IsThere listed square = (is_dead square ≡ true) ⊎ (is_listed listed square ≡ true)

-- and with more squares
pub there_later : (listed more : List Square) (square : Square) → IsThere listed square → IsThere (listed ++ more) square
there_later listed more square (inl dead) = inl dead
there_later listed more square (inr is) = inr (still_listed listed more square is)

-- it has its number, whatever squares follow
pub number_there : (listed : List Square) (square : Square) → IsThere listed square → (more : List Square) → number_in (listed ++ more) square ≡ number_in listed square
number_there listed square (inl dead) more =
    let P : List Square → Type 0 = λ l. number_in l square ≡ 0 in
    let none = (number_of_empty listed square dead).numbered in none more ∙ sym (subst P (append-nil listed) (none []))
number_there listed square (inr is) more = (number_listed listed square is).numbered more

-- and it is small
pub number_low : (listed : List Square) (square : Square) → number_in listed square ≤ length listed + 1
unfolding number_in
number_low listed square =
    let place : position_or_len (is_same_square square) listed ≤ length listed = prefix_len-le-length (λ s. not (is_same_square square s)) listed in
    elim (is_dead square) as (λ t. cond t 0 (position_or_len (is_same_square square) listed + 1) ≤ length listed + 1) [ true ↦ omega arith | false ↦ omega (arith, place) ]

place_below : {A : Type 0} (test : A → Bool) (all : List A) → list_any test all ≡ true → position_or_len test all < length all
place_below test [] is = absurd (false≢true is)
place_below test (first ∷ rest) is =
    elim (test first) as (λ t. (t || list_any test rest) ≡ true → cond (not t) (1 + position_or_len test rest) 0 < suc (length rest)) [
      | true ↦ λ _. omega arith
      | false ↦ λ later. let low = place_below test rest later in omega (arith, low)
    ] is

-- the number of a square that is listed is the place of a square that is the same
number_place : (listed : List Square) (square : Square) → is_dead square ≡ false → number_in listed square ≡ suc (position_or_len (is_same_square square) listed)
unfolding number_in
number_place listed square alive =
    let e : position_or_len (is_same_square square) listed + 1 ≡ suc (position_or_len (is_same_square square) listed) = omega arith in
    ap (λ t. cond t 0 (position_or_len (is_same_square square) listed + 1)) alive ∙ e

number_none : (listed : List Square) (square : Square) → is_dead square ≡ true → number_in listed square ≡ 0
unfolding number_in
number_none listed square dead = ap (λ t. cond t 0 (position_or_len (is_same_square square) listed + 1)) dead

-- a square of its level, that has no cell outside
pub record IsGood (square : Square) : Type 0 where
  pub low : 3 ≤ square.level
  pub high : square.level ≤ 63
  pub within : IsSquare (2 ^ square.level) square.plane

good_at : (listed : List Square) (n : ℕ) (d : Square) → AllByRecursion IsGood listed → n < length listed → IsGood (get_or listed n d)
good_at [] n d good low = absurd (omega (arith, low))
good_at (square ∷ listed) zero d good low = good.0
good_at (square ∷ listed) (suc n) d good low = good_at listed n d good.1 (omega (arith, low))

get_mapped : {A B : Type 0} (f : A → B) (all : List A) (n : ℕ) (d : A) → n < length all → slice_get (map f all) n ≡ Some (f (get_or all n d))
get_mapped f [] n d low = absurd (omega (arith, low))
get_mapped f (x ∷ all) zero d low = refl
get_mapped f (x ∷ all) (suc n) d low = get_mapped f all n d (omega (arith, low))

or_mapped : {A B : Type 0} (f : A → B) (all : List A) (n : ℕ) (d : A) (e : B) → n < length all → get_or (map f all) n e ≡ f (get_or all n d)
or_mapped f [] n d e low = absurd (omega (arith, low))
or_mapped f (x ∷ all) zero d e low = refl
or_mapped f (x ∷ all) (suc n) d e low = or_mapped f all n d e (omega (arith, low))

-- the square at the number's place has the same level and cells
record IsPlace (listed : List Square) (square : Square) (place : ℕ) : Type 0 where
  is_number : number_in listed square ≡ suc place
  below : place < length listed
  same_level : square.level ≡ (get_or listed place square).level
  same_plane : square.plane ≡ (get_or listed place square).plane

place_of : (listed : List Square) (square : Square) → AllByRecursion IsGood listed → IsSquare (2 ^ square.level) square.plane → is_dead square ≡ false → is_listed listed square ≡ true →
    IsPlace listed square (position_or_len (is_same_square square) listed)
place_of listed square good within alive is =
    let place : ℕ = position_or_len (is_same_square square) listed in
    let low = place_below (is_same_square square) listed is in
    let same = same_square square (get_or listed place square) within (good_at listed place square good low).within (passes_at_first (is_same_square square) listed square low) in
    record { is_number = number_place listed square alive; below = low; same_level = same.0; same_plane = plane_equal _ _ same.1 }

abbrev pub levels_of : List Square → List ℕ
levels_of listed = map (λ square. square.level) listed

abbrev pub planes_in : List Square → List Plane
planes_in listed = map (λ square. square.plane) listed

-- a quarter's number is that of an earlier node one level lower
pub child_there : (listed : List Square) (square : Square) (level : ℕ) → AllByRecursion IsGood listed → IsSquare (2 ^ square.level) square.plane → square.level + 1 ≡ level → IsThere listed square →
    is_child (levels_of listed) level (number_in listed square) ≡ true
child_there listed square level good within above there =
    by_cases (is_dead square)
    (λ dead. ap (is_child (levels_of listed) level) (number_none listed square dead))
    (λ alive.
    let place = place_of listed square good within alive (listed_if_alive there alive) in
    let n : ℕ = position_or_len (is_same_square square) listed in
    let is : (get_or listed n square).level + 1 ≡ level = omega (arith, place.same_level, above) in
    ap (is_child (levels_of listed) level) place.is_number
    ∙ ap (λ o. option_map_or (λ lower. lower + 1 == level) o false) (get_mapped (λ (s : Square). s.level) listed n square place.below)
    ∙ (Decides-eqb ((get_or listed n square).level + 1) level).1 is)
  where
    listed_if_alive : IsThere listed square → is_dead square ≡ false → is_listed listed square ≡ true
    listed_if_alive (inl dead) alive = absurd (false≢true (sym alive ∙ dead))
    listed_if_alive (inr is) alive = is

-- its plane is that of the node
pub plane_there : (listed : List Square) (square : Square) → AllByRecursion IsGood listed → IsSquare (2 ^ square.level) square.plane → IsThere listed square →
    plane_at (planes_in listed) (number_in listed square) ≡ square.plane
plane_there listed square good within there =
    by_cases (is_dead square)
    (λ dead. ap (plane_at (planes_in listed)) (number_none listed square dead) ∙ sym (dead_empty square within dead))
    (λ alive.
    let place = place_of listed square good within alive (listed_if_alive there alive) in
    let n : ℕ = position_or_len (is_same_square square) listed in
    ap (plane_at (planes_in listed)) place.is_number ∙ or_mapped (λ (s : Square). s.plane) listed n square empty place.below ∙ sym place.same_plane)
  where
    listed_if_alive : IsThere listed square → is_dead square ≡ false → is_listed listed square ≡ true
    listed_if_alive (inl dead) alive = absurd (false≢true (sym alive ∙ dead))
    listed_if_alive (inr is) alive = is

-- ---- the node of a square

-- the four quarters of a square are empty or listed
pub record HasQuarters (listed : List Square) (square : Square) : Type 0 where
  pub nw : IsThere listed (nw_of (square.level - 1) square.plane)
  pub ne : IsThere listed (ne_of (square.level - 1) square.plane)
  pub sw : IsThere listed (sw_of (square.level - 1) square.plane)
  pub se : IsThere listed (se_of (square.level - 1) square.plane)

-- these squares are read back from their lines
pub record AreRead (listed : List Square) : Type 0 where
  pub good : AllByRecursion IsGood listed
  pub nodes : List Node
  pub lines : (more : List Square) → map (λ square. node_of (square_text (listed ++ more) square)) listed ≡ map (λ node. Some node) nodes
  pub in_order : StandInOrder [] nodes
  pub levels : map level_of nodes ≡ levels_of listed
  pub planes : planes_of nodes ≡ planes_in listed

pub nothing_read : AreRead []
nothing_read = record { good = tt; nodes = []; lines = λ more. refl; in_order = tt; levels = refl; planes = refl }

-- one more node in order, and its plane
pub order_more : (levels : List ℕ) (nodes : List Node) (node : Node) → StandInOrder levels nodes → fault_among (levels ++ map level_of nodes) (Some node) ≡ None → StandInOrder levels (nodes ++ node ∷ [])
order_more levels [] node order none = (ap (λ l. fault_among l (Some node)) (sym (append-nil levels)) ∙ none, tt)
order_more levels (first ∷ nodes) node order none =
    (order.0, order_more (levels ++ level_of first ∷ []) nodes node order.1 (ap (λ l. fault_among l (Some node)) (append_assoc levels (level_of first ∷ []) (map level_of nodes)) ∙ none))

pub planes_more : (planes : List Plane) (nodes : List Node) (node : Node) → planes_after planes (nodes ++ node ∷ []) ≡ planes_after planes nodes ++ node_plane (planes_after planes nodes) node ∷ []
planes_more planes [] node = refl
planes_more planes (first ∷ nodes) node = planes_more (planes ++ node_plane planes first ∷ []) nodes node
