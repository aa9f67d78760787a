-- All squares that are listed are read back, and the last of them is the root.
use Rattle.std.proofs.Common.{◌≡◌, ℕ, zero, suc, ◌+◌, ◌-◌, ◌^◌, ◌<◌, ◌≤◌, List, [], ◌∷◌, ◌++◌, length, map, get_or, refl, sym, ◌∙◌, ap, subst, arith, length-append, inl, inr}
use Rattle.std.proofs.lemmas.List.{length-map, nil_from_length}
use Rattle.plane.specs.Centred.{centred}
use Rattle.plane.specs.Plane.{Plane}
use Rattle.plane.specs.Square.{IsSame, IsSquare, empty}
use Rattle.plane.proofs.Borders.{cut_within}
use Rattle.plane.proofs.Same.{same_of}
use Rattle.squares.proofs.NumberMaps.{by_cases}
use Rattle.macrocell_reader.specs.Nodes.{level_of}
use Rattle.macrocell_reader.specs.Planes.{plane_at, planes_of, root_level, root_plane}
use Rattle.pattern_writers.specs.McText.{from_corner}
use Rattle.pattern_writers.specs.Subsquares.{Square, if_alive, is_dead, is_listed, listed_in, nw_of, ne_of, sw_of, se_of, squares_in, with_new}
use Rattle.pattern_writers.proofs.ListedQuarters.{added_in_turn, alive_itself, inside, lower_levels}
use Rattle.pattern_writers.proofs.McNodes.{AreRead, HasQuarters, IsThere, levels_of, planes_in, there_later}
use Rattle.pattern_writers.proofs.McOrder.{if_alive_read}
use Rattle.pattern_writers.proofs.Repeats.{last_listed, not_new, with_new-append, with_new-grows, with_one-listed, with_one-new}
use Rattle.pattern_writers.proofs.RootParts.{centred_of_corner}
use Rattle.pattern_writers.proofs.Subsquares.{dead_empty, none_in_empty, squares_in_quarters}

-- a square stands behind the squares in it
ends_with_itself : (more : ℕ) (plane : Plane) → (front : List Square) × (squares_in more plane ≡ front ++ if_alive (record { level = more + 3; plane = plane }))
unfolding squares_in
ends_with_itself zero plane = ([], refl)
ends_with_itself (suc more) plane =
    (squares_in more (nw_of (more + 3) plane).plane ++ squares_in more (ne_of (more + 3) plane).plane ++ squares_in more (sw_of (more + 3) plane).plane ++ squares_in more (se_of (more + 3) plane).plane, refl)

-- so it is there once they are listed
itself_there : (more : ℕ) (plane : Plane) (listed : List Square) → IsThere (with_new listed (squares_in more plane)) (record { level = more + 3; plane = plane })
itself_there more plane listed =
    let square : Square = record { level = more + 3; plane = plane } in
    let ends = ends_with_itself more plane in
    let before : List Square = with_new listed ends.0 in
    by_cases (is_dead square)
    (λ dead. inl dead)
    (λ alive.
    let all : with_new listed (squares_in more plane) ≡ with_new before (square ∷ []) =
    ap (with_new listed) ends.1 ∙ with_new-append listed ends.0 (if_alive square) ∙ ap (with_new before) (alive_itself square alive) in
    inr (ap (λ l. is_listed l square) all
    ∙ by_cases (is_listed before square)
    (λ is. ap (λ l. is_listed l square) (with_one-listed before square is) ∙ is)
    (λ new. ap (λ l. is_listed l square) (with_one-new before square new) ∙ last_listed before square)))

there_in_new : (listed squares : List Square) (square : Square) → IsThere listed square → IsThere (with_new listed squares) square
there_in_new listed squares square there =
    let grown = with_new-grows listed squares in
    let P : List Square → Type 0 = λ l. IsThere l square in subst P (sym grown.1) (there_later listed grown.0 square there)

few_before : (listed squares : List Square) → length (with_new listed squares) < 4294967296 → length listed < 4294967296
few_before listed squares few =
    let grown = with_new-grows listed squares in
    let size = ap length grown.1 ∙ length-append listed grown.0 in omega (arith, size, few)

-- the squares in a square are read
pub all_read : (more : ℕ) (plane : Plane) (listed : List Square) → more + 3 ≤ 63 → IsSquare (2 ^ (more + 3)) plane → AreRead listed →
    length (with_new listed (squares_in more plane)) < 4294967296 → AreRead (with_new listed (squares_in more plane))
unfolding squares_in
all_read zero plane listed high within are few =
    if_alive_read listed (record { level = 3; plane = plane }) are (record { low = omega arith; high = omega arith; within = within }) (λ above. absurd (omega (arith, above))) few
all_read (suc more) plane listed high within are few =
    let side : ℕ = 2 ^ (more + 3) in
    let a : List Square = squares_in more (nw_of (more + 3) plane).plane in let b : List Square = squares_in more (ne_of (more + 3) plane).plane in
    let c : List Square = squares_in more (sw_of (more + 3) plane).plane in let d : List Square = squares_in more (se_of (more + 3) plane).plane in
    let whole : Square = record { level = suc more + 3; plane = plane } in
    let l1 : List Square = with_new listed a in let l2 : List Square = with_new l1 b in let l3 : List Square = with_new l2 c in let l4 : List Square = with_new l3 d in
    let turn = added_in_turn listed a b c d (if_alive whole) in
    let few_all : length (with_new l4 (if_alive whole)) < 4294967296 = subst (λ l. length l < 4294967296) turn few in
    let few_4 = few_before l4 (if_alive whole) few_all in let few_3 = few_before l3 d few_4 in let few_2 = few_before l2 c few_3 in let few_1 = few_before l1 b few_2 in
    let r1 = all_read more (nw_of (more + 3) plane).plane listed (omega (arith, high)) (cut_within side 0 0 plane) are few_1 in
    let r2 = all_read more (ne_of (more + 3) plane).plane l1 (omega (arith, high)) (cut_within side side 0 plane) r1 few_2 in
    let r3 = all_read more (sw_of (more + 3) plane).plane l2 (omega (arith, high)) (cut_within side 0 side plane) r2 few_3 in
    let r4 = all_read more (se_of (more + 3) plane).plane l3 (omega (arith, high)) (cut_within side side side plane) r3 few_4 in
    let lower : more + 3 ≡ suc more + 3 - 1 = omega arith in
    let quarters : HasQuarters l4 whole = record {
      nw = subst (λ n. IsThere l4 (nw_of n plane)) lower (there_in_new l3 d _ (there_in_new l2 c _ (there_in_new l1 b _ (itself_there more (nw_of (more + 3) plane).plane listed))));
      ne = subst (λ n. IsThere l4 (ne_of n plane)) lower (there_in_new l3 d _ (there_in_new l2 c _ (itself_there more (ne_of (more + 3) plane).plane l1)));
      sw = subst (λ n. IsThere l4 (sw_of n plane)) lower (there_in_new l3 d _ (itself_there more (sw_of (more + 3) plane).plane l2));
      se = subst (λ n. IsThere l4 (se_of n plane)) lower (itself_there more (se_of (more + 3) plane).plane l3);
    } in
    let P : List Square → Type 0 = AreRead in
    subst P (sym turn) (if_alive_read l4 whole r4 (record { low = omega arith; high = high; within = within }) (λ _. quarters) few_all)

-- ---- the root

-- the squares that are listed end with the root, or there are none
pub data Ends (level : ℕ) (plane : Plane) (listed : List Square) : Type 0 where
  empty_root : plane ≡ empty → listed ≡ [] → Ends level plane listed
  last_root : (before : List Square) → listed ≡ before ++ record { level = level; plane = plane } ∷ [] → Ends level plane listed

pub root_ends : (level : ℕ) (plane : Plane) → 3 < level → IsSquare (2 ^ level) plane → Ends level plane (listed_in level plane)
unfolding with_new
root_ends level plane above within =
    let whole : Square = record { level = level; plane = plane } in
    let a : List Square = inside (nw_of (level - 1) plane) in let b : List Square = inside (ne_of (level - 1) plane) in
    let c : List Square = inside (sw_of (level - 1) plane) in let d : List Square = inside (se_of (level - 1) plane) in
    let before : List Square = with_new (with_new (with_new (with_new [] a) b) c) d in
    by_cases (is_dead whole)
    (λ dead. let none = dead_empty whole within dead in empty_root none (ap (λ p. with_new [] (squares_in (level - 3) p)) none ∙ ap (with_new []) (none_in_empty (level - 3))))
    (λ alive.
    let lower : level - 1 - 3 + 3 < level = omega (arith, above) in
    let low = λ (p : Plane). lower_levels whole (level - 1 - 3) p lower in
    let fresh = not_new _ d whole (not_new _ c whole (not_new _ b whole (not_new [] a whole refl (low (nw_of (level - 1) plane).plane)) (low (ne_of (level - 1) plane).plane)) (low (sw_of (level - 1) plane).plane)) (low (se_of (level - 1) plane).plane) in
    last_root before (ap (with_new []) (squares_in_quarters level plane above) ∙ added_in_turn [] a b c d (if_alive whole) ∙ ap (with_new before) (alive_itself whole alive) ∙ with_one-new before whole fresh))

last_of : {B : Type 0} (f : Square → B) (before : List Square) (square : Square) (d : B) → get_or (map f (before ++ square ∷ [])) (length before) d ≡ f square
last_of f [] square d = refl
last_of f (first ∷ before) square d = last_of f before square d

-- the plane of the nodes is that of the squares
pub root_plane_read : (level : ℕ) (plane : Plane) (listed : List Square) (are : AreRead listed) → Ends level (from_corner level plane) listed → IsSame (root_plane are.nodes) plane
root_plane_read level plane listed are (empty_root none nothing) =
    let no_nodes : length are.nodes ≡ 0 = sym (length-map are.nodes level_of) ∙ ap length are.levels ∙ ap (λ l. length (levels_of l)) nothing in
    same_of _ _ (ap root_plane (nil_from_length are.nodes no_nodes) ∙ ap (centred level) (sym none) ∙ centred_of_corner level plane)
root_plane_read level plane listed are (last_root before is) =
    let count : length are.nodes ≡ suc (length before) =
    let size = length-append before (record { level = level; plane = from_corner level plane } ∷ []) in
    let same = sym (length-map are.nodes level_of) ∙ ap length are.levels ∙ length-map listed (λ (s : Square). s.level) ∙ ap length is in omega (arith, size, same) in
    let level_is : root_level are.nodes ≡ level =
    let place : length are.nodes - 1 ≡ length before = omega (arith, count) in
    ap (λ l. get_or l (length are.nodes - 1) 0) are.levels ∙ ap (λ n. get_or (levels_of listed) n 0) place ∙ ap (λ l. get_or (levels_of l) (length before) 0) is
    ∙ last_of (λ (s : Square). s.level) before (record { level = level; plane = from_corner level plane }) 0 in
    let plane_is : plane_at (planes_of are.nodes) (length are.nodes) ≡ from_corner level plane =
    ap (plane_at (planes_of are.nodes)) count ∙ ap (λ p. get_or p (length before) empty) are.planes ∙ ap (λ l. get_or (planes_in l) (length before) empty) is
    ∙ last_of (λ (s : Square). s.plane) before (record { level = level; plane = from_corner level plane }) empty in
    same_of _ _ (ap (λ n. centred n (plane_at (planes_of are.nodes) (length are.nodes))) level_is ∙ ap (centred level) plane_is ∙ centred_of_corner level plane)
