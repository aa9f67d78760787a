-- The nodes with that of the root.
use Rattle.std.proofs.Common.{◌≡◌, ℕ, ◌+◌, ◌-◌, ◌^◌, ◌≤◌, pos, ◌-ℤ◌, true, false, cond, List, [], ◌∷◌, ◌++◌, map, flat_map, codes, refl, sym, ◌∙◌, ap, subst, arith, append-nil}
use Rattle.std.specs.Prelude.{None, int_lt}
use Rattle.std.specs.List.{position_or_len}
use Rattle.std.proofs.lemmas.Bool.{false≢true}
use Rattle.std.proofs.lemmas.Slice.Eq.{bytes_eq-Decides}
use Rattle.std.proofs.lemmas.List.Folds.{flat_map-map}
use Rattle.plane.specs.Plane.{Plane}
use Rattle.plane.specs.Square.{IsSame, IsSquare, cut, empty, joined}
use Rattle.plane.proofs.Borders.{cut_within}
use Rattle.plane.proofs.Cuts.{cut_empty, if_case}
use Rattle.plane.proofs.Paddings.{twice_half}
use Rattle.plane.proofs.Middles.{whole_joined}
use Rattle.plane.proofs.Same.{plane_equal, same_of, same_refl, same_sym, same_trans}
use Rattle.squares.specs.Book.{Book, IsBook, nth}
use Rattle.squares.specs.declared.sq.Sq.{Sq}
use Rattle.squares.specs.Noted.{value_of}
use Rattle.squares.proofs.NumberMaps.{by_cases}
use Rattle.pattern_writers.specs.ListedNodes.{AreListed, AreNodes, HasNumber, Lists, ListsFour, are_zero, listed_with, root_node, square_of}
use Rattle.pattern_writers.specs.McText.{from_corner, node_lines, square_text}
use Rattle.pattern_writers.specs.NodeLines.{node_line, node_text}
use Rattle.pattern_writers.specs.Roots.{IsRoot}
use Rattle.pattern_writers.specs.Subsquares.{Square, if_alive, is_dead, is_same_square, listed_in, nw_of, ne_of, sw_of, se_of, number_in, with_new}
use Rattle.pattern_writers.specs.declared.mc_text.listing.NodeList.{NodeList}
use Rattle.pattern_writers.specs.declared.mc_text.node.ListedNode.{ListedNode}
use Rattle.pattern_writers.specs.declared.mc_text.node.ListedNode.TheVariants.{Inner}
use Rattle.pattern_writers.specs.declared.mc_text.root.Root.{Root}
use Rattle.pattern_writers.proofs.ListedQuarters.{added_by_parts, alive_itself, has_parts, not_in_parts, text_behind_parts}
use Rattle.pattern_writers.proofs.ListedSquares.{number_of_empty, texts_after}
use Rattle.pattern_writers.proofs.Repeats.{with_one-new}
use Rattle.pattern_writers.proofs.RootParts.{corner_square}
use Rattle.pattern_writers.proofs.Subsquares.{dead_empty, empty_dead}

-- ---- empty quarters

dead_number : (listed : List Square) (square : Square) → HasNumber listed square 0 → is_dead square ≡ true
unfolding number_in
dead_number listed square has =
    elim (is_dead square) as (λ t. cond t 0 (position_or_len (is_same_square square) (listed ++ []) + 1) ≡ 0 → t ≡ true) [
      | true ↦ λ _. refl
      | false ↦ λ no. absurd (omega (arith, no))
    ] (has.numbered [])

one_of_two : (listed : List Square) (square : Square) (number : ℕ) → HasNumber listed square number → is_dead square ≡ true → number ≡ 0
one_of_two listed square number has dead = sym (has.numbered []) ∙ (number_of_empty listed square dead).numbered []

four_empty : (side : ℕ) (nw ne sw se : Plane) → IsSame nw empty → IsSame ne empty → IsSame sw empty → IsSame se empty → IsSame (joined side nw ne sw se) empty
four_empty side nw ne sw se a b c d = record {
  same = λ x y.
      if_case (int_lt y (pos side)) _ _ false
      (λ _. if_case (int_lt x (pos side)) _ _ false (λ _. a.same x y) (λ _. b.same (x -ℤ pos side) y))
      (λ _. if_case (int_lt x (pos side)) _ _ false (λ _. c.same x (y -ℤ pos side)) (λ _. d.same (x -ℤ pos side) (y -ℤ pos side)));
}

-- a square whose quarters are empty is empty, and the other way round
whole_empty : (level : ℕ) (plane : Plane) → 1 ≤ level → IsSquare (2 ^ level) plane → is_dead (nw_of (level - 1) plane) ≡ true → is_dead (ne_of (level - 1) plane) ≡ true →
    is_dead (sw_of (level - 1) plane) ≡ true → is_dead (se_of (level - 1) plane) ≡ true → plane ≡ empty
whole_empty level plane least is a b c d =
    let side : ℕ = 2 ^ (level - 1) in
    let none = λ (left top : ℕ) (dead : is_dead (record { level = level - 1; plane = cut side left top plane }) ≡ true).
    same_of _ _ (dead_empty (record { level = level - 1; plane = cut side left top plane }) (cut_within side left top plane) dead) in
    plane_equal plane empty
    (same_trans (same_sym (whole_joined side plane _ _ _ _ (subst (λ n. IsSquare n plane) (twice_half level least) is) (same_refl (cut side 0 0 plane)) (same_refl (cut side side 0 plane)) (same_refl (cut side 0 side plane)) (same_refl (cut side side side plane))))
    (four_empty side _ _ _ _ (none 0 0 a) (none side 0 b) (none 0 side c) (none side side d)))

part_empty : (level left top : ℕ) (plane : Plane) → plane ≡ empty → is_dead (record { level = level; plane = cut (2 ^ level) left top plane }) ≡ true
part_empty level left top plane none =
    ap (λ p. is_dead (record { level = level; plane = p })) (ap (cut (2 ^ level) left top) none ∙ plane_equal _ _ (cut_empty (2 ^ level) left top)) ∙ empty_dead level

-- ---- lines from texts

lines_from : (listed : List Square) (nodes : List ListedNode) → map (square_text listed) listed ≡ map node_text nodes → flat_map node_line nodes ≡ node_lines listed
lines_from listed nodes same =
    sym (flat_map-map (λ text. text ++ codes "\n") node_text nodes) ∙ ap (flat_map (λ text. text ++ codes "\n")) (sym same) ∙ flat_map-map (λ text. text ++ codes "\n") (square_text listed) listed

-- nothing is listed at first
pub none_listed : (book : Book) (list : NodeList) → list.nodes.items ≡ [] → ((sq : Sq) → value_of list.numbers sq ≡ None) → AreListed book [] list
none_listed book list empty none = record {
  numbers = λ sq known. none sq;
  texts = λ more. ap (map node_text) (sym empty);
  no_more = λ sq known is more. absurd (false≢true is);
}

all_zero : (a b c d : ℕ) → a ≡ 0 → b ≡ 0 → c ≡ 0 → d ≡ 0 → are_zero (a ∷ b ∷ c ∷ d ∷ []) ≡ true
all_zero a b c d e f g h = λ i. are_zero (e i ∷ f i ∷ g i ∷ h i ∷ [])

zeros : (a b c d : ℕ) → are_zero (a ∷ b ∷ c ∷ d ∷ []) ≡ true → (a ≡ 0) × (b ≡ 0) × (c ≡ 0) × (d ≡ 0)
zeros a b c d all =
    let same : (a ∷ b ∷ c ∷ d ∷ []) ≡ (0 ∷ 0 ∷ 0 ∷ 0 ∷ []) = (bytes_eq-Decides (a ∷ b ∷ c ∷ d ∷ []) (0 ∷ 0 ∷ 0 ∷ 0 ∷ [])).0 all in
    (cc, cc, cc, cc)

without_root : (level : ℕ) (quarters : List ℕ) (nodes : List ListedNode) → are_zero quarters ≡ true → nodes ++ root_node level quarters ≡ nodes
without_root level quarters nodes zero = ap (λ t. nodes ++ cond t [] (Inner level quarters ∷ [])) zero ∙ append-nil nodes

with_root : (level : ℕ) (quarters : List ℕ) (nodes : List ListedNode) → are_zero quarters ≡ false → nodes ++ root_node level quarters ≡ nodes ++ Inner level quarters ∷ []
with_root level quarters nodes some = ap (λ t. nodes ++ cond t [] (Inner level quarters ∷ [])) some

dead_adds : (listed : List Square) (square : Square) → is_dead square ≡ true → with_new listed (if_alive square) ≡ listed
unfolding with_new
dead_adds listed square dead = ap (λ t. with_new listed (cond t [] (square ∷ []))) dead

-- the nodes of a root with its quarters
module _ (book : Book) (laws : IsBook book) (plane : Plane) (root : Root) (is : IsRoot book plane root) (l0 l1 l2 l3 l4 : NodeList) (a b c d : ℕ)
    (none : l0.nodes.items ≡ []) (unknown : (sq : Sq) → value_of l0.numbers sq ≡ None)
    (is_a : Lists book (nth root.quarters 0) l0 l1 a) (is_b : Lists book (nth root.quarters 1) l1 l2 b) (is_c : Lists book (nth root.quarters 2) l2 l3 c) (is_d : Lists book (nth root.quarters 3) l3 l4 d) where
  nodes_of_each : (nodes : List ListedNode) → nodes ≡ l4.nodes.items ++ root_node root.level (a ∷ b ∷ c ∷ d ∷ []) → AreNodes plane nodes
  nodes_of_each nodes grown =
      let level : ℕ = root.level in
      let whole : Square = record { level = level; plane = from_corner level plane } in
      let nw = nth root.quarters 0 in let ne = nth root.quarters 1 in let sw = nth root.quarters 2 in let se = nth root.quarters 3 in
      let least = is.smallest.least in
      let parts = has_parts book level whole.plane root.quarters is.quarters in
      let square = corner_square level plane is.smallest.holds in
      let are_0 = none_listed book l0 none unknown in
      let are_1 = is_a.lists _ are_0 in let are_2 = is_b.lists _ are_1 in let are_3 = is_c.lists _ are_2 in let are_4 = is_d.lists _ are_3 in
      let has_a = is_a.numbers _ are_0 in let has_b = is_b.numbers _ are_1 in let has_c = is_c.numbers _ are_2 in let has_d = is_d.numbers _ are_3 in
      let listed : List Square = listed_with book (listed_with book (listed_with book (listed_with book [] nw) ne) sw) se in
      let added : listed_in level whole.plane ≡ with_new listed (if_alive whole) = added_by_parts book [] level whole.plane nw ne sw se (omega arith) parts in
      let texts : map (square_text listed) listed ≡ map node_text l4.nodes.items = ap (λ l. map (square_text l) listed) (sym (append-nil listed)) ∙ are_4.texts [] in
      let lines : flat_map node_line nodes ≡ node_lines (listed_in level whole.plane) =
      by_cases (is_dead whole)
      (λ dead.
      let empty_plane = dead_empty whole square dead in
      let zero_a = one_of_two _ (square_of book nw) a has_a (ap is_dead parts.nw_is ∙ part_empty (level - 1) 0 0 whole.plane empty_plane) in
      let zero_b = one_of_two _ (square_of book ne) b has_b (ap is_dead parts.ne_is ∙ part_empty (level - 1) (2 ^ (level - 1)) 0 whole.plane empty_plane) in
      let zero_c = one_of_two _ (square_of book sw) c has_c (ap is_dead parts.sw_is ∙ part_empty (level - 1) 0 (2 ^ (level - 1)) whole.plane empty_plane) in
      let zero_d = one_of_two _ (square_of book se) d has_d (ap is_dead parts.se_is ∙ part_empty (level - 1) (2 ^ (level - 1)) (2 ^ (level - 1)) whole.plane empty_plane) in
      let same : nodes ≡ l4.nodes.items = grown ∙ without_root level (a ∷ b ∷ c ∷ d ∷ []) l4.nodes.items (all_zero a b c d zero_a zero_b zero_c zero_d) in
      lines_from listed nodes (texts ∙ ap (map node_text) (sym same)) ∙ ap node_lines (sym (added ∙ dead_adds listed whole dead)))
      (λ alive.
      let some : are_zero (a ∷ b ∷ c ∷ d ∷ []) ≡ false =
      by_cases (are_zero (a ∷ b ∷ c ∷ d ∷ []))
      (λ zero.
      let four = zeros a b c d zero in
      let dead_a = dead_number _ (square_of book nw) (subst (HasNumber _ (square_of book nw)) four.0 has_a) in
      let dead_b = dead_number _ (square_of book ne) (subst (HasNumber _ (square_of book ne)) four.1 has_b) in
      let dead_c = dead_number _ (square_of book sw) (subst (HasNumber _ (square_of book sw)) four.2 has_c) in
      let dead_d = dead_number _ (square_of book se) (subst (HasNumber _ (square_of book se)) four.3 has_d) in
      let empty_plane = whole_empty level whole.plane (omega arith) square (ap is_dead (sym parts.nw_is) ∙ dead_a) (ap is_dead (sym parts.ne_is) ∙ dead_b) (ap is_dead (sym parts.sw_is) ∙ dead_c) (ap is_dead (sym parts.se_is) ∙ dead_d) in
      absurd (false≢true (sym alive ∙ ap (λ p. is_dead (record { level = level; plane = p })) empty_plane ∙ empty_dead level)))
      (λ no_zero. no_zero) in
      let fresh = not_in_parts book [] whole nw ne sw se (omega arith) parts refl in
      let one : listed_in level whole.plane ≡ listed ++ whole ∷ [] = added ∙ ap (with_new listed) (alive_itself whole alive) ∙ with_one-new listed whole fresh in
      let more : nodes ≡ l4.nodes.items ++ Inner level (a ∷ b ∷ c ∷ d ∷ []) ∷ [] = grown ∙ with_root level (a ∷ b ∷ c ∷ d ∷ []) l4.nodes.items some in
      let all_texts = texts_after listed l4.nodes.items nodes whole (Inner level (a ∷ b ∷ c ∷ d ∷ [])) are_4.texts more (text_behind_parts book [] whole nw ne sw se a b c d (omega arith) parts has_a has_b has_c has_d) [] in
      lines_from (listed ++ whole ∷ []) nodes (ap (λ l. map (square_text l) (listed ++ whole ∷ [])) (sym (append-nil (listed ++ whole ∷ []))) ∙ all_texts) ∙ ap node_lines (sym one)) in
      record { level = level; smallest = is.smallest; lines = lines }

pub nodes_of_root : (book : Book) (laws : IsBook book) (plane : Plane) (root : Root) (old new : NodeList) (quarters : List ℕ) (nodes : List ListedNode) → IsRoot book plane root → old.nodes.items ≡ [] →
    ((sq : Sq) → value_of old.numbers sq ≡ None) → ListsFour book root.quarters old new quarters → nodes ≡ new.nodes.items ++ root_node root.level quarters → AreNodes plane nodes
nodes_of_root book laws plane root old new quarters nodes is none unknown four grown =
    nodes_of_each book laws plane root is old four.with_nw four.with_ne four.with_sw new four.number_nw four.number_ne four.number_sw four.number_se none unknown
    four.nw four.ne four.sw four.se nodes (grown ∙ ap (λ q. new.nodes.items ++ root_node root.level q) four.are)
