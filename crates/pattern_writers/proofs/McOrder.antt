-- The squares that are listed are read back from their lines, one after the other.
use Rattle.std.proofs.Common.{◌≡◌, ℕ, ◌+◌, ◌-◌, ◌^◌, ◌<◌, ◌≤◌, Bool, true, false, cond, List, [], ◌∷◌, ◌++◌, length, map, Some, None, refl, sym, ◌∙◌, ap, subst, arith, append_assoc, length-append}
use Rattle.std.specs.Prelude.{◌==◌, ◌&&◌, nat_le, nat_lt}
use Rattle.std.specs.List.{AllByRecursion}
use Rattle.std.proofs.lemmas.Bool.{false≢true}
use Rattle.std.proofs.lemmas.Bool.Decides.{Decides-eqb, nat_tests}
use Rattle.std.proofs.lemmas.List.{length-map, map-append}
use Rattle.plane.specs.Plane.{Plane}
use Rattle.plane.specs.Square.{IsSame, IsSquare, empty, joined}
use Rattle.plane.proofs.Borders.{cut_within}
use Rattle.plane.proofs.Paddings.{twice_half}
use Rattle.plane.proofs.Middles.{whole_joined}
use Rattle.plane.proofs.Same.{plane_equal, same_refl, same_sym}
use Rattle.squares.proofs.NumberMaps.{by_cases}
use Rattle.macrocell_reader.specs.Leaf.{leaf_bits}
use Rattle.macrocell_reader.specs.NodeFaults.{fault_among, has_children, is_above, is_node}
use Rattle.macrocell_reader.specs.Nodes.{level_of, node_of}
use Rattle.macrocell_reader.specs.Planes.{node_plane}
use Rattle.macrocell_reader.specs.declared.node.Node.{Node}
use Rattle.macrocell_reader.specs.declared.node.Node.TheVariants.{Leaf, Inner}
use Rattle.pattern_writers.specs.LeafText.{leaf_text}
use Rattle.pattern_writers.specs.McText.{square_text}
use Rattle.pattern_writers.specs.Subsquares.{Square, if_alive, is_dead, is_listed, number_in, nw_of, ne_of, sw_of, se_of, with_new}
use Rattle.pattern_writers.proofs.ListedQuarters.{alive_itself, text_of_inner, text_of_leaf}
use Rattle.pattern_writers.proofs.McLeaves.{leaf_cells_read, leaf_read, rows_written}
use Rattle.pattern_writers.proofs.McNodes.{AreRead, HasQuarters, IsGood, IsThere, child_there, levels_of, number_low, number_there, order_more, plane_there, planes_in, planes_more}
use Rattle.pattern_writers.proofs.McNumbers.{inner_read}
use Rattle.pattern_writers.proofs.Repeats.{with_one-listed, with_one-new}
use Rattle.pattern_writers.proofs.Subsquares.{empty_dead}

no_fault : (levels : List ℕ) (node : Node) → length levels < 4294967295 → is_above (Some node) ≡ false → is_node (Some node) ≡ true → has_children levels (Some node) ≡ true → fault_among levels (Some node) ≡ None
unfolding fault_among
no_fault levels node few above is children = let room : nat_le 4294967295 (length levels) ≡ false = grind (arith, nat_tests) in rw (above, room, is, children) refl

abbrev quarter_numbers : List Square → Square → List ℕ
quarter_numbers listed square =
    number_in listed (nw_of (square.level - 1) square.plane) ∷ number_in listed (ne_of (square.level - 1) square.plane)
    ∷ number_in listed (sw_of (square.level - 1) square.plane) ∷ number_in listed (se_of (square.level - 1) square.plane) ∷ []

four_true : (a b c d : Bool) → a ≡ true → b ≡ true → c ≡ true → d ≡ true → (a && (b && (c && (d && true)))) ≡ true
four_true a b c d e f g h = λ i. e i && (f i && (g i && (h i && true)))

four_joined : (side : ℕ) (a b c d a' b' c' d' : Plane) → a ≡ a' → b ≡ b' → c ≡ c' → d ≡ d' → joined side a b c d ≡ joined side a' b' c' d'
four_joined side a b c d a' b' c' d' e f g h = λ i. joined side (e i) (f i) (g i) (h i)

not_above : (level : ℕ) → level ≤ 63 → nat_lt 63 level ≡ false
not_above level high = grind (arith, nat_tests)

is_inner : (level : ℕ) → 3 < level → nat_le 4 level ≡ true
is_inner level above = grind (arith, nat_tests)

-- what a node has to be to be read as a square after those that are listed
record IsNodeOf (listed : List Square) (square : Square) (node : Node) : Type 0 where
  line : (more : List Square) → node_of (square_text ((listed ++ square ∷ []) ++ more) square) ≡ Some node
  fault : fault_among (levels_of listed) (Some node) ≡ None
  same_level : level_of node ≡ square.level
  same_plane : node_plane (planes_in listed) node ≡ square.plane

module _ (listed : List Square) (square : Square) (all : AllByRecursion IsGood listed) (good : IsGood square) (few : length listed + 1 < 4294967296) where
  count : length (levels_of listed) < 4294967295
  count = let same = length-map listed (λ (s : Square). s.level) in omega (arith, same, few)

  leaf_node : square.level ≡ 3 → (IsSame square.plane empty → ⊥) → IsNodeOf listed square (Leaf (leaf_bits (rows_written square.plane)))
  leaf_node is alive =
      let within : IsSquare 8 square.plane = subst (λ n. IsSquare (2 ^ n) square.plane) is good.within in
      let cells = leaf_cells_read square.plane within in
      record {
        line = λ more. ap node_of (text_of_leaf ((listed ++ square ∷ []) ++ more) square (leaf_bits (rows_written square.plane)) is (same_sym cells)
            ∙ ap leaf_text (plane_equal _ _ cells)) ∙ leaf_read square.plane within alive;
        fault = no_fault (levels_of listed) (Leaf (leaf_bits (rows_written square.plane))) count refl refl refl;
        same_level = sym is;
        same_plane = plane_equal _ _ cells;
      }

  inner_node : 3 < square.level → HasQuarters listed square → IsNodeOf listed square (Inner square.level (quarter_numbers listed square))
  inner_node above parts =
      let side : ℕ = 2 ^ (square.level - 1) in
      let lower : square.level - 1 + 1 ≡ square.level = omega (arith, above) in
      let high = good.high in
      let small = λ (q : Square). number_low listed q in
      let a = small (nw_of (square.level - 1) square.plane) in let b = small (ne_of (square.level - 1) square.plane) in
      let c = small (sw_of (square.level - 1) square.plane) in let d = small (se_of (square.level - 1) square.plane) in
      let stays = λ (q : Square) (there : IsThere listed q) (more : List Square).
      ap (λ l. number_in l q) (append_assoc listed (square ∷ []) more) ∙ number_there listed q there (square ∷ more) in
      let whole : IsSquare (side + side) square.plane = subst (λ n. IsSquare n square.plane) (twice_half square.level (omega (arith, above))) good.within in
      record {
        line = λ more. ap node_of (text_of_inner ((listed ++ square ∷ []) ++ more) square _ _ _ _ above (stays _ parts.nw more) (stays _ parts.ne more) (stays _ parts.sw more) (stays _ parts.se more))
            ∙ inner_read square.level _ _ _ _ (omega (arith, high)) (omega (arith, a, few)) (omega (arith, b, few)) (omega (arith, c, few)) (omega (arith, d, few));
        fault = no_fault (levels_of listed) (Inner square.level (quarter_numbers listed square)) count (not_above square.level high) (is_inner square.level above)
            (four_true _ _ _ _
            (child_there listed _ square.level all (cut_within side 0 0 square.plane) lower parts.nw) (child_there listed _ square.level all (cut_within side side 0 square.plane) lower parts.ne)
            (child_there listed _ square.level all (cut_within side 0 side square.plane) lower parts.sw) (child_there listed _ square.level all (cut_within side side side square.plane) lower parts.se));
        same_level = refl;
        same_plane = four_joined side _ _ _ _ _ _ _ _
            (plane_there listed _ all (cut_within side 0 0 square.plane) parts.nw) (plane_there listed _ all (cut_within side side 0 square.plane) parts.ne)
            (plane_there listed _ all (cut_within side 0 side square.plane) parts.sw) (plane_there listed _ all (cut_within side side side square.plane) parts.se)
            ∙ plane_equal _ _ (whole_joined side square.plane _ _ _ _ whole (same_refl _) (same_refl _) (same_refl _) (same_refl _));
      }

all_good : (first second : List Square) → AllByRecursion IsGood first → AllByRecursion IsGood second → AllByRecursion IsGood (first ++ second)
all_good [] second a b = b
all_good (square ∷ first) second a b = (a.0, all_good first second a.1 b)

-- one more square is read
with_node : (listed : List Square) (square : Square) (node : Node) → AreRead listed → IsGood square → IsNodeOf listed square node → AreRead (listed ++ square ∷ [])
with_node listed square node are good is = record {
  good = all_good listed (square ∷ []) are.good (good, tt);
  nodes = are.nodes ++ node ∷ [];
  lines = λ more.
      map-append (λ (s : Square). node_of (square_text ((listed ++ square ∷ []) ++ more) s)) listed (square ∷ [])
      ∙ ap (λ l. map (λ (s : Square). node_of (square_text l s)) listed ++ node_of (square_text ((listed ++ square ∷ []) ++ more) square) ∷ []) (append_assoc listed (square ∷ []) more)
      ∙ ap (λ l. l ++ node_of (square_text ((listed ++ square ∷ []) ++ more) square) ∷ []) (are.lines (square ∷ more))
      ∙ ap (λ o. map (λ (n : Node). Some n) are.nodes ++ o ∷ []) (is.line more)
      ∙ sym (map-append (λ (n : Node). Some n) are.nodes (node ∷ []));
  in_order = order_more [] are.nodes node are.in_order (ap (λ l. fault_among l (Some node)) are.levels ∙ is.fault);
  levels = map-append level_of are.nodes (node ∷ []) ∙ ap (λ l. l ++ level_of node ∷ []) are.levels ∙ ap (λ n. levels_of listed ++ n ∷ []) is.same_level
      ∙ sym (map-append (λ (s : Square). s.level) listed (square ∷ []));
  planes = planes_more [] are.nodes node ∙ ap (λ p. p ++ node_plane p node ∷ []) are.planes ∙ ap (λ p. planes_in listed ++ p ∷ []) is.same_plane
      ∙ sym (map-append (λ (s : Square). s.plane) listed (square ∷ []));
}

one_read : (listed : List Square) (square : Square) → AreRead listed → IsGood square → is_dead square ≡ false → (3 < square.level → HasQuarters listed square) → length listed + 1 < 4294967296 → AreRead (listed ++ square ∷ [])
one_read listed square are good alive parts few =
    by_cases (square.level == 3)
    (λ leaf.
    let is = (Decides-eqb square.level 3).0 leaf in
    with_node listed square _ are good (leaf_node listed square are.good good few is (λ none. false≢true (sym alive ∙ ap (λ p. is_dead (record { level = square.level; plane = p })) (plane_equal _ _ none) ∙ empty_dead square.level))))
    (λ inner.
    let differs : square.level ≡ 3 → ⊥ = λ is. false≢true (sym inner ∙ (Decides-eqb square.level 3).1 is) in
    let low = good.low in
    let above : 3 < square.level = omega (arith, low, differs) in
    with_node listed square _ are good (inner_node listed square are.good good few above (parts above)))

-- a square that is alive is read, if it is new
pub if_alive_read : (listed : List Square) (square : Square) → AreRead listed → IsGood square → (3 < square.level → HasQuarters listed square) →
    length (with_new listed (if_alive square)) < 4294967296 → AreRead (with_new listed (if_alive square))
unfolding with_new
if_alive_read listed square are good parts =
    by_cases (is_dead square)
    (λ dead. subst (λ l. length l < 4294967296 → AreRead l) (sym (ap (λ t. with_new listed (cond t [] (square ∷ []))) dead)) (λ _. are))
    (λ alive.
    subst (λ l. length (with_new listed l) < 4294967296 → AreRead (with_new listed l)) (sym (alive_itself square alive))
    (by_cases (is_listed listed square)
    (λ is. subst (λ l. length l < 4294967296 → AreRead l) (sym (with_one-listed listed square is)) (λ _. are))
    (λ new. subst (λ l. length l < 4294967296 → AreRead l) (sym (with_one-new listed square new)) (λ few. let size = length-append listed (square ∷ []) in one_read listed square are good alive parts (omega (arith, size, few))))))
