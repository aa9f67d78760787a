-- What the list of nodes gains by a square: nothing, a leaf, or the squares of its quarters and
-- itself.
use Rattle.std.proofs.Common.{◌≡◌, ℕ, ◌+◌, ◌-◌, ◌<◌, ◌≤◌, true, false, cond, List, [], ◌∷◌, ◌++◌, length, refl, sym, ◌∙◌, ap, subst, arith, append-nil}
use Rattle.std.specs.Prelude.{Some, None, IsTrue, ◌==◌}
use Rattle.std.specs.HashMap.{Updates}
use Rattle.std.specs.List.{AllByRecursion}
use Rattle.std.proofs.lemmas.Bool.{cond-true, cond-false, false≢true}
use Rattle.std.proofs.lemmas.Bool.Decides.{Decides-eqb}
use Rattle.std.proofs.lemmas.Option.{none-some, same_Some}
use Rattle.plane.specs.Plane.{Plane}
use Rattle.plane.specs.Square.{IsSame, bits_plane}
use Rattle.plane.proofs.Same.{plane_equal}
use Rattle.plane.proofs.Elements.{AllByRecursion-weaker}
use Rattle.squares.specs.Book.{Book, IsBook, IsKnown, Shows, AreQuarters, nth}
use Rattle.squares.specs.declared.sq.Sq.{Sq}
use Rattle.squares.specs.Noted.{is_same_key, value_of}
use Rattle.squares.proofs.NumberMaps.{by_cases}
use Rattle.pattern_writers.specs.LeafText.{leaf_text}
use Rattle.pattern_writers.specs.ListedNodes.{AreListed, HasNumber, Lists, ListsFour, listed_with, number_of, square_of}
use Rattle.pattern_writers.specs.McText.{inner_text, square_text}
use Rattle.pattern_writers.specs.NodeLines.{node_text}
use Rattle.pattern_writers.specs.Subsquares.{Square, if_alive, is_dead, is_listed, is_same_square, nw_of, ne_of, sw_of, se_of, number_in, squares_in, with_new}
use Rattle.pattern_writers.specs.declared.mc_text.listing.NodeList.{NodeList}
use Rattle.pattern_writers.specs.declared.mc_text.node.ListedNode.{ListedNode}
use Rattle.pattern_writers.specs.declared.mc_text.node.ListedNode.TheVariants.{Leaf, Inner}
use Rattle.pattern_writers.proofs.ListedSquares.{alive_known, empty_adds, empty_number, found_number, not_found, number_kept, number_later, number_listed, one_more_listed}
use Rattle.pattern_writers.proofs.Repeats.{not_new, nothing_again, with_new-append, with_one-new}
use Rattle.pattern_writers.proofs.Subsquares.{levels_in, other_level, square_equal, squares_in_quarters}

-- a square that is alive is itself one of its squares
pub alive_itself : (square : Square) → is_dead square ≡ false → if_alive square ≡ square ∷ []
alive_itself square alive = ap (λ t. cond t [] (square ∷ [])) alive

-- the only square in a leaf
leaf_itself : (square : Square) → square.level ≡ 3 → is_dead square ≡ false → squares_in (square.level - 3) square.plane ≡ square ∷ []
unfolding squares_in
leaf_itself square level alive =
    let none : square.level - 3 ≡ 0 = omega arith in
    let same : record { level = 3; plane = square.plane } ≡ square = λ i. record { level = sym level i; plane = square.plane } in
    ap (λ n. squares_in n square.plane) none ∙ ap if_alive same ∙ alive_itself square alive

-- the text of a leaf that is listed
pub text_of_leaf : (listed : List Square) (square : Square) (word : ℕ) → square.level ≡ 3 → IsSame square.plane (bits_plane word) → square_text listed square ≡ node_text (Leaf word)
text_of_leaf listed square word level same =
    ap (λ t. cond t (leaf_text square.plane) (inner_text square.level (number_in listed (nw_of (square.level - 1) square.plane)) (number_in listed (ne_of (square.level - 1) square.plane))
    (number_in listed (sw_of (square.level - 1) square.plane)) (number_in listed (se_of (square.level - 1) square.plane)))) ((Decides-eqb square.level 3).1 level)
    ∙ ap leaf_text (plane_equal square.plane (bits_plane word) same)

-- a larger square is not a leaf
pub not_three : (level : ℕ) → 3 < level → (level == 3) ≡ false
not_three level above = elim (level == 3) as (λ t. (t ≡ true → level ≡ 3) → t ≡ false) [
  | true ↦ λ is. let same = is refl in absurd (omega (arith, same))
  | false ↦ λ _. refl
] (Decides-eqb level 3).0

five_equal : (level a b c d a' b' c' d' : ℕ) → a ≡ a' → b ≡ b' → c ≡ c' → d ≡ d' → inner_text level a b c d ≡ inner_text level a' b' c' d'
five_equal level a b c d a' b' c' d' e f g h = λ i. inner_text level (e i) (f i) (g i) (h i)

-- the text of a larger square that is listed
pub text_of_inner : (listed : List Square) (square : Square) (a b c d : ℕ) → 3 < square.level →
    number_in listed (nw_of (square.level - 1) square.plane) ≡ a → number_in listed (ne_of (square.level - 1) square.plane) ≡ b →
    number_in listed (sw_of (square.level - 1) square.plane) ≡ c → number_in listed (se_of (square.level - 1) square.plane) ≡ d →
    square_text listed square ≡ node_text (Inner square.level (a ∷ b ∷ c ∷ d ∷ []))
text_of_inner listed square a b c d above e f g h =
    ap (λ t. cond t (leaf_text square.plane) (inner_text square.level (number_in listed (nw_of (square.level - 1) square.plane)) (number_in listed (ne_of (square.level - 1) square.plane))
    (number_in listed (sw_of (square.level - 1) square.plane)) (number_in listed (se_of (square.level - 1) square.plane)))) (not_three square.level above)
    ∙ five_equal square.level _ _ _ _ a b c d e f g h

-- none of the squares in a smaller square is the same
pub lower_levels : (square : Square) (more : ℕ) (plane : Plane) → more + 3 < square.level → AllByRecursion (λ other. is_same_square square other ≡ false) (squares_in more plane)
lower_levels square more plane above =
    AllByRecursion-weaker (λ (other : Square). other.level ≤ more + 3) (λ other. is_same_square square other ≡ false)
    (λ other low. other_level square other (omega (arith, low))) (squares_in more plane) (levels_in more plane)

-- the squares of four quarters and the whole, added in turn
pub added_in_turn : (listed a b c d e : List Square) → with_new listed (a ++ b ++ c ++ d ++ e) ≡ with_new (with_new (with_new (with_new (with_new listed a) b) c) d) e
added_in_turn listed a b c d e =
    with_new-append listed (a ++ b ++ c ++ d) e
    ∙ ap (λ l. with_new l e) (with_new-append listed (a ++ b ++ c) d)
    ∙ ap (λ l. with_new (with_new l d) e) (with_new-append listed (a ++ b) c)
    ∙ ap (λ l. with_new (with_new (with_new l c) d) e) (with_new-append listed a b)

-- the four quarters of a square, as squares of its book
pub record HasParts (book : Book) (level : ℕ) (plane : Plane) (nw ne sw se : Sq) : Type 0 where
  pub nw_is : square_of book nw ≡ nw_of (level - 1) plane
  pub ne_is : square_of book ne ≡ ne_of (level - 1) plane
  pub sw_is : square_of book sw ≡ sw_of (level - 1) plane
  pub se_is : square_of book se ≡ se_of (level - 1) plane

pub has_parts : (book : Book) (level : ℕ) (plane : Plane) (parts : List Sq) → AreQuarters book level plane parts → HasParts book level plane (nth parts 0) (nth parts 1) (nth parts 2) (nth parts 3)
has_parts book level plane parts are = record {
  nw_is = square_equal (square_of book (nth parts 0)) (nw_of (level - 1) plane) are.nw.known.at_level are.nw.cells;
  ne_is = square_equal (square_of book (nth parts 1)) (ne_of (level - 1) plane) are.ne.known.at_level are.ne.cells;
  sw_is = square_equal (square_of book (nth parts 2)) (sw_of (level - 1) plane) are.sw.known.at_level are.sw.cells;
  se_is = square_equal (square_of book (nth parts 3)) (se_of (level - 1) plane) are.se.known.at_level are.se.cells;
}

abbrev pub inside : Square → List Square
inside square = squares_in (square.level - 3) square.plane

-- the squares that a square of four quarters adds: those of the quarters, and itself
pub added_by_parts : (book : Book) (listed : List Square) (level : ℕ) (plane : Plane) (nw ne sw se : Sq) → 3 < level → HasParts book level plane nw ne sw se →
    with_new listed (squares_in (level - 3) plane) ≡
    with_new (listed_with book (listed_with book (listed_with book (listed_with book listed nw) ne) sw) se) (if_alive (record { level = level; plane = plane }))
added_by_parts book listed level plane nw ne sw se above are =
    let whole = if_alive (record { level = level; plane = plane }) in
    ap (with_new listed) (squares_in_quarters level plane above)
    ∙ added_in_turn listed (inside (nw_of (level - 1) plane)) (inside (ne_of (level - 1) plane)) (inside (sw_of (level - 1) plane)) (inside (se_of (level - 1) plane)) whole
    ∙ ap (λ q. with_new (with_new (with_new (with_new (with_new listed (inside q)) (inside (ne_of (level - 1) plane))) (inside (sw_of (level - 1) plane))) (inside (se_of (level - 1) plane))) whole) (sym are.nw_is)
    ∙ ap (λ q. with_new (with_new (with_new (with_new (listed_with book listed nw) (inside q)) (inside (sw_of (level - 1) plane))) (inside (se_of (level - 1) plane))) whole) (sym are.ne_is)
    ∙ ap (λ q. with_new (with_new (with_new (listed_with book (listed_with book listed nw) ne) (inside q)) (inside (se_of (level - 1) plane))) whole) (sym are.sw_is)
    ∙ ap (λ q. with_new (with_new (listed_with book (listed_with book (listed_with book listed nw) ne) sw) (inside q)) whole) (sym are.se_is)

part_low : (book : Book) (level : ℕ) (sq : Sq) (square : Square) → 3 < level → square_of book sq ≡ square → square.level ≡ level - 1 → sq.level - 3 + 3 < level
part_low book level sq square above is low = let same = ap (λ (s : Square). s.level) is in omega (arith, same, low)

-- a square of this level that is not listed is not so after its quarters
pub not_in_parts : (book : Book) (listed : List Square) (square : Square) (nw ne sw se : Sq) → 3 < square.level → HasParts book square.level square.plane nw ne sw se →
    is_listed listed square ≡ false → is_listed (listed_with book (listed_with book (listed_with book (listed_with book listed nw) ne) sw) se) square ≡ false
not_in_parts book listed square nw ne sw se above are fresh =
    let low = λ (sq : Sq) (quarter : Square) (is : square_of book sq ≡ quarter) (level : quarter.level ≡ square.level - 1).
    lower_levels square (sq.level - 3) (book.cells sq) (part_low book square.level sq quarter above is level) in
    not_new _ _ square (not_new _ _ square (not_new _ _ square (not_new _ _ square fresh
    (low nw (nw_of (square.level - 1) square.plane) are.nw_is refl)) (low ne (ne_of (square.level - 1) square.plane) are.ne_is refl))
    (low sw (sw_of (square.level - 1) square.plane) are.sw_is refl)) (low se (se_of (square.level - 1) square.plane) are.se_is refl)

number_of_part : (listed : List Square) (part square : Square) (number : ℕ) → part ≡ square → HasNumber listed part number → (more : List Square) → number_in (listed ++ more) square ≡ number
number_of_part listed part square number is has more = ap (number_in (listed ++ more)) (sym is) ∙ has.numbered more

-- the text of a square that is listed behind its quarters
pub text_behind_parts : (book : Book) (listed : List Square) (square : Square) (nw ne sw se : Sq) (a b c d : ℕ) → 3 < square.level → HasParts book square.level square.plane nw ne sw se →
    HasNumber (listed_with book listed nw) (square_of book nw) a →
    HasNumber (listed_with book (listed_with book listed nw) ne) (square_of book ne) b →
    HasNumber (listed_with book (listed_with book (listed_with book listed nw) ne) sw) (square_of book sw) c →
    HasNumber (listed_with book (listed_with book (listed_with book (listed_with book listed nw) ne) sw) se) (square_of book se) d →
    (more : List Square) → square_text ((listed_with book (listed_with book (listed_with book (listed_with book listed nw) ne) sw) se ++ square ∷ []) ++ more) square
    ≡ node_text (Inner square.level (a ∷ b ∷ c ∷ d ∷ []))
text_behind_parts book listed square nw ne sw se a b c d above are is_a is_b is_c is_d more =
    text_of_inner _ square a b c d above
    (number_of_part _ _ _ a are.nw_is (number_kept (square ∷ []) (number_later (inside (square_of book se)) (number_later (inside (square_of book sw)) (number_later (inside (square_of book ne)) is_a)))) more)
    (number_of_part _ _ _ b are.ne_is (number_kept (square ∷ []) (number_later (inside (square_of book se)) (number_later (inside (square_of book sw)) is_b))) more)
    (number_of_part _ _ _ c are.sw_is (number_kept (square ∷ []) (number_later (inside (square_of book se)) is_c)) more)
    (number_of_part _ _ _ d are.se_is (number_kept (square ∷ []) is_d) more)

-- what was listed adds nothing again
itself_again : (listed before squares : List Square) (square : Square) → with_new listed squares ≡ before ++ square ∷ [] → (more : List Square) →
    with_new ((before ++ square ∷ []) ++ more) squares ≡ (before ++ square ∷ []) ++ more
itself_again listed before squares square whole more = subst (λ l. with_new (l ++ more) squares ≡ l ++ more) whole (nothing_again listed squares more)

-- the number of a square that is not empty
pub number_noted : (list : NodeList) (sq : Sq) → (sq.num.0 ≡ 0 → ⊥) → number_of list sq ≡ value_of list.numbers sq
number_noted list sq some = cond-false (sq.num.0 == 0) (Some 0) (value_of list.numbers sq) (by_cases (sq.num.0 == 0) (λ zero. absurd (some ((Decides-eqb sq.num.0 0).0 zero))) (λ not_zero. not_zero))

module _ (book : Book) (laws : IsBook book) where
  -- the list after a square was added behind others
  added : (listed before : List Square) (old new : NodeList) (sq : Sq) (node : ListedNode) (number : ℕ) → IsKnown book sq.level sq → (sq.num.0 ≡ 0 → ⊥) → AreListed book before old →
      is_listed before (square_of book sq) ≡ false → number ≡ length old.nodes.items + 1 → new.nodes.items ≡ old.nodes.items ++ node ∷ [] →
      Updates is_same_key old.numbers new.numbers (sq.level, sq.num.0) (Some number) →
      ((more : List Square) → square_text ((before ++ square_of book sq ∷ []) ++ more) (square_of book sq) ≡ node_text node) →
      listed_with book listed sq ≡ before ++ square_of book sq ∷ [] →
      AreListed book (listed_with book listed sq) new × HasNumber (listed_with book listed sq) (square_of book sq) number
  added listed before old new sq node number known some are fresh next grown up text whole =
      subst (λ l. AreListed book l new × HasNumber l (square_of book sq) number) (sym whole)
      (one_more_listed book laws before old new sq node number are known.known (alive_known book laws sq known some) fresh next grown up text
      (itself_again listed before (inside (square_of book sq)) (square_of book sq) whole))

  fresh_square : (listed : List Square) (old : NodeList) (sq : Sq) → AreListed book listed old → IsTrue (book.knows sq) → value_of old.numbers sq ≡ None → is_listed listed (square_of book sq) ≡ false
  fresh_square listed old sq are known none = not_found listed (square_of book sq) (sym (are.numbers sq known) ∙ none)

  -- an empty square adds nothing
  empty_lists : (list : NodeList) (sq : Sq) → sq.num.0 ≡ 0 → Lists book sq list list 0
  empty_lists list sq zero = record {
    lists = λ listed are. let P : List Square → Type 0 = λ l. AreListed book l list in subst P (sym (empty_adds book laws listed sq zero)) are;
    numbers = λ listed are. subst (λ l. HasNumber l (square_of book sq) 0) (sym (empty_adds book laws listed sq zero)) (empty_number book laws listed sq zero);
  }

  -- nor does one that has a number
  known_lists : (list : NodeList) (sq : Sq) (number : ℕ) → IsTrue (book.knows sq) → value_of list.numbers sq ≡ Some number → Lists book sq list list number
  known_lists list sq number known is =
      let found = λ (listed : List Square) (are : AreListed book listed list). found_number listed (square_of book sq) number (sym (are.numbers sq known) ∙ is) in
      let same = λ (listed : List Square) (are : AreListed book listed list).
      subst (λ l. listed_with book l sq ≡ l) (append-nil listed) (are.no_more sq known (found listed are).0 []) in
      record {
        lists = λ listed are. let P : List Square → Type 0 = λ l. AreListed book l list in subst P (sym (same listed are)) are;
        numbers = λ listed are.
            subst (λ l. HasNumber l (square_of book sq) number) (sym (same listed are))
            (subst (HasNumber listed (square_of book sq)) (found listed are).1 (number_listed listed (square_of book sq) (found listed are).0));
      }

  -- a square for which no node has to be added has its number
  pub number_lists : (list : NodeList) (sq : Sq) (number : ℕ) → IsTrue (book.knows sq) → number_of list sq ≡ Some number → Lists book sq list list number
  number_lists list sq number known =
      by_cases (sq.num.0 == 0)
      (λ zero is. subst (Lists book sq list list) (same_Some 0 number (sym (cond-true (sq.num.0 == 0) (Some 0) (value_of list.numbers sq) zero) ∙ is)) (empty_lists list sq ((Decides-eqb sq.num.0 0).0 zero)))
      (λ not_zero is. known_lists list sq number known (sym (cond-false (sq.num.0 == 0) (Some 0) (value_of list.numbers sq) not_zero) ∙ is))

  -- one for which a node has to be added is not empty, and has none
  pub no_number : (list : NodeList) (sq : Sq) → number_of list sq ≡ None → (sq.num.0 ≡ 0 → ⊥) × (value_of list.numbers sq ≡ None)
  no_number list sq none =
      by_cases (sq.num.0 == 0)
      (λ zero. absurd (none-some 0 (sym none ∙ cond-true (sq.num.0 == 0) (Some 0) (value_of list.numbers sq) zero)))
      (λ not_zero. (
        λ zero. false≢true (sym not_zero ∙ (Decides-eqb sq.num.0 0).1 zero),
        sym (cond-false (sq.num.0 == 0) (Some 0) (value_of list.numbers sq) not_zero) ∙ none,
      ))

  -- a leaf that is new
  pub leaf_lists : (old new : NodeList) (sq : Sq) (word number : ℕ) → IsKnown book sq.level sq → (sq.num.0 ≡ 0 → ⊥) → sq.level ≡ 3 → value_of old.numbers sq ≡ None →
      Shows book 3 (bits_plane word) sq → number ≡ length old.nodes.items + 1 → new.nodes.items ≡ old.nodes.items ++ Leaf word ∷ [] →
      Updates is_same_key old.numbers new.numbers (sq.level, sq.num.0) (Some number) → Lists book sq old new number
  leaf_lists old new sq word number known some level none shows next grown up =
      let made = λ (listed : List Square) (are : AreListed book listed old).
      let fresh = fresh_square listed old sq are known.known none in
      added listed listed old new sq (Leaf word) number known some are fresh next grown up
      (λ more. text_of_leaf ((listed ++ square_of book sq ∷ []) ++ more) (square_of book sq) word level shows.cells)
      (ap (with_new listed) (leaf_itself (square_of book sq) level (alive_known book laws sq known some)) ∙ with_one-new listed (square_of book sq) fresh) in
      record { lists = λ listed are. (made listed are).0; numbers = λ listed are. (made listed are).1 }

  -- a larger square that is new, after its quarters
  inner_lists_each : (l0 l1 l2 l3 l4 new : NodeList) (sq nw ne sw se : Sq) (a b c d number : ℕ) → IsKnown book sq.level sq → (sq.num.0 ≡ 0 → ⊥) → 3 < sq.level → value_of l0.numbers sq ≡ None →
      HasParts book sq.level (book.cells sq) nw ne sw se → Lists book nw l0 l1 a → Lists book ne l1 l2 b → Lists book sw l2 l3 c → Lists book se l3 l4 d →
      number ≡ length l4.nodes.items + 1 → new.nodes.items ≡ l4.nodes.items ++ Inner sq.level (a ∷ b ∷ c ∷ d ∷ []) ∷ [] →
      Updates is_same_key l4.numbers new.numbers (sq.level, sq.num.0) (Some number) → Lists book sq l0 new number
  inner_lists_each l0 l1 l2 l3 l4 new sq nw ne sw se a b c d number known some above none parts is_a is_b is_c is_d next grown up =
      let made = λ (listed : List Square) (are : AreListed book listed l0).
      let are_1 = is_a.lists listed are in
      let are_2 = is_b.lists _ are_1 in
      let are_3 = is_c.lists _ are_2 in
      let are_4 = is_d.lists _ are_3 in
      let fresh = not_in_parts book listed (square_of book sq) nw ne sw se above parts (fresh_square listed l0 sq are known.known none) in
      added listed _ l4 new sq (Inner sq.level (a ∷ b ∷ c ∷ d ∷ [])) number known some are_4 fresh next grown up
      (text_behind_parts book listed (square_of book sq) nw ne sw se a b c d above parts (is_a.numbers listed are) (is_b.numbers _ are_1) (is_c.numbers _ are_2) (is_d.numbers _ are_3))
      (added_by_parts book listed sq.level (book.cells sq) nw ne sw se above parts ∙ ap (with_new _) (alive_itself (square_of book sq) (alive_known book laws sq known some)) ∙ with_one-new _ (square_of book sq) fresh) in
      record { lists = λ listed are. (made listed are).0; numbers = λ listed are. (made listed are).1 }

  pub inner_lists : (old behind new : NodeList) (sq : Sq) (parts : List Sq) (quarters : List ℕ) (number : ℕ) → IsKnown book sq.level sq → (sq.num.0 ≡ 0 → ⊥) → 3 < sq.level → value_of old.numbers sq ≡ None →
      AreQuarters book sq.level (book.cells sq) parts → ListsFour book parts old behind quarters →
      number ≡ length behind.nodes.items + 1 → new.nodes.items ≡ behind.nodes.items ++ Inner sq.level quarters ∷ [] →
      Updates is_same_key behind.numbers new.numbers (sq.level, sq.num.0) (Some number) → Lists book sq old new number
  inner_lists old behind new sq parts quarters number known some above none are four next grown up =
      inner_lists_each old four.with_nw four.with_ne four.with_sw behind new sq (nth parts 0) (nth parts 1) (nth parts 2) (nth parts 3)
      four.number_nw four.number_ne four.number_sw four.number_se number known some above none (has_parts book sq.level (book.cells sq) parts are)
      four.nw four.ne four.sw four.se next (grown ∙ ap (λ q. behind.nodes.items ++ Inner sq.level q ∷ []) four.are) up
