-- The list of nodes as it grows.
use Rattle.std.proofs.Common.{◌≡◌, ℕ, ◌+◌, ◌-◌, true, false, cond, List, [], ◌∷◌, ◌++◌, length, map, refl, sym, ◌∙◌, ap, subst, arith, append_assoc, append-nil}
use Rattle.std.specs.Prelude.{Some, None, IsTrue, ◌==◌, ◌&&◌}
use Rattle.std.specs.HashMap.{Updates}
use Rattle.std.specs.List.{position_or_len}
use Rattle.std.proofs.lemmas.Bool.{false≢true}
use Rattle.std.proofs.lemmas.Bool.Decides.{Decides-eqb}
use Rattle.std.proofs.lemmas.List.{length-map, map-append}
use Rattle.plane.proofs.Same.{same_of, same_sym, same_trans}
use Rattle.squares.specs.Book.{Book, IsBook, IsKnown, numbered}
use Rattle.squares.specs.declared.sq.Sq.{Sq}
use Rattle.squares.specs.Noted.{is_same_key, value_of}
use Rattle.viewport.proofs.Counts.{zero_is_empty}
use Rattle.squares.proofs.NumberMaps.{by_cases}
use Rattle.squares.proofs.SquareNumbers.{same_sq}
use Rattle.plane.proofs.Cuts.{and_left, and_right}
use Rattle.std.proofs.lemmas.Bool.{eqb-true}
use Rattle.pattern_writers.specs.ListedNodes.{AreListed, HasNumber, found_in, listed_with, square_of}
use Rattle.pattern_writers.specs.McText.{square_text}
use Rattle.pattern_writers.specs.NodeLines.{node_text}
use Rattle.pattern_writers.specs.Subsquares.{Square, is_dead, is_listed, is_same_square, number_in, squares_in, with_new}
use Rattle.pattern_writers.specs.declared.mc_text.listing.NodeList.{NodeList}
use Rattle.pattern_writers.specs.declared.mc_text.node.ListedNode.{ListedNode}
use Rattle.pattern_writers.proofs.Repeats.{last_listed, listed_before, place-kept, place-new, same_self, with_new-grows}
use Rattle.pattern_writers.proofs.Subsquares.{dead_empty, empty_dead, none_in_empty, same_square}

-- ---- numbers

-- a square that has a number keeps it with more behind
pub number_kept : {listed : List Square} {square : Square} {number : ℕ} (more : List Square) → HasNumber listed square number → HasNumber (listed ++ more) square number
number_kept {listed} {square} {number} more has = record {
  numbered = λ others. ap (λ l. number_in l square) (append_assoc listed more others) ∙ has.numbered (more ++ others);
}

-- and with more squares that are listed
pub number_later : {listed : List Square} {square : Square} {number : ℕ} (squares : List Square) → HasNumber listed square number → HasNumber (with_new listed squares) square number
number_later {listed} {square} {number} squares has =
    let grown = with_new-grows listed squares in
    let P : List Square → Type 0 = λ l. HasNumber l square number in subst P (sym grown.1) (number_kept grown.0 has)

-- an empty square has number 0
pub number_of_empty : (listed : List Square) (square : Square) → is_dead square ≡ true → HasNumber listed square 0
unfolding number_in
number_of_empty listed square dead = record {
  numbered = λ more. ap (λ t. cond t 0 (position_or_len (is_same_square square) (listed ++ more) + 1)) dead;
}

-- a square that is listed has its number
pub number_listed : (listed : List Square) (square : Square) → is_listed listed square ≡ true → HasNumber listed square (number_in listed square)
unfolding number_in
number_listed listed square is = record {
  numbered = λ more. ap (λ n. cond (is_dead square) 0 (n + 1)) (place-kept (is_same_square square) listed more is);
}

-- one that is listed last has the next number
pub number_of_last : (listed : List Square) (square : Square) → is_dead square ≡ false → is_listed listed square ≡ false → HasNumber (listed ++ square ∷ []) square (length listed + 1)
unfolding number_in
number_of_last listed square alive new = record {
  numbered = λ more.
      ap (λ t. cond t 0 (position_or_len (is_same_square square) ((listed ++ square ∷ []) ++ more) + 1)) alive
      ∙ ap (λ l. position_or_len (is_same_square square) l + 1) (append_assoc listed (square ∷ []) more)
      ∙ ap (λ n. n + 1) (place-new (is_same_square square) listed more square new (same_self square));
}

-- ---- what a map finds

-- the number that is found
pub found_number : (listed : List Square) (square : Square) (number : ℕ) → found_in listed square ≡ Some number → (is_listed listed square ≡ true) × (number_in listed square ≡ number)
found_number listed square number is =
    elim (is_listed listed square) as (λ t. cond t (Some (number_in listed square)) None ≡ Some number → (t ≡ true) × (number_in listed square ≡ number)) [
      | true ↦ λ found. (refl, cc)
      | false ↦ λ found. cc
    ] is

pub not_found : (listed : List Square) (square : Square) → found_in listed square ≡ None → is_listed listed square ≡ false
not_found listed square is =
    elim (is_listed listed square) as (λ t. cond t (Some (number_in listed square)) None ≡ None → t ≡ false) [
      | true ↦ λ found. cc
      | false ↦ λ found. refl
    ] is

-- a square that is not the last is found as before
found_before : (listed : List Square) (square other : Square) → is_same_square square other ≡ false → found_in (listed ++ other ∷ []) square ≡ found_in listed square
found_before listed square other differs =
    let same = listed_before listed square other differs in
    ap (λ t. cond t (Some (number_in (listed ++ other ∷ []) square)) None) same
    ∙ elim (is_listed listed square) as (λ t. is_listed listed square ≡ t → cond t (Some (number_in (listed ++ other ∷ []) square)) None ≡ cond t (Some (number_in listed square)) None) [
      | true ↦ λ is. let at = (number_listed listed square is).numbered (other ∷ []) in ap (λ n. Some n) at
      | false ↦ λ _. refl
    ] refl

-- the last is found
found_last : (listed : List Square) (square : Square) → is_dead square ≡ false → is_listed listed square ≡ false → found_in (listed ++ square ∷ []) square ≡ Some (length listed + 1)
found_last listed square alive new =
    ap (λ t. cond t (Some (number_in (listed ++ square ∷ []) square)) None) (last_listed listed square)
    ∙ ap (λ n. Some n) (sym (ap (λ l. number_in l square) (append-nil (listed ++ square ∷ []))) ∙ (number_of_last listed square alive new).numbered [])

-- the texts of squares after one more was added
pub texts_after : (listed : List Square) (old new : List ListedNode) (square : Square) (node : ListedNode) → ((more : List Square) → map (square_text (listed ++ more)) listed ≡ map node_text old) →
    new ≡ old ++ node ∷ [] → ((more : List Square) → square_text ((listed ++ square ∷ []) ++ more) square ≡ node_text node) → (more : List Square) →
    map (square_text ((listed ++ square ∷ []) ++ more)) (listed ++ square ∷ []) ≡ map node_text new
texts_after listed old new square node are added text more =
    map-append (square_text ((listed ++ square ∷ []) ++ more)) listed (square ∷ [])
    ∙ ap (λ l. map (square_text l) listed ++ square_text ((listed ++ square ∷ []) ++ more) square ∷ []) (append_assoc listed (square ∷ []) more)
    ∙ ap (λ l. l ++ square_text ((listed ++ square ∷ []) ++ more) square ∷ []) (are (square ∷ more))
    ∙ ap (λ t. map node_text old ++ t ∷ []) (text more)
    ∙ sym (ap (map node_text) added ∙ map-append node_text old (node ∷ []))

-- ---- squares of a book

module _ (book : Book) (laws : IsBook book) where
  -- the squares of two numbers are the same only if the numbers are
  pub one_square : (a b : Sq) → IsTrue (book.knows a) → IsTrue (book.knows b) → is_same_square (square_of book a) (square_of book b) ≡ true → a ≡ b
  one_square a b known_a known_b is =
      let same = same_square (square_of book a) (square_of book b) (laws.square a known_a) (laws.square b known_b) is in
      laws.one_number a b known_a known_b same.0 same.1

  other_square : (a b : Sq) → IsTrue (book.knows a) → IsTrue (book.knows b) → is_same_key (b.level, b.num.0) (a.level, a.num.0) ≡ false → is_same_square (square_of book a) (square_of book b) ≡ false
  other_square a b known_a known_b key =
      by_cases (is_same_square (square_of book a) (square_of book b))
      (λ is. let same = one_square a b known_a known_b is in absurd (false≢true (sym key ∙ ap (λ (q : Sq). is_same_key (b.level, b.num.0) (q.level, q.num.0)) same ∙ same_key b)))
      (λ differs. differs)
    where
      same_key : (q : Sq) → is_same_key (q.level, q.num.0) (q.level, q.num.0) ≡ true
      same_key q = ap (λ t. t && (q.num.0 == q.num.0)) ((Decides-eqb q.level q.level).1 refl) ∙ (Decides-eqb q.num.0 q.num.0).1 refl

  -- number 0 adds nothing
  pub empty_adds : (listed : List Square) (sq : Sq) → sq.num.0 ≡ 0 → listed_with book listed sq ≡ listed
  unfolding with_new
  empty_adds listed sq zero = ap (λ p. with_new listed (squares_in (sq.level - 3) p)) (zero_is_empty book sq laws zero) ∙ ap (with_new listed) (none_in_empty (sq.level - 3))

  pub empty_number : (listed : List Square) (sq : Sq) → sq.num.0 ≡ 0 → HasNumber listed (square_of book sq) 0
  empty_number listed sq zero = number_of_empty listed (square_of book sq) (ap (λ p. is_dead (record { level = sq.level; plane = p })) (zero_is_empty book sq laws zero) ∙ empty_dead sq.level)

  -- another number is alive
  pub alive_known : (sq : Sq) → IsKnown book sq.level sq → (sq.num.0 ≡ 0 → ⊥) → is_dead (square_of book sq) ≡ false
  alive_known sq known some =
      by_cases (is_dead (square_of book sq))
      (λ dead.
      let none = dead_empty (square_of book sq) (laws.square sq known.known) dead in
      let zero = laws.zero_known sq.level known.low known.high in
      let same = same_trans (same_of _ _ none) (same_sym (laws.zero_empty sq.level)) in
      absurd (some (ap (λ (q : Sq). q.num.0) (laws.one_number sq (numbered sq.level 0) known.known zero refl same))))
      (λ alive. alive)

  -- ---- one more square

  -- the number of a square after one more was added
  number_after : (listed : List Square) (old new : NodeList) (sq : Sq) (number : ℕ) → AreListed book listed old → IsTrue (book.knows sq) →
      is_dead (square_of book sq) ≡ false → is_listed listed (square_of book sq) ≡ false → number ≡ length listed + 1 →
      Updates is_same_key old.numbers new.numbers (sq.level, sq.num.0) (Some number) → (q : Sq) → IsTrue (book.knows q) →
      value_of new.numbers q ≡ found_in (listed ++ square_of book sq ∷ []) (square_of book q)
  number_after listed old new sq number are known alive fresh is up q known_q =
      by_cases (is_same_key (sq.level, sq.num.0) (q.level, q.num.0))
      (λ key.
      let same : sq ≡ q = same_sq sq q (eqb-true _ _ (and_left _ _ key)) (eqb-true _ _ (and_right _ _ key)) in
      let last : found_in (listed ++ square_of book sq ∷ []) (square_of book sq) ≡ Some number = found_last listed (square_of book sq) alive fresh ∙ ap (λ n. Some n) (sym is) in
      up.0 (q.level, q.num.0) ∙ ap (λ t. cond t (Some number) (value_of old.numbers q)) key ∙ sym last ∙ ap (λ (r : Sq). found_in (listed ++ square_of book sq ∷ []) (square_of book r)) same)
      (λ key.
      up.2 (q.level, q.num.0) key ∙ are.numbers q known_q ∙ sym (found_before listed (square_of book q) (square_of book sq) (other_square q sq known_q known key)))

  -- what is listed adds nothing after one more was added
  no_more_after : (listed : List Square) (old : NodeList) (sq : Sq) → AreListed book listed old → IsTrue (book.knows sq) →
      ((more : List Square) → listed_with book ((listed ++ square_of book sq ∷ []) ++ more) sq ≡ (listed ++ square_of book sq ∷ []) ++ more) →
      (q : Sq) → IsTrue (book.knows q) → is_listed (listed ++ square_of book sq ∷ []) (square_of book q) ≡ true → (more : List Square) →
      listed_with book ((listed ++ square_of book sq ∷ []) ++ more) q ≡ (listed ++ square_of book sq ∷ []) ++ more
  no_more_after listed old sq are known itself q known_q is more =
      by_cases (is_same_square (square_of book q) (square_of book sq))
      (λ same. subst (λ (r : Sq). listed_with book ((listed ++ square_of book sq ∷ []) ++ more) r ≡ (listed ++ square_of book sq ∷ []) ++ more) (sym (one_square q sq known_q known same)) (itself more))
      (λ differs.
      let before : is_listed listed (square_of book q) ≡ true = sym (listed_before listed (square_of book q) (square_of book sq) differs) ∙ is in
      ap (λ l. listed_with book l q) (append_assoc listed (square_of book sq ∷ []) more) ∙ are.no_more q known_q before (square_of book sq ∷ more) ∙ sym (append_assoc listed (square_of book sq ∷ []) more))

  -- one more square is listed with its node and its number
  pub one_more_listed : (listed : List Square) (old new : NodeList) (sq : Sq) (node : ListedNode) (number : ℕ) → AreListed book listed old → IsTrue (book.knows sq) →
      is_dead (square_of book sq) ≡ false → is_listed listed (square_of book sq) ≡ false → number ≡ length old.nodes.items + 1 → new.nodes.items ≡ old.nodes.items ++ node ∷ [] →
      Updates is_same_key old.numbers new.numbers (sq.level, sq.num.0) (Some number) →
      ((more : List Square) → square_text ((listed ++ square_of book sq ∷ []) ++ more) (square_of book sq) ≡ node_text node) →
      ((more : List Square) → listed_with book ((listed ++ square_of book sq ∷ []) ++ more) sq ≡ (listed ++ square_of book sq ∷ []) ++ more) →
      AreListed book (listed ++ square_of book sq ∷ []) new × HasNumber (listed ++ square_of book sq ∷ []) (square_of book sq) number
  one_more_listed listed old new sq node number are known alive fresh next added up text itself =
      let count : length listed ≡ length old.nodes.items = sym (length-map listed (square_text (listed ++ []))) ∙ ap length (are.texts []) ∙ length-map old.nodes.items node_text in
      let is : number ≡ length listed + 1 = omega (arith, count, next) in (
        record {
          numbers = number_after listed old new sq number are known alive fresh is up;
          texts = texts_after listed old.nodes.items new.nodes.items (square_of book sq) node are.texts added text;
          no_more = no_more_after listed old sq are known itself;
        },
        subst (HasNumber (listed ++ square_of book sq ∷ []) (square_of book sq)) (sym is) (number_of_last listed (square_of book sq) alive fresh),
      )
