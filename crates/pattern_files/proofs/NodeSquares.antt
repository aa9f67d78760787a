-- Squares of nodes, one after the other.
use Rattle.std.proofs.Common.{◌≡◌, ℕ, zero, suc, ◌+◌, ◌-◌, ◌^◌, ◌<◌, ◌≤◌, Bool, true, false, ◌&&◌, List, [], ◌∷◌, ◌++◌, length, map, slice_index, slice_index_or, slice_get, None, Some, Result, Ok, Err, IfOk, refl, sym, ◌∙◌, ap, subst, append_assoc, append-nil, arith}
use Rattle.std.specs.List.{AllByRecursion, list_all}
use Rattle.std.proofs.lemmas.Bool.Decides.{nat_tests}
use Rattle.macrocell_reader.specs.NodeFaults.{StandInOrder, fault_among, is_child}
use Rattle.macrocell_reader.specs.Nodes.{level_of}
use Rattle.macrocell_reader.specs.Planes.{node_plane, plane_at, planes_after, planes_of, root_level, root_plane}
use Rattle.macrocell_reader.specs.declared.node.Node.{Node}
use Rattle.macrocell_reader.specs.declared.node.Node.TheVariants.{Inner}
use Rattle.macrocell_reader.proofs.OrderLemmas.{accepted_inner}
use Rattle.macrocell_reader.proofs.RangeLemmas.{level_between}
use Rattle.plane.specs.Plane.{Plane}
use Rattle.plane.specs.Square.{empty, joined}
use Rattle.plane.proofs.Same.{plane_equal}
use Rattle.plane.proofs.Elements.{AllByRecursion-append}
use Rattle.squares.specs.Book.{Book, IsBook, IsKnown, Keeps, Shows, joined_squares, nth, numbered}
use Rattle.plane.specs.Centred.{IsSmallestLevel, centred}
use Rattle.hashlife_step.specs.ShowsCentred.{ShowsCentred}
use Rattle.squares.specs.Roots.{IsRootOf}
use Rattle.squares.specs.declared.sq.Sq.{Sq}
use Rattle.squares.proofs.Kept.{known_kept}
use Rattle.pattern_files.specs.NodeSquares.{AreKnownAtLevels, ShowNodes, levels_of, numbered_square, quarters_of, shown_planes}

-- ---- the squares of an inner node

both_true : (a b : Bool) → (a && b) ≡ true → (a ≡ true) × (b ≡ true)
both_true true b is = (refl, is)
both_true false b is = cc

one_of : (test : ℕ → Bool) (kids : List ℕ) (i : ℕ) → test 0 ≡ true → list_all test kids ≡ true → test (slice_index kids i) ≡ true
one_of test [] i none all = none
one_of test (kid ∷ kids) zero none all = (both_true (test kid) (list_all test kids) all).0
one_of test (kid ∷ kids) (suc i) none all = one_of test kids i none (both_true (test kid) (list_all test kids) all).1

-- the square that an inner node of this level names by a number
pub record IsQuarter (book : Book) (squares : List Sq) (level number : ℕ) : Type 0 where
  pub known : IsKnown book (level - 1) (numbered_square squares (level - 1) number)
  pub cells : book.cells (numbered_square squares (level - 1) number) ≡ plane_at (shown_planes book squares) number
  pub within : number ≤ length squares

quarter_at : (book : Book) (level : ℕ) (squares : List Sq) (before : ℕ) → AreKnownAtLevels book squares → is_child (levels_of squares) level (suc before) ≡ true → IsQuarter book squares level (suc before)
quarter_at book level [] before known is = cc
quarter_at book level (sq ∷ squares) zero known is =
    let lower : sq.level + 1 ≡ level = grind (arith, nat_tests) in
    let at : sq.level ≡ level - 1 = omega (arith, lower) in
    record {
      known = subst (λ (l : ℕ). IsKnown book l sq) at known.0;
      cells = refl;
      within = omega arith;
    }
quarter_at book level (sq ∷ squares) (suc before) known is =
    let later = quarter_at book level squares before known.1 is in
    record { known = later.known; cells = later.cells; within = omega (arith, later.within) }

pub quarter : (book : Book) → IsBook book → (squares : List Sq) (level number : ℕ) → AreKnownAtLevels book squares → 4 ≤ level → level ≤ 63 → is_child (levels_of squares) level number ≡ true →
    IsQuarter book squares level number
quarter book laws squares level zero known low high is = record {
  known = record { known = laws.zero_known (level - 1) (omega (arith, low)) (omega (arith, high)); at_level = refl; low = omega (arith, low); high = omega (arith, high) };
  cells = plane_equal _ _ (laws.zero_empty (level - 1));
  within = omega arith;
}
quarter book laws squares level (suc before) known low high is = quarter_at book level squares before known is

-- the squares that an inner node without a fault names
pub inner_quarter : (book : Book) → IsBook book → (squares : List Sq) (level : ℕ) (kids : List ℕ) (i : ℕ) → AreKnownAtLevels book squares → fault_among (levels_of squares) (Some (Inner level kids)) ≡ None →
    IsQuarter book squares level (slice_index kids i)
inner_quarter book laws squares level kids i known lawful =
    let inner = accepted_inner (levels_of squares) level kids lawful in
    quarter book laws squares level (slice_index kids i) known inner.low inner.high (one_of (is_child (levels_of squares) level) kids i refl inner.children)

-- ---- one node more

pub planes_more : (planes : List Plane) (nodes : List Node) (node : Node) → planes_after planes (nodes ++ node ∷ []) ≡ planes_after planes nodes ++ node_plane (planes_after planes nodes) node ∷ []
planes_more planes [] node = refl
planes_more planes (first ∷ nodes) node = planes_more (planes ++ node_plane planes first ∷ []) nodes node

map-append : {A B : Type 0} (f : A → B) (xs ys : List A) → map f (xs ++ ys) ≡ map f xs ++ map f ys
map-append f [] ys = refl
map-append f (x ∷ xs) ys = ap (λ l. f x ∷ l) (map-append f xs ys)

-- what squares show stays
pub planes_kept : (old new : Book) (squares : List Sq) → Keeps old new → AreKnownAtLevels old squares → shown_planes new squares ≡ shown_planes old squares
planes_kept old new [] keeps known = refl
planes_kept old new (sq ∷ squares) keeps known =
    ap (λ (p : Plane). p ∷ shown_planes new squares) (plane_equal _ _ (keeps.cells sq known.0.known))
    ∙ ap (λ (ps : List Plane). old.cells sq ∷ ps) (planes_kept old new squares keeps known.1)

all_kept : (old new : Book) (squares : List Sq) → Keeps old new → AreKnownAtLevels old squares → AreKnownAtLevels new squares
all_kept old new [] keeps known = tt
all_kept old new (sq ∷ squares) keeps known = (known_kept keeps known.0, all_kept old new squares keeps known.1)

pub one_more_shown : (old new : Book) (nodes : List Node) (squares : List Sq) (node : Node) (sq : Sq) → Keeps old new → ShowNodes old nodes squares →
    Shows new (level_of node) (node_plane (shown_planes old squares) node) sq → ShowNodes new (nodes ++ node ∷ []) (squares ++ sq ∷ [])
one_more_shown old new nodes squares node sq keeps shown is = record {
  known = AllByRecursion-append _ squares (sq ∷ []) (all_kept old new squares keeps shown.known) (subst (λ (l : ℕ). IsKnown new l sq) (sym is.known.at_level) is.known, tt);
  levels = map-append (λ (s : Sq). s.level) squares (sq ∷ []) ∙ ap (λ (l : List ℕ). l ++ sq.level ∷ []) shown.levels ∙ ap (λ (l : ℕ). map level_of nodes ++ l ∷ []) is.known.at_level
      ∙ sym (map-append level_of nodes (node ∷ []));
  planes = map-append new.cells squares (sq ∷ [])
      ∙ ap (λ (ps : List Plane). ps ++ new.cells sq ∷ []) (planes_kept old new squares keeps shown.known ∙ shown.planes)
      ∙ ap (λ (p : Plane). planes_of nodes ++ p ∷ []) (plane_equal _ _ is.cells ∙ ap (λ (ps : List Plane). node_plane ps node) shown.planes)
      ∙ sym (planes_more [] nodes node);
}

-- ---- what the square of an inner node shows

module _ (book : Book) (laws : IsBook book) (squares : List Sq) (level : ℕ) (kids : List ℕ) (known : AreKnownAtLevels book squares)
    (lawful : fault_among (levels_of squares) (Some (Inner level kids)) ≡ None) where
  at : (i : ℕ) → IsQuarter book squares level (slice_index kids i)
  at i = inner_quarter book laws squares level kids i known lawful

  -- the level of the first quarter is that of all
  pub quarters_level : (nth (quarters_of squares (level - 1) kids) 0).level ≡ level - 1
  quarters_level = (at 0).known.at_level

  pub quarters_known : AllByRecursion (IsKnown book (nth (quarters_of squares (level - 1) kids) 0).level) (quarters_of squares (level - 1) kids)
  quarters_known = subst (λ (l : ℕ). AllByRecursion (IsKnown book l) (quarters_of squares (level - 1) kids)) (sym quarters_level)
      ((at 0).known, ((at 1).known, ((at 2).known, ((at 3).known, tt))))

  pub inner_level : (4 ≤ level) × (level ≤ 63)
  inner_level = let is = accepted_inner (levels_of squares) level kids lawful in (is.low, is.high)

  joined_is : joined_squares book (level - 1) (quarters_of squares (level - 1) kids) ≡ node_plane (shown_planes book squares) (Inner level kids)
  joined_is =
      ap (λ (p : Plane). joined (2 ^ (level - 1)) p (book.cells (nth (quarters_of squares (level - 1) kids) 1)) (book.cells (nth (quarters_of squares (level - 1) kids) 2)) (book.cells (nth (quarters_of squares (level - 1) kids) 3))) (at 0).cells
      ∙ ap (λ (p : Plane). joined (2 ^ (level - 1)) (plane_at (shown_planes book squares) (slice_index kids 0)) p (book.cells (nth (quarters_of squares (level - 1) kids) 2)) (book.cells (nth (quarters_of squares (level - 1) kids) 3))) (at 1).cells
      ∙ ap (λ (p : Plane). joined (2 ^ (level - 1)) (plane_at (shown_planes book squares) (slice_index kids 0)) (plane_at (shown_planes book squares) (slice_index kids 1)) p (book.cells (nth (quarters_of squares (level - 1) kids) 3))) (at 2).cells
      ∙ ap (λ (p : Plane). joined (2 ^ (level - 1)) (plane_at (shown_planes book squares) (slice_index kids 0)) (plane_at (shown_planes book squares) (slice_index kids 1)) (plane_at (shown_planes book squares) (slice_index kids 2)) p) (at 3).cells

  pub inner_shown : (new : Book) (sq : Sq) → Shows new ((nth (quarters_of squares (level - 1) kids) 0).level + 1) (joined_squares book (nth (quarters_of squares (level - 1) kids) 0).level (quarters_of squares (level - 1) kids)) sq →
      Shows new level (node_plane (shown_planes book squares) (Inner level kids)) sq
  inner_shown new sq is =
      let low = inner_level.0 in
      let whole : (level - 1) + 1 ≡ level = omega (arith, low) in
      let at_level = subst (λ (l : ℕ). Shows new (l + 1) (joined_squares book l (quarters_of squares (level - 1) kids)) sq) quarters_level is in
      subst (λ (p : Plane). Shows new level p sq) joined_is (subst (λ (l : ℕ). Shows new l (joined_squares book (level - 1) (quarters_of squares (level - 1) kids)) sq) whole at_level)

-- ---- the nodes so far

-- of all these nodes those up to the rest have these squares
pub record HaveRead (book : Book) (all rest : List Node) (squares : List Sq) : Type 0 where
  pub done : List Node
  pub whole : all ≡ done ++ rest
  pub shown : ShowNodes book done squares
  pub order : StandInOrder (map level_of done) rest

pub all_read : (book : Book) (all rest : List Node) (squares : List Sq) → rest ≡ [] → HaveRead book all rest squares → ShowNodes book all squares
all_read book all rest squares none read =
    subst (λ (nodes : List Node). ShowNodes book nodes squares) (sym (read.whole ∙ ap (λ (l : List Node). read.done ++ l) none ∙ append-nil read.done)) read.shown

pub next_read : (old new : Book) (all rest : List Node) (node : Node) (squares : List Sq) (sq : Sq) → Keeps old new → HaveRead old all (node ∷ rest) squares →
    Shows new (level_of node) (node_plane (shown_planes old squares) node) sq → HaveRead new all rest (squares ++ sq ∷ [])
next_read old new all rest node squares sq keeps read is = record {
  done = read.done ++ node ∷ [];
  whole = read.whole ∙ sym (append_assoc read.done (node ∷ []) rest);
  shown = one_more_shown old new read.done squares node sq keeps read.shown is;
  order = subst (λ (levels : List ℕ). StandInOrder levels rest) (sym (map-append level_of read.done (node ∷ []))) read.order.1;
}

-- ---- the root

-- what the last of some squares shows
pub record IsRoot (book : Book) (nodes : List Node) (root : Sq) : Type 0 where
  pub known : IsKnown book root.level root
  pub level : root.level ≡ root_level nodes
  pub cells : book.cells root ≡ plane_at (planes_of nodes) (length nodes)

slice_get-map : {A B : Type 0} (f : A → B) (xs : List A) (i : ℕ) (x : A) → slice_get xs i ≡ Some x → slice_get (map f xs) i ≡ Some (f x)
slice_get-map f [] i x found = cc
slice_get-map f (y ∷ ys) zero x found = let same : y ≡ x = cc in ap (λ z. Some (f z)) same
slice_get-map f (y ∷ ys) (suc i) x found = slice_get-map f ys i x found

index_found : {A : Type 0} (d : A) (xs : List A) (i : ℕ) (x : A) → slice_get xs i ≡ Some x → slice_index_or xs i d ≡ x
index_found d [] i x found = cc
index_found d (y ∷ ys) zero x found = cc
index_found d (y ∷ ys) (suc i) x found = index_found d ys i x found

known_at : (book : Book) (squares : List Sq) (i : ℕ) (sq : Sq) → AreKnownAtLevels book squares → slice_get squares i ≡ Some sq → IsKnown book sq.level sq
known_at book [] i sq known found = cc
known_at book (first ∷ squares) zero sq known found = let same : first ≡ sq = cc in subst (λ (s : Sq). IsKnown book s.level s) same known.0
known_at book (first ∷ squares) (suc i) sq known found = known_at book squares i sq known.1 found

length-map : {A B : Type 0} (f : A → B) (xs : List A) → length (map f xs) ≡ length xs
length-map f [] = refl
length-map f (x ∷ xs) = ap suc (length-map f xs)

plane_before : (planes : List Plane) (n : ℕ) (plane : Plane) → slice_get planes (n - 1) ≡ Some plane → 0 < n → plane_at planes n ≡ plane
plane_before planes zero plane found some = absurd (omega (arith, some))
plane_before planes (suc before) plane found some =
    let same : suc before - 1 ≡ before = omega arith in
    index_found empty planes before plane (subst (λ (n : ℕ). slice_get planes n ≡ Some plane) same found)

some_found : {A : Type 0} (xs : List A) (i : ℕ) (x : A) → slice_get xs i ≡ Some x → 0 < length xs
some_found [] i x found = cc
some_found (y ∷ ys) i x found = omega arith

-- the last of the squares of some nodes shows the last of them
pub last_shown : (book : Book) (nodes : List Node) (squares : List Sq) (root : Sq) → ShowNodes book nodes squares → slice_get squares (length squares - 1) ≡ Some root → IsRoot book nodes root
last_shown book nodes squares root shown found =
    let same : length squares ≡ length nodes = sym (length-map (λ (s : Sq). s.level) squares) ∙ ap length shown.levels ∙ length-map level_of nodes in
    let at : slice_get squares (length nodes - 1) ≡ Some root = subst (λ (n : ℕ). slice_get squares (n - 1) ≡ Some root) same found in
    let some : 0 < length nodes = subst (λ (n : ℕ). 0 < n) same (some_found squares _ root found) in
    record {
      known = known_at book squares _ root shown.known found;
      level = sym (index_found 0 (map level_of nodes) (length nodes - 1) root.level
          (subst (λ (levels : List ℕ). slice_get levels (length nodes - 1) ≡ Some root.level) shown.levels (slice_get-map (λ (s : Sq). s.level) squares _ root at)));
      cells = sym (plane_before (planes_of nodes) (length nodes) (book.cells root)
          (subst (λ (planes : List Plane). slice_get planes (length nodes - 1) ≡ Some (book.cells root)) shown.planes (slice_get-map book.cells squares _ root at)) some);
    }

-- the root's level is that of a square of the range
pub root_high : (book : Book) (nodes : List Node) (squares : List Sq) (root : Sq) → StandInOrder [] nodes → ShowNodes book nodes squares → slice_get squares (length squares - 1) ≡ Some root →
    root.level ≤ 63
root_high book nodes squares root order shown found =
    (level_between [] nodes (length squares - 1) root.level order
    (subst (λ (levels : List ℕ). slice_get levels (length squares - 1) ≡ Some root.level) shown.levels (slice_get-map (λ (s : Sq). s.level) squares _ root found))).1

-- the root's cells, around (0,0)
pub root_shown : (book : Book) (nodes : List Node) (root : Sq) → IsRoot book nodes root → centred root.level (book.cells root) ≡ root_plane nodes
root_shown book nodes root is = ap (λ (l : ℕ). centred l (book.cells root)) is.level ∙ ap (centred (root_level nodes)) is.cells

no_at : {A : Type 0} (x : A) (xs : List A) → slice_get (x ∷ xs) (length xs) ≡ None → ⊥
no_at x [] none = cc
no_at x (y ∷ ys) none = no_at y ys none

none_found : {A : Type 0} (xs : List A) → slice_get xs (length xs - 1) ≡ None → xs ≡ []
none_found [] none = refl
none_found (x ∷ xs) none =
    let one_less : suc (length xs) - 1 ≡ length xs = omega arith in
    absurd (no_at x xs (subst (λ (n : ℕ). slice_get (x ∷ xs) n ≡ None) one_less none))

no_levels : (nodes : List Node) → [] ≡ map level_of nodes → nodes ≡ []
no_levels [] none = refl
no_levels (node ∷ nodes) none = cc

-- where the squares have no last one, there is no node
pub no_nodes : (book : Book) (nodes : List Node) (squares : List Sq) → ShowNodes book nodes squares → slice_get squares (length squares - 1) ≡ None → nodes ≡ []
no_nodes book nodes squares shown none = no_levels nodes (ap levels_of (sym (none_found squares none)) ∙ shown.levels)

-- where there are no nodes, the empty square is the root
pub empty_root : (book : Book) → IsBook book → (nodes : List Node) → nodes ≡ [] → IsRootOf book (root_plane nodes) (numbered 4 0)
empty_root book laws nodes none = subst (λ (ns : List Node). IsRootOf book (root_plane ns) (numbered 4 0)) (sym none) (record {
  known = record { known = laws.zero_known 4 (omega arith) (omega arith); at_level = refl; low = omega arith; high = omega arith };
  smallest = record {
    least = omega arith;
    holds = record { dead = λ x y outside. refl };
    no_smaller = λ other least less. absurd (omega (arith, least, less));
  };
  cells = record { same = λ x y. (laws.zero_empty 4).same _ _ };
})

pub both_ok : {E : Type 0} (r : Result Sq E) (P Q R : Sq → Type 0) → ((sq : Sq) → P sq → Q sq → R sq) → IfOk r P → IfOk r Q → IfOk r R
both_ok (Ok sq) P Q R join p q = join sq p q
both_ok (Err e) P Q R join p q = tt

-- the trimmed root
pub trimmed_root : (old new : Book) (nodes : List Node) (root sq : Sq) → centred root.level (old.cells root) ≡ root_plane nodes → ShowsCentred new (centred root.level (old.cells root)) sq →
    IsSmallestLevel sq.level (centred root.level (old.cells root)) → IsRootOf new (root_plane nodes) sq
trimmed_root old new nodes root sq is shown smallest =
    subst (λ (p : Plane). IsRootOf new p sq) is (record { known = shown.known; smallest = smallest; cells = shown.cells })
