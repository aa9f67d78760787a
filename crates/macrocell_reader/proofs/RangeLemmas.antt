-- The planes of nodes that stand in order are squares, and the last one lies in the range.
use Rattle.std.proofs.Common.{◌≡◌, ℕ, zero, suc, ◌+◌, ◌-◌, ◌^◌, ◌<◌, ◌≤◌, Bool, true, false, ℤ, pos, List, [], ◌∷◌, ◌++◌, length, map, Option, Some, None, refl, ap, sym, ◌∙◌, subst, arith, pow_mono, append-nil, append_assoc}
use Rattle.std.proofs.lemmas.List.{length-map}
use Rattle.std.specs.Prelude.{◌&&◌, ◌==◌, slice_get, slice_index, slice_index_or, ◌+ℤ◌}
use Rattle.std.specs.List.{list_all}
use Rattle.std.specs.Option.{option_map_or}
use Rattle.std.proofs.lemmas.Bool.Decides.{nat_tests}
use Rattle.std.proofs.lemmas.Int.{ints}
use Rattle.std.proofs.lemmas.Option.{slice_get-get_or}
use Rattle.plane.specs.Plane.{Plane}
use Rattle.plane.specs.Square.{IsSquare, spans, empty, bits_plane}
use Rattle.plane.specs.Range.{IsCoordinate, IsInRange}
use Rattle.plane.proofs.Cuts.{joined_within}
use Rattle.macrocell_reader.specs.NodeFaults.{is_child, fault_among, StandInOrder}
use Rattle.macrocell_reader.specs.Nodes.{level_of}
use Rattle.macrocell_reader.specs.Planes.{plane_at, node_plane, planes_after, planes_of, root_level, root_plane}
use Rattle.plane.specs.Centred.{centred}
use Rattle.macrocell_reader.specs.declared.node.Node.{Node}
use Rattle.macrocell_reader.specs.declared.node.Node.TheVariants.{Leaf, Inner}
use Rattle.macrocell_reader.proofs.OrderLemmas.{IsInner, accepted_inner}

-- each plane is a square of its level
abbrev pub AreSquares : List ℕ → List Plane → Type 0
AreSquares [] [] = Unit {0}
AreSquares [] (plane ∷ planes) = ⊥
AreSquares (level ∷ levels) [] = ⊥
AreSquares (level ∷ levels) (plane ∷ planes) = IsSquare (2 ^ level) plane × AreSquares levels planes

one_more : (levels : List ℕ) (planes : List Plane) (level : ℕ) (plane : Plane) → AreSquares levels planes → IsSquare (2 ^ level) plane → AreSquares (levels ++ level ∷ []) (planes ++ plane ∷ [])
one_more [] [] level plane all one = (one, tt)
one_more [] (first ∷ planes) level plane all one = absurd all
one_more (first ∷ levels) [] level plane all one = absurd all
one_more (first ∷ levels) (front ∷ planes) level plane all one = (all.0, one_more levels planes level plane all.1 one)

empty_square : (side : ℕ) → IsSquare side empty
empty_square side = record { dead = λ x y outside. refl }

square_at : (levels : List ℕ) (planes : List Plane) (at level : ℕ) → AreSquares levels planes → slice_get levels at ≡ Some level → IsSquare (2 ^ level) (slice_index_or planes at empty)
square_at [] planes at level all found = cc
square_at (first ∷ levels) [] at level all found = absurd all
square_at (first ∷ levels) (plane ∷ planes) zero level all found =
    let same : first ≡ level = cc in subst (λ (l : ℕ). IsSquare (2 ^ l) plane) same all.0
square_at (first ∷ levels) (plane ∷ planes) (suc at) level all found = square_at levels planes at level all.1 found

lower_level : (level : ℕ) (found : Option ℕ) → option_map_or (λ lower. lower + 1 == level) found false ≡ true → found ≡ Some (level - 1)
lower_level level None is = cc
lower_level level (Some lower) is =
    let one : lower + 1 ≡ level = grind (arith, nat_tests) in
    let same : lower ≡ level - 1 = omega arith in ap Some same

child_square : (levels : List ℕ) (planes : List Plane) (level kid : ℕ) → AreSquares levels planes → is_child levels level kid ≡ true → IsSquare (2 ^ (level - 1)) (plane_at planes kid)
child_square levels planes level zero all is = empty_square (2 ^ (level - 1))
child_square levels planes level (suc before) all is = square_at levels planes before (level - 1) all (lower_level level (slice_get levels before) is)

both_true : (a b : Bool) → (a && b) ≡ true → (a ≡ true) × (b ≡ true)
both_true true b h = (refl, h)
both_true false b h = cc

one_of : (test : ℕ → Bool) (kids : List ℕ) (at : ℕ) → test 0 ≡ true → list_all test kids ≡ true → test (slice_index kids at) ≡ true
one_of test [] at none all = none
one_of test (kid ∷ kids) zero none all = (both_true (test kid) (list_all test kids) all).0
one_of test (kid ∷ kids) (suc at) none all = one_of test kids at none (both_true (test kid) (list_all test kids) all).1

inner_square : (levels : List ℕ) (planes : List Plane) (level : ℕ) (kids : List ℕ) → AreSquares levels planes → IsInner levels level kids → IsSquare (2 ^ level) (node_plane planes (Inner level kids))
inner_square levels planes level kids all is =
    let half = 2 ^ (level - 1) in
    let child = λ (at : ℕ). child_square levels planes level (slice_index kids at) all (one_of (is_child levels level) kids at refl is.children) in
    let low = is.low in
    let place : level ≡ suc (level - 1) = omega arith in
    let double : half + half ≡ 2 ^ suc (level - 1) = omega arith in
    subst (λ (side : ℕ). IsSquare side (node_plane planes (Inner level kids))) (double ∙ ap (λ (l : ℕ). 2 ^ l) (sym place))
    (joined_within half (plane_at planes (slice_index kids 0)) (plane_at planes (slice_index kids 1)) (plane_at planes (slice_index kids 2)) (plane_at planes (slice_index kids 3)) (child 0) (child 1) (child 2) (child 3))

leaf_square : (bits : ℕ) → IsSquare 8 (bits_plane bits)
leaf_square bits = record { dead = λ x y outside. rw outside refl }

node_square : (levels : List ℕ) (planes : List Plane) (node : Node) → AreSquares levels planes → fault_among levels (Some node) ≡ None → IsSquare (2 ^ level_of node) (node_plane planes node)
node_square levels planes (Leaf bits) all none = leaf_square bits
node_square levels planes (Inner level kids) all none = inner_square levels planes level kids all (accepted_inner levels level kids none)

-- the planes of nodes that stand in order
pub planes_squares : (levels : List ℕ) (planes : List Plane) (nodes : List Node) → AreSquares levels planes → StandInOrder levels nodes → AreSquares (levels ++ map level_of nodes) (planes_after planes nodes)
planes_squares levels planes [] all order = rw append-nil all
planes_squares levels planes (node ∷ nodes) all order =
    subst (λ (ls : List ℕ). AreSquares ls (planes_after (planes ++ node_plane planes node ∷ []) nodes)) (append_assoc levels (level_of node ∷ []) (map level_of nodes))
    (planes_squares (levels ++ level_of node ∷ []) (planes ++ node_plane planes node ∷ []) nodes
    (one_more levels planes (level_of node) (node_plane planes node) all (node_square levels planes node all order.0)) order.1)

-- ---- the root

-- the level of each node is one that a square of the range may have
pub level_between : (levels : List ℕ) (nodes : List Node) (at level : ℕ) → StandInOrder levels nodes → slice_get (map level_of nodes) at ≡ Some level → (1 ≤ level) × (level ≤ 63)
level_between levels [] at level order found = cc
level_between levels (Leaf bits ∷ nodes) zero level order found = let same : 3 ≡ level = cc in (omega arith, omega arith)
level_between levels (Inner own kids ∷ nodes) zero level order found =
    let same : own ≡ level = cc in
    let is = accepted_inner levels own kids order.0 in
    let low = is.low in
    let high = is.high in
    (omega arith, omega arith)
level_between levels (node ∷ nodes) (suc at) level order found = level_between (levels ++ level_of node ∷ []) nodes at level order.1 found

-- the level of the last node, and its cells
last_level : (node : Node) (nodes : List Node) → slice_get (map level_of (node ∷ nodes)) (length nodes) ≡ Some (root_level (node ∷ nodes))
last_level node nodes =
    let within : length nodes < length (map level_of (node ∷ nodes)) = simp length-map (omega arith) in
    let last : length nodes ≡ suc (length nodes) - 1 = omega arith in
    slice_get-get_or (map level_of (node ∷ nodes)) (length nodes) 0 within ∙ ap (λ (k : ℕ). Some (slice_index (map level_of (node ∷ nodes)) k)) last

root_square : (node : Node) (nodes : List Node) → StandInOrder [] (node ∷ nodes) → IsSquare (2 ^ root_level (node ∷ nodes)) (plane_at (planes_of (node ∷ nodes)) (length (node ∷ nodes)))
root_square node nodes order =
    square_at (map level_of (node ∷ nodes)) (planes_of (node ∷ nodes)) (length nodes) (root_level (node ∷ nodes))
    (planes_squares [] [] (node ∷ nodes) tt order) (last_level node nodes)

spans_range : (half : ℕ) (z : ℤ) → half ≤ 4611686018427387904 → spans (half + half) (z +ℤ pos half) ≡ true → IsCoordinate z
spans_range half z small is = record { low = grind (arith, ints); high = grind (arith, ints) }

live_spans : (side : ℕ) (plane : Plane) (x y : ℤ) (b : Bool) → IsSquare side plane → (spans side x && spans side y) ≡ b → plane x y ≡ true → (spans side x && spans side y) ≡ true
live_spans side plane x y true square is live = is
live_spans side plane x y false square is live = let e = sym (square.dead x y is) ∙ live in cc

centred_range : (level : ℕ) (plane : Plane) (x y : ℤ) → 1 ≤ level → level ≤ 63 → IsSquare (2 ^ level) plane → centred level plane x y ≡ true → IsInRange (record { y = y; x = x })
centred_range level plane x y low high square live =
    let half = 2 ^ (level - 1) in
    let place : level ≡ suc (level - 1) = omega arith in
    let double : half + half ≡ 2 ^ suc (level - 1) = omega arith in
    let side : 2 ^ level ≡ half + half = ap (λ (l : ℕ). 2 ^ l) place ∙ sym double in
    let within : half ≤ 2 ^ 62 = pow_mono {i = level - 1} {j = 62} (omega arith) in
    let small : half ≤ 4611686018427387904 = within in
    let whole : IsSquare (half + half) plane = subst (λ (s : ℕ). IsSquare s plane) side square in
    let both = both_true (spans (half + half) (x +ℤ pos half)) (spans (half + half) (y +ℤ pos half))
    (live_spans (half + half) plane (x +ℤ pos half) (y +ℤ pos half) (spans (half + half) (x +ℤ pos half) && spans (half + half) (y +ℤ pos half)) whole refl live) in
    record { x = spans_range half x small both.0; y = spans_range half y small both.1 }

-- the cells of nodes that stand in order lie in the range
pub root_range : (nodes : List Node) (x y : ℤ) → StandInOrder [] nodes → root_plane nodes x y ≡ true → IsInRange (record { y = y; x = x })
root_range [] x y order live = cc
root_range (node ∷ nodes) x y order live =
    let level = level_between [] (node ∷ nodes) (length nodes) (root_level (node ∷ nodes)) order (last_level node nodes) in
    centred_range (root_level (node ∷ nodes)) (plane_at (planes_of (node ∷ nodes)) (length (node ∷ nodes))) x y level.0 level.1 (root_square node nodes order) live
