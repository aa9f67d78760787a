-- The nodes of an accepted text stand in order, and a machine keeps them as they are.
use Rattle.std.proofs.Common.{◌≡◌, ℕ, ◌<◌, ◌≤◌, Bool, true, false, nat_lt, nat_le, min, List, [], ◌∷◌, ◌++◌, length, map, Option, Some, None, refl, ap, sym, ◌∙◌, arith, append-nil, ⊎_elim}
use Rattle.std.specs.Prelude.{◌&&◌}
use Rattle.std.specs.List.{list_all}
use Rattle.std.specs.Option.{option_map, option_or, option_to_list}
use Rattle.std.proofs.lemmas.Bool.Decides.{nat_tests}
use Rattle.plane.specs.declared.refusal.Refusal.{Refusal}
use Rattle.text_lines.specs.Faults.{fault_at}
use Rattle.text_lines.specs.Lines.{Line}
use Rattle.macrocell_reader.specs.Meaning.{first_fault, line_fault, node_line_fault, levels_after, is_node_line}
use Rattle.macrocell_reader.specs.NodeFaults.{is_above, is_node, is_child, fault_among, StandInOrder}
use Rattle.macrocell_reader.specs.Nodes.{WrittenNode, node_of, nodes_of, level_of, kept, kept_node}
use Rattle.macrocell_reader.specs.Seen.{nodes_kept}
use Rattle.macrocell_reader.specs.Settings.{said_fault}
use Rattle.macrocell_reader.specs.declared.node.Node.{Node}
use Rattle.macrocell_reader.specs.declared.node.Node.TheVariants.{Leaf, Inner}
use Rattle.std.proofs.lemmas.Bool.{cases_lt}
use Rattle.macrocell_reader.proofs.NodeLemmas.{node_of-other, past_child}

-- ---- an inner node without a fault

-- the level and the quadrants of an inner node after nodes of these levels
pub record IsInner (levels : List ℕ) (level : ℕ) (kids : List ℕ) : Type 0 where
  pub low : 4 ≤ level
  pub high : level ≤ 63
  pub few : length levels < 4294967295
  pub children : list_all (is_child levels level) kids ≡ true

inner_step : (levels : List ℕ) (level : ℕ) (kids : List ℕ) (above many node children : Bool) →
    nat_lt 63 level ≡ above → nat_le 4294967295 (length levels) ≡ many → nat_le 4 level ≡ node → list_all (is_child levels level) kids ≡ children →
    fault_among levels (Some (Inner level kids)) ≡ None → IsInner levels level kids
unfolding fault_among
inner_step levels level kids true many node children is_above is_many is_node is_children none = let e = rw is_above at none in cc
inner_step levels level kids false true node children is_above is_many is_node is_children none = let e = rw (is_above, is_many) at none in cc
inner_step levels level kids false false false children is_above is_many is_node is_children none = let e = rw (is_above, is_many, is_node) at none in cc
inner_step levels level kids false false true false is_above is_many is_node is_children none = let e = rw (is_above, is_many, is_node, is_children) at none in cc
inner_step levels level kids false false true true is_above is_many is_node is_children none =
    record { low = grind (arith, nat_tests); high = grind (arith, nat_tests); few = grind (arith, nat_tests); children = is_children }

pub accepted_inner : (levels : List ℕ) (level : ℕ) (kids : List ℕ) → fault_among levels (Some (Inner level kids)) ≡ None → IsInner levels level kids
accepted_inner levels level kids none =
    inner_step levels level kids (nat_lt 63 level) (nat_le 4294967295 (length levels)) (nat_le 4 level) (list_all (is_child levels level) kids) refl refl refl refl none

-- ---- lines without a fault

or_none : {A : Type 0} (first second : Option A) → option_or first second ≡ None → (first ≡ None) × (second ≡ None)
or_none None second none = (refl, none)
or_none (Some x) second none = cc

map_none : {A B : Type 0} (f : A → B) (found : Option A) → option_map f found ≡ None → found ≡ None
map_none f None none = refl
map_none f (Some x) none = cc

-- the first line is without fault, and so are the others after it
split_faults : (levels : List ℕ) (line : Line) (rest : List Line) → first_fault levels (line ∷ rest) ≡ None →
    (node_line_fault levels line.text ≡ None) × (first_fault (levels_after levels line.text) rest ≡ None)
unfolding first_fault
split_faults levels line rest none =
    let parts = or_none (option_map (λ refusal. fault_at refusal line.place) (line_fault levels line.text)) (first_fault (levels_after levels line.text) rest) none in
    let own = map_none (λ (refusal : Refusal). fault_at refusal line.place) (line_fault levels line.text) parts.0 in
    ((or_none (said_fault line.text) (node_line_fault levels line.text) own).1, parts.1)

is_line : (line : List ℕ) (node : Node) (b : Bool) → is_node_line line ≡ b → node_of line ≡ Some node → is_node_line line ≡ true
is_line line node true is found = is
is_line line node false is found = let e = sym (node_of-other line is) ∙ found in cc

-- a line that writes a node
node_case : (levels : List ℕ) (line : List ℕ) (node : Node) → node_of line ≡ Some node → node_line_fault levels line ≡ None → fault_among levels (Some node) ≡ None
node_case levels line node found none =
    let e = rw (is_line line node (is_node_line line) refl found) at none in
    ap (fault_among levels) (sym found) ∙ e

levels_more : (levels line : List ℕ) (node : Node) → node_of line ≡ Some node → levels_after levels line ≡ levels ++ level_of node ∷ []
levels_more levels line node found = ap (λ (o : Option Node). levels ++ option_to_list (option_map level_of o)) found

levels_same : (levels line : List ℕ) → node_of line ≡ None → levels_after levels line ≡ levels
levels_same levels line found = ap (λ (o : Option Node). levels ++ option_to_list (option_map level_of o)) found ∙ append-nil levels

abbrev pub bare : List WrittenNode → List Node
bare nodes = map (λ written. written.node) nodes

in_order_step : (levels : List ℕ) (line : Line) (rest : List Line) (found : Option Node) → node_of line.text ≡ found → node_line_fault levels line.text ≡ None →
    first_fault (levels_after levels line.text) rest ≡ None → ((more : List ℕ) → first_fault more rest ≡ None → StandInOrder more (bare (nodes_of rest))) → StandInOrder levels (bare (nodes_of (line ∷ rest)))
in_order_step levels line rest None found none others later =
    rw found (later levels (ap (λ l. first_fault l rest) (sym (levels_same levels line.text found)) ∙ others))
in_order_step levels line rest (Some node) found none others later =
    rw found (node_case levels line.text node found none, later (levels ++ level_of node ∷ []) (ap (λ l. first_fault l rest) (sym (levels_more levels line.text node found)) ∙ others))

-- lines without a fault write nodes in order
pub in_order : (levels : List ℕ) (lines : List Line) → first_fault levels lines ≡ None → StandInOrder levels (bare (nodes_of lines))
in_order levels [] none = tt
in_order levels (line ∷ rest) none =
    let parts = split_faults levels line rest none in
    in_order_step levels line rest (node_of line.text) refl parts.0 parts.1 (λ more others. in_order more rest others)

-- ---- what a machine keeps

both_true : (a b : Bool) → (a && b) ≡ true → (a ≡ true) × (b ≡ true)
both_true true b h = (refl, h)
both_true false b h = cc

small_child : (levels : List ℕ) (level kid : ℕ) → length levels < 4294967295 → is_child levels level kid ≡ true → min kid 4294967295 ≡ kid
small_child levels level kid few is =
    ⊎_elim (λ past. let e = sym (past_child levels level kid past) ∙ is in cc) (λ within. omega arith) (cases_lt (length levels) kid)

kept_kids : (levels : List ℕ) (level : ℕ) (kids : List ℕ) → length levels < 4294967295 → list_all (is_child levels level) kids ≡ true → map (λ kid. min kid 4294967295) kids ≡ kids
kept_kids levels level [] few all = refl
kept_kids levels level (kid ∷ kids) few all =
    let parts = both_true (is_child levels level kid) (list_all (is_child levels level) kids) all in
    ap (λ (k : ℕ). k ∷ map (λ kid. min kid 4294967295) kids) (small_child levels level kid few parts.0)
    ∙ ap (λ (ks : List ℕ). kid ∷ ks) (kept_kids levels level kids few parts.1)

-- a node without a fault is kept as it is
kept_same : (levels : List ℕ) (node : Node) → fault_among levels (Some node) ≡ None → kept node ≡ node
kept_same levels (Leaf bits) none = refl
kept_same levels (Inner level kids) none =
    let is = accepted_inner levels level kids none in
    let fits : min level 255 ≡ level = omega (arith, is.high) in
    ap (λ (l : ℕ). Inner l (map (λ kid. min kid 4294967295) kids)) fits
    ∙ ap (λ (ks : List ℕ). Inner level ks) (kept_kids levels level kids is.few is.children)

kept_all : (levels : List ℕ) (nodes : List WrittenNode) → StandInOrder levels (bare nodes) → map kept_node nodes ≡ nodes
kept_all levels [] order = refl
kept_all levels (first ∷ rest) order =
    ap (λ (node : Node). record first { node = node } ∷ map kept_node rest) (kept_same levels first.node order.0)
    ∙ ap (λ (nodes : List WrittenNode). first ∷ nodes) (kept_all (levels ++ level_of first.node ∷ []) rest order.1)

pub nodes_kept-accepted : (lines : List Line) → first_fault [] lines ≡ None → nodes_kept lines ≡ nodes_of lines
unfolding nodes_kept
nodes_kept-accepted lines none = kept_all [] (nodes_of lines) (in_order [] lines none)
