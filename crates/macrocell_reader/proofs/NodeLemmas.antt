-- Nodes as a machine keeps them, and the lines that are none.
use Rattle.std.proofs.Common.{◌≡◌, ℕ, zero, suc, ◌+◌, ◌<◌, ◌≤◌, Bool, true, false, not, nat_lt, nat_le, min, List, [], ◌∷◌, length, map, Option, Some, None, Result, Ok, Err, IfOk, IfErr, refl, ap, sym, ◌∙◌, arith, ⊎_elim}
use Rattle.std.specs.Prelude.{◌==◌, ◌&&◌, ◌||◌}
use Rattle.std.specs.List.{list_all}
use Rattle.std.specs.Option.{option_map, option_map_or}
use Rattle.std.proofs.lemmas.Bool.{cases_lt}
use Rattle.std.proofs.lemmas.Bool.Decides.{nat_tests}
use Rattle.std.proofs.lemmas.Option.{slice_get_past}
use Rattle.plane.specs.declared.refusal.Refusal.{Refusal}
use Rattle.text_lines.specs.Bytes.{is_blank}
use Rattle.text_lines.specs.Comments.{is_comment}
use Rattle.macrocell_reader.specs.Meaning.{is_node_line}
use Rattle.macrocell_reader.specs.Nodes.{node_of, kept, level_of}
use Rattle.macrocell_reader.specs.NodeFaults.{is_above, is_child, fault_among}
use Rattle.macrocell_reader.specs.declared.node.Node.{Node}
use Rattle.macrocell_reader.specs.declared.node.Node.TheVariants.{Leaf, Inner}

-- ---- lines that are not nodes

equal_byte : (first wanted : ℕ) → (first == wanted) ≡ true → first ≡ wanted
equal_byte first wanted is = grind (arith, nat_tests)

no_node : (first wanted : ℕ) (rest : List ℕ) → first ≡ wanted → node_of (wanted ∷ rest) ≡ None → node_of (first ∷ rest) ≡ None
no_node first wanted rest is none = ap (λ b. node_of (b ∷ rest)) is ∙ none

none_of : (space tab all comment : Bool) (first : ℕ) (rest : List ℕ) → (first == 32) ≡ space → (first == 9) ≡ tab → (first == 35) ≡ comment → not (((space || tab) && all) || comment) ≡ false → node_of (first ∷ rest) ≡ None
unfolding node_of
none_of true tab all comment first rest is_space is_tab is_comment none = no_node first 32 rest (equal_byte first 32 is_space) refl
none_of false true all comment first rest is_space is_tab is_comment none = no_node first 9 rest (equal_byte first 9 is_tab) refl
none_of false false all true first rest is_space is_tab is_comment none = no_node first 35 rest (equal_byte first 35 is_comment) refl
none_of false false all false first rest is_space is_tab is_comment none = cc

-- a blank line or a comment writes no node
pub node_of-other : (line : List ℕ) → is_node_line line ≡ false → node_of line ≡ None
unfolding node_of
node_of-other [] none = refl
node_of-other (first ∷ rest) none = none_of (first == 32) (first == 9) (list_all is_blank rest) (first == 35) first rest refl refl refl none

-- ---- numbers that were capped

above_kept : (level : ℕ) → nat_lt 63 (min level 255) ≡ nat_lt 63 level
above_kept level = grind (arith, nat_tests)

node_kept : (level : ℕ) → nat_le 4 (min level 255) ≡ nat_le 4 level
node_kept level = grind (arith, nat_tests)

level_kept : (level : ℕ) → nat_lt 63 level ≡ false → min level 255 ≡ level
level_kept level low = let fits : level ≤ 63 = grind (arith, nat_tests) in omega arith

pub past_child : (levels : List ℕ) (level kid : ℕ) → length levels < kid → is_child levels level kid ≡ false
past_child levels level zero past = absurd (omega arith)
past_child levels level (suc before) past =
    ap (λ found. option_map_or (λ lower. lower + 1 == level) found false) (slice_get_past levels before (omega arith))

child_kept : (levels : List ℕ) (level kid : ℕ) → nat_le 4294967295 (length levels) ≡ false → is_child levels level (min kid 4294967295) ≡ is_child levels level kid
child_kept levels level kid few =
    let short : length levels < 4294967295 = grind (arith, nat_tests) in
    ⊎_elim (λ below. let same : min kid 4294967295 ≡ kid = omega arith in ap (is_child levels level) same)
    (λ past. past_child levels level (min kid 4294967295) (omega arith) ∙ sym (past_child levels level kid (omega arith)))
    (cases_lt kid 4294967295)

children_kept : (levels : List ℕ) (level : ℕ) (kids : List ℕ) → nat_le 4294967295 (length levels) ≡ false → list_all (is_child levels level) (map (λ kid. min kid 4294967295) kids) ≡ list_all (is_child levels level) kids
children_kept levels level [] few = refl
children_kept levels level (kid ∷ kids) few =
    ap (λ b. b && list_all (is_child levels level) (map (λ kid. min kid 4294967295) kids)) (child_kept levels level kid few)
    ∙ ap (λ b. is_child levels level kid && b) (children_kept levels level kids few)

fault_step : (levels : List ℕ) (level : ℕ) (kids : List ℕ) (above many : Bool) → nat_lt 63 level ≡ above → nat_le 4294967295 (length levels) ≡ many →
    fault_among levels (Some (kept (Inner level kids))) ≡ fault_among levels (Some (Inner level kids))
unfolding fault_among
fault_step levels level kids true many is_above is_many = rw (above_kept level, is_above) refl
fault_step levels level kids false true is_above is_many = rw (above_kept level, is_above, is_many) refl
fault_step levels level kids false false is_above is_many =
    rw (above_kept level, is_above, is_many, node_kept level, level_kept level is_above, children_kept levels level kids is_many) refl

-- capping changes nothing of a fault
pub fault_among-kept : (levels : List ℕ) (node : Option Node) → fault_among levels (option_map kept node) ≡ fault_among levels node
fault_among-kept levels None = refl
fault_among-kept levels (Some (Leaf bits)) = refl
fault_among-kept levels (Some (Inner level kids)) = fault_step levels level kids (nat_lt 63 level) (nat_le 4294967295 (length levels)) refl refl

no_fault_step : (levels : List ℕ) (level : ℕ) (kids : List ℕ) (above : Bool) → nat_lt 63 level ≡ above → fault_among levels (Some (Inner level kids)) ≡ None → nat_lt 63 level ≡ false
unfolding fault_among
no_fault_step levels level kids true is_above none = let e = rw is_above at none in cc
no_fault_step levels level kids false is_above none = is_above

-- nor of an accepted node's level
pub level_of-kept : (levels : List ℕ) (node : Option Node) → fault_among levels node ≡ None → option_map level_of (option_map kept node) ≡ option_map level_of node
level_of-kept levels None none = refl
level_of-kept levels (Some (Leaf bits)) none = refl
level_of-kept levels (Some (Inner level kids)) none =
    ap Some (level_kept level (no_fault_step levels level kids (nat_lt 63 level) refl none))

-- what was found of the node that was read, said of the node of the line
module _ (levels : List ℕ) (node read : Option Node) (result : Result ℕ Refusal) (is : read ≡ option_map kept node) where
  same_fault : fault_among levels read ≡ fault_among levels node
  same_fault = ap (fault_among levels) is ∙ fault_among-kept levels node

  pub fault_read : IfErr result (λ refusal. fault_among levels read ≡ Some refusal) → IfErr result (λ refusal. fault_among levels node ≡ Some refusal)
  fault_read found = rw (sym same_fault) found

  pub accepted_read : IfOk result (λ level. fault_among levels read ≡ None) → IfOk result (λ level. fault_among levels node ≡ None)
  accepted_read found = rw (sym same_fault) found

pub level_read : (levels : List ℕ) (written read : Option Node) (result : Result ℕ Refusal) → read ≡ option_map kept written → IfOk result (λ level. fault_among levels read ≡ None) →
    IfOk result (λ level. option_map level_of read ≡ Some level) → IfOk result (λ level. option_map level_of written ≡ Some level)
level_read levels written read (Ok level) is none found =
    sym (level_of-kept levels written (sym (fault_among-kept levels written) ∙ ap (fault_among levels) (sym is) ∙ none)) ∙ ap (option_map level_of) (sym is) ∙ found
level_read levels written read (Err refusal) is none found = found
