-- The kinds of lines of a macrocell text: the rule, the generation, comments and nodes.
use Rattle.std.proofs.Common.{◌≡◌, ℕ, ◌^◌, ◌<◌, ◌≤◌, Bool, true, false, not, cond, List, [], ◌∷◌, ◌++◌, map, filter, codes, decimal, Some, None, refl, sym, ◌∙◌, ap, subst, arith, unwrap_or}
use Rattle.std.specs.Prelude.{◌==◌, ◌&&◌, ◌||◌, nat_le, is_none}
use Rattle.std.specs.List.{AllByRecursion, cons_option, filter_map}
use Rattle.std.specs.Option.{option_map, option_to_list}
use Rattle.std.proofs.lemmas.Bool.{false≢true}
use Rattle.std.proofs.lemmas.Bool.Decides.{nat_tests}
use Rattle.rule_text.specs.CountRule.{CountRule}
use Rattle.rule_text.specs.RuleText.{canonical_text}
use Rattle.plane.specs.declared.refusal.Refusal.TheVariants.{BadGen}
use Rattle.plane.specs.Limits.{largest_generation}
use Rattle.plane.proofs.Elements.{AllByRecursion-append}
use Rattle.squares.proofs.NumberMaps.{by_cases}
use Rattle.text_lines.specs.Bytes.{begins_with}
use Rattle.text_lines.specs.Comments.{is_blank_line, is_kept, is_settings_line}
use Rattle.text_lines.specs.Lines.{without_return}
use Rattle.text_lines.specs.Numbers.{number_of}
use Rattle.macrocell_reader.specs.Meaning.{is_node_line}
use Rattle.macrocell_reader.specs.NodeFaults.{StandInOrder, fault_among}
use Rattle.macrocell_reader.specs.Nodes.{level_of, node_of}
use Rattle.macrocell_reader.specs.Settings.{Said, after_line, generation_of, said_fault, within_limit}
use Rattle.macrocell_reader.specs.declared.node.Node.{Node}
use Rattle.macrocell_reader.proofs.MeaningLemmas.{no_node_line}
use Rattle.macrocell_reader.proofs.NodeLemmas.{node_of-other}
use Rattle.pattern_writers.specs.Reading.{IsComment}
use Rattle.pattern_writers.proofs.CommentLines.{kept_begins, return_left}
use Rattle.pattern_writers.proofs.McLines.{AreFine, AreSilent}
use Rattle.pattern_writers.proofs.TextLines.{IsPlain, blank_cut, plain_from_test, plain_marks}
use Rattle.pattern_writers.proofs.Decimals.{decimal_is, decimal_read}
use Rattle.pattern_writers.proofs.RuleBytes.{rule_marks}

-- ---- bytes

pub head_plain : AllByRecursion IsPlain (codes "[M2] (lifebatch 1)")
head_plain = plain_from_test (codes "[M2] (lifebatch 1)") refl

-- ---- the rule and the generation

abbrev pub rule_line : CountRule → List ℕ
rule_line rule = codes "#R " ++ canonical_text rule

abbrev pub generation_line : ℕ → List ℕ
generation_line generation = codes "#G " ++ decimal generation

pub rule_plain : (rule : CountRule) → AllByRecursion IsPlain (rule_line rule)
rule_plain rule = AllByRecursion-append IsPlain (codes "#R ") (canonical_text rule) (plain_from_test (codes "#R ") refl) (plain_marks (canonical_text rule) (rule_marks rule))

pub generation_plain : (generation : ℕ) → generation < 2 ^ 64 → AllByRecursion IsPlain (generation_line generation)
generation_plain generation small = AllByRecursion-append IsPlain (codes "#G ") (decimal generation) (plain_from_test (codes "#G ") refl) (plain_marks (decimal generation) (decimal_is generation small).marks)

pub rule_unfaulted : (rule : CountRule) → said_fault (rule_line rule) ≡ None
unfolding said_fault
rule_unfaulted rule = refl

pub rule_no_node : (rule : CountRule) → is_node_line (rule_line rule) ≡ false
rule_no_node rule = refl

pub rule_not_kept : (rule : CountRule) → is_kept (rule_line rule) ≡ false
unfolding is_kept
rule_not_kept rule = refl

pub rule_said : (rule : CountRule) (said : Said) (place : ℕ) → after_line said (record { place = place; text = rule_line rule }) ≡ record said { rule = Some (canonical_text rule); rule_place = place }
unfolding after_line
rule_said rule said place = ap (λ t. record said { rule = Some t; rule_place = place }) (blank_cut (canonical_text rule) (rule_marks rule))

within : (number limit : ℕ) → number ≤ limit → nat_le number limit ≡ true
within number limit low = grind (arith, nat_tests)

generation_read : (generation : ℕ) → generation ≤ largest_generation → generation < 2 ^ 64 → generation_of (32 ∷ decimal generation) ≡ Some generation
unfolding generation_of
generation_read generation low small =
    ap (λ t. within_limit (number_of t)) (blank_cut (decimal generation) (decimal_is generation small).marks)
    ∙ ap within_limit (decimal_read generation small) ∙ ap (λ t. cond t (Some generation) None) (within generation largest_generation low)

module _ (generation : ℕ) (low : generation ≤ largest_generation) (small : generation < 2 ^ 64) where
  pub generation_unfaulted : said_fault (generation_line generation) ≡ None
  unfolding said_fault
  generation_unfaulted = ap (λ o. cond (is_none o) (Some BadGen) None) (generation_read generation low small)

  pub generation_said : (said : Said) (place : ℕ) → after_line said (record { place = place; text = generation_line generation }) ≡ record said { generation = generation }
  unfolding after_line
  generation_said said place = ap (λ o. record said { generation = unwrap_or o 0 }) (generation_read generation low small)

pub generation_no_node : (generation : ℕ) → is_node_line (generation_line generation) ≡ false
generation_no_node generation = refl

pub generation_not_kept : (generation : ℕ) → is_kept (generation_line generation) ≡ false
unfolding is_kept
generation_not_kept generation = refl

-- ---- comments

-- a line that says nothing
pub record IsQuiet (line : List ℕ) : Type 0 where
  pub unfaulted : said_fault line ≡ None
  pub no_node : is_node_line line ≡ false
  pub silent : (said : Said) (place : ℕ) → after_line said (record { place = place; text = line }) ≡ said

and_first : (a b : Bool) → a ≡ false → (a && b) ≡ false
and_first a b e = ap (λ t. t && b) e

quiet_line : (letter : ℕ) (rest : List ℕ) → (letter == 70) ≡ false → (letter == 71) ≡ false → (letter == 82) ≡ false → IsQuiet (35 ∷ letter ∷ rest)
unfolding said_fault after_line
quiet_line letter rest no_frames no_generation no_rule =
    let frames : begins_with (codes "#FRAMES") (35 ∷ letter ∷ rest) ≡ false = and_first (letter == 70) _ no_frames in
    let generation : begins_with (codes "#G") (35 ∷ letter ∷ rest) ≡ false = and_first (letter == 71) _ no_generation in
    let rule : begins_with (codes "#R") (35 ∷ letter ∷ rest) ≡ false = and_first (letter == 82) _ no_rule in
    record { unfaulted = rw (frames, generation) refl; no_node = refl; silent = λ said place. rw (rule, generation) refl }

-- a kept comment says nothing, also without a CR
pub comment_quiet : (comment : List ℕ) → IsComment comment → IsQuiet (without_return comment)
comment_quiet comment is =
    let begins = kept_begins comment is.kept in
    let left = return_left begins.letter begins.rest begins.other.3 in
    subst IsQuiet (sym (ap without_return begins.is ∙ left.1)) (quiet_line begins.letter left.0 begins.other.0 begins.other.1 begins.other.2)

pub fine_quiet : (levels : List ℕ) (lines more : List (List ℕ)) → AllByRecursion IsQuiet lines → AreFine levels more → AreFine levels (lines ++ more)
fine_quiet levels [] more quiet fine = fine
fine_quiet levels (line ∷ lines) more quiet fine =
    let other = no_node_line levels line quiet.0.no_node in
    (quiet.0.unfaulted, other.0, subst (λ l. AreFine l (lines ++ more)) other.1 (fine_quiet levels lines more quiet.1 fine))

-- ---- nodes

or_comment : (a : Bool) → not (a || true) ≡ false
or_comment true = refl
or_comment false = refl

and_none : (a : Bool) → (a && false) ≡ false
and_none true = refl
and_none false = refl

-- a line that writes a node is not a comment
record IsNodeLine (line : List ℕ) : Type 0 where
  node_line : is_node_line line ≡ true
  unfaulted : said_fault line ≡ None
  silent : (said : Said) (place : ℕ) → after_line said (record { place = place; text = line }) ≡ said
  not_kept : is_kept line ≡ false

no_some : {A : Type 0} (x : A) → None ≡ Some x → ⊥
no_some x is = cc

other_first : (b : ℕ) (rest : List ℕ) → is_node_line (b ∷ rest) ≡ true → (b == 35) ≡ false → IsNodeLine (b ∷ rest)
unfolding said_fault after_line is_kept
other_first b rest line other =
    let frames : begins_with (codes "#FRAMES") (b ∷ rest) ≡ false = and_first (b == 35) _ other in
    let generation : begins_with (codes "#G") (b ∷ rest) ≡ false = and_first (b == 35) _ other in
    let rule : begins_with (codes "#R") (b ∷ rest) ≡ false = and_first (b == 35) _ other in
    let c : begins_with (codes "#C") (b ∷ rest) ≡ false = and_first (b == 35) _ other in
    let d : begins_with (codes "#D") (b ∷ rest) ≡ false = and_first (b == 35) _ other in
    let n : begins_with (codes "#N") (b ∷ rest) ≡ false = and_first (b == 35) _ other in
    let o : begins_with (codes "#O") (b ∷ rest) ≡ false = and_first (b == 35) _ other in
    record {
      node_line = line;
      unfaulted = rw (frames, generation) refl;
      silent = λ said place. rw (rule, generation) refl;
      not_kept = (λ i. not (is_settings_line (b ∷ rest)) && (((c i || d i) || n i) || o i)) ∙ and_none (not (is_settings_line (b ∷ rest)));
    }

node_line_is : (line : List ℕ) (node : Node) → node_of line ≡ Some node → IsNodeLine line
unfolding node_of
node_line_is [] node is = absurd (no_some node is)
node_line_is (b ∷ rest) node is =
    let line : is_node_line (b ∷ rest) ≡ true = by_cases (is_node_line (b ∷ rest)) (λ yes. yes) (λ no_line. absurd (no_some node (sym (node_of-other (b ∷ rest) no_line) ∙ is))) in
    by_cases (b == 35)
    (λ comment. absurd (false≢true (sym (ap (λ t. not (is_blank_line (b ∷ rest) || t)) comment ∙ or_comment (is_blank_line (b ∷ rest))) ∙ line)))
    (λ other. other_first b rest line other)

-- lines that write nodes in order are without fault, say nothing else, and are not comments
pub fine_nodes : (levels : List ℕ) (lines : List (List ℕ)) (nodes : List Node) → map node_of lines ≡ map (λ node. Some node) nodes → StandInOrder levels nodes → AreFine levels lines
fine_nodes levels [] nodes is order = tt
fine_nodes levels (line ∷ lines) [] is order = absurd (cc)
fine_nodes levels (line ∷ lines) (node ∷ nodes) is order =
    let first : node_of line ≡ Some node = cc in
    let rest : map node_of lines ≡ map (λ n. Some n) nodes = cc in
    let kind = node_line_is line node first in (
      kind.unfaulted,
      ap (λ t. cond t (fault_among levels (node_of line)) None) kind.node_line ∙ ap (fault_among levels) first ∙ order.0,
      subst (λ o. AreFine (levels ++ option_to_list (option_map level_of o)) lines) (sym first) (fine_nodes (levels ++ level_of node ∷ []) lines nodes rest order.1),
    )

pub silent_nodes : (lines : List (List ℕ)) (nodes : List Node) → map node_of lines ≡ map (λ node. Some node) nodes → AreSilent lines
silent_nodes [] nodes is = tt
silent_nodes (line ∷ lines) [] is = absurd (cc)
silent_nodes (line ∷ lines) (node ∷ nodes) is =
    let first : node_of line ≡ Some node = cc in
    let rest : map node_of lines ≡ map (λ n. Some n) nodes = cc in
    ((node_line_is line node first).silent, silent_nodes lines nodes rest)

pub kept_nodes : (lines : List (List ℕ)) (nodes : List Node) → map node_of lines ≡ map (λ node. Some node) nodes → filter is_kept lines ≡ []
kept_nodes [] nodes is = refl
kept_nodes (line ∷ lines) [] is = absurd (cc)
kept_nodes (line ∷ lines) (node ∷ nodes) is =
    let first : node_of line ≡ Some node = cc in
    let rest : map node_of lines ≡ map (λ n. Some n) nodes = cc in
    ap (λ t. cond t (line ∷ filter is_kept lines) (filter is_kept lines)) (node_line_is line node first).not_kept ∙ kept_nodes lines nodes rest

pub found_nodes : (lines : List (List ℕ)) (nodes : List Node) → map node_of lines ≡ map (λ node. Some node) nodes → filter_map node_of lines ≡ nodes
found_nodes [] [] is = refl
found_nodes [] (node ∷ nodes) is = absurd (cc)
found_nodes (line ∷ lines) [] is = absurd (cc)
found_nodes (line ∷ lines) (node ∷ nodes) is =
    let first : node_of line ≡ Some node = cc in
    let rest : map node_of lines ≡ map (λ n. Some n) nodes = cc in
    ap (λ o. cons_option o (filter_map node_of lines)) first ∙ ap (λ l. node ∷ l) (found_nodes lines nodes rest)
