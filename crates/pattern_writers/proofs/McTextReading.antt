-- A macrocell text is read back: its lines, and what they mean.
use Rattle.std.proofs.Common.{◌≡◌, ℕ, ◌+◌, ◌-◌, ◌^◌, ◌<◌, true, false, cond, List, [], ◌∷◌, ◌++◌, length, map, filter, drop, flat_map, codes, decimal, Some, None, refl, sym, ◌∙◌, ap, subst, arith, append_assoc, append-nil}
use Rattle.std.specs.Prelude.{◌==◌}
use Rattle.std.specs.List.{AllByRecursion, cons_option, filter_map}
use Rattle.std.proofs.lemmas.List.{map-append}
use Rattle.std.proofs.lemmas.List.Concat.{flat_map-append}
use Rattle.std.proofs.lemmas.List.Folds.{flat_map-map}
use Rattle.rule_text.specs.CountRule.{CountRule}
use Rattle.rule_text.specs.RuleText.{canonical_text}
use Rattle.plane.specs.Plane.{Plane}
use Rattle.plane.specs.Square.{IsSame, IsSquare}
use Rattle.plane.proofs.Elements.{AllByRecursion-weaker, AllByRecursion-append}
use Rattle.text_lines.specs.Comments.{comments_of, is_kept}
use Rattle.text_lines.specs.Lines.{is_line_feed, lines, placed_lines, raw_lines, without_return}
use Rattle.text_lines.specs.Meaning.{seen_as}
use Rattle.text_lines.proofs.LineLemmas.{placed_lines-cons}
use Rattle.macrocell_reader.specs.Meaning.{body_of, first_fault, meaning_with}
use Rattle.macrocell_reader.specs.Nodes.{node_of, nodes_of}
use Rattle.macrocell_reader.specs.Planes.{as_pattern, root_plane}
use Rattle.macrocell_reader.specs.Settings.{Said, after_line, after_lines, nothing_said}
use Rattle.macrocell_reader.proofs.MeaningLemmas.{judged-accepted, no_node_line}
use Rattle.macrocell_reader.proofs.NodeLemmas.{node_of-other}
use Rattle.pattern_writers.specs.LeafText.{leaf_text}
use Rattle.pattern_writers.specs.Reading.{FitsMc, HasNoReturn, IsComment, IsReadFromMc}
use Rattle.pattern_writers.specs.McText.{from_corner, inner_text, mc_text, square_text}
use Rattle.pattern_writers.specs.Subsquares.{Square, listed_in, nw_of, ne_of, sw_of, se_of, number_in}
use Rattle.pattern_writers.proofs.CommentLines.{comment_feeds, comments_kept}
use Rattle.pattern_writers.proofs.McKinds.{IsQuiet, comment_quiet, fine_nodes, fine_quiet, found_nodes, generation_line, generation_no_node, generation_not_kept, generation_plain, generation_said, generation_unfaulted, head_plain, kept_nodes, rule_line, rule_no_node, rule_not_kept, rule_plain, rule_said, rule_unfaulted, silent_nodes}
use Rattle.pattern_writers.proofs.McLeaves.{leaf_marks}
use Rattle.pattern_writers.proofs.McLines.{AreFine, AreSilent, bare, fine_placed, nodes_placed, silent_placed}
use Rattle.pattern_writers.proofs.TextLines.{IsMark, IsPlain, comments_placed, ended_parts-all, plain_kept, plain_no_feed}
use Rattle.pattern_writers.proofs.McNodes.{AreRead, IsGood, nothing_read, number_low}
use Rattle.pattern_writers.proofs.McNumbers.{inner_plain}
use Rattle.pattern_writers.proofs.McRoot.{all_read, root_ends, root_plane_read}
use Rattle.pattern_writers.proofs.RootParts.{corner_square}

-- ---- the lines of a text

abbrev ended : List ℕ → List ℕ
ended line = line ++ 10 ∷ []

abbrev texts_in : List Square → List (List ℕ)
texts_in listed = map (square_text listed) listed

-- the lines after the first
abbrev body_lines : List (List ℕ) → CountRule → ℕ → List Square → List (List ℕ)
body_lines comments rule generation listed = rule_line rule ∷ generation_line generation ∷ (comments ++ texts_in listed)

preamble_parts : (first rule second generation end rest : List ℕ) → (first ++ rule ++ second ++ generation ++ end) ++ rest ≡ first ++ (rule ++ (second ++ (generation ++ (end ++ rest))))
preamble_parts first rule second generation end rest = simp append_assoc

line_parts : (first end before rule also generation rest : List ℕ) →
    (first ++ end) ++ (((before ++ rule) ++ end) ++ (((also ++ generation) ++ end) ++ rest)) ≡ first ++ (end ++ (before ++ (rule ++ (end ++ (also ++ (generation ++ (end ++ rest)))))))
line_parts first end before rule also generation rest = simp append_assoc

preamble_flat : (rule generation rest : List ℕ) → (codes "[M2] (lifebatch 1)\n#R " ++ rule ++ codes "\n#G " ++ generation ++ codes "\n") ++ rest
    ≡ (codes "[M2] (lifebatch 1)" ++ codes "\n") ++ (((codes "#R " ++ rule) ++ codes "\n") ++ (((codes "#G " ++ generation) ++ codes "\n") ++ rest))
preamble_flat rule generation rest =
    preamble_parts (codes "[M2] (lifebatch 1)\n#R ") rule (codes "\n#G ") generation (codes "\n") rest
    ∙ sym (line_parts (codes "[M2] (lifebatch 1)") (codes "\n") (codes "#R ") rule (codes "#G ") generation rest)

text_lines_are : (comments : List (List ℕ)) (rule : CountRule) (generation level : ℕ) (plane : Plane) →
    mc_text comments rule generation level plane ≡ flat_map ended (codes "[M2] (lifebatch 1)" ∷ body_lines comments rule generation (listed_in level (from_corner level plane)))
text_lines_are comments rule generation level plane =
    let listed : List Square = listed_in level (from_corner level plane) in
    let nodes : List ℕ = flat_map (λ square. ended (square_text listed square)) listed in
    append_assoc (codes "[M2] (lifebatch 1)\n#R " ++ canonical_text rule ++ codes "\n#G " ++ decimal generation ++ codes "\n") (flat_map ended comments) nodes
    ∙ preamble_flat (canonical_text rule) (decimal generation) (flat_map ended comments ++ nodes)
    ∙ ap (λ rest. (codes "[M2] (lifebatch 1)" ++ codes "\n") ++ (((codes "#R " ++ canonical_text rule) ++ codes "\n") ++ (((codes "#G " ++ decimal generation) ++ codes "\n") ++ rest)))
    (ap (λ l. flat_map ended comments ++ l) (sym (flat_map-map ended (square_text listed) listed)) ∙ sym (flat_map-append ended comments (texts_in listed)))

-- ---- texts of nodes

map_map : (listed squares : List Square) → map node_of (map (square_text listed) squares) ≡ map (λ square. node_of (square_text listed square)) squares
map_map listed [] = refl
map_map listed (square ∷ squares) = ap (λ l. node_of (square_text listed square) ∷ l) (map_map listed squares)

text_nodes : (listed : List Square) (are : AreRead listed) → map node_of (texts_in listed) ≡ map (λ node. Some node) are.nodes
text_nodes listed are = map_map listed listed ∙ ap (λ l. map (λ (s : Square). node_of (square_text l s)) listed) (sym (append-nil listed)) ∙ are.lines []

text_plain : (listed : List Square) (square : Square) → length listed < 4294967296 → IsGood square → AllByRecursion IsPlain (square_text listed square)
text_plain listed square few good =
    let high = good.high in
    let a = number_low listed (nw_of (square.level - 1) square.plane) in let b = number_low listed (ne_of (square.level - 1) square.plane) in
    let c = number_low listed (sw_of (square.level - 1) square.plane) in let d = number_low listed (se_of (square.level - 1) square.plane) in
    let inner = inner_plain square.level (number_in listed (nw_of (square.level - 1) square.plane)) (number_in listed (ne_of (square.level - 1) square.plane))
    (number_in listed (sw_of (square.level - 1) square.plane)) (number_in listed (se_of (square.level - 1) square.plane)) (omega (arith, high)) (omega (arith, a, few)) (omega (arith, b, few)) (omega (arith, c, few)) (omega (arith, d, few)) in
    elim (square.level == 3) as (λ t. AllByRecursion IsPlain (cond t (leaf_text square.plane) (inner_text square.level (number_in listed (nw_of (square.level - 1) square.plane)) (number_in listed (ne_of (square.level - 1) square.plane))
    (number_in listed (sw_of (square.level - 1) square.plane)) (number_in listed (se_of (square.level - 1) square.plane))))) [
      | true ↦ AllByRecursion-weaker IsMark IsPlain (λ b mark. omega (arith, mark)) (leaf_text square.plane) (leaf_marks square.plane)
      | false ↦ inner
    ]

texts_plain : (listed squares : List Square) → length listed < 4294967296 → AllByRecursion IsGood squares → AllByRecursion (AllByRecursion IsPlain) (map (square_text listed) squares)
texts_plain listed [] few good = tt
texts_plain listed (square ∷ squares) few good = (text_plain listed square few good.0, texts_plain listed squares few good.1)

all_kept : (texts : List (List ℕ)) → AllByRecursion (AllByRecursion IsPlain) texts → map without_return texts ≡ texts
all_kept [] plain = refl
all_kept (text ∷ texts) plain = λ i. plain_kept text plain.0 i ∷ all_kept texts plain.1 i

no_feeds : (texts : List (List ℕ)) → AllByRecursion (AllByRecursion IsPlain) texts → AllByRecursion (AllByRecursion (λ b. is_line_feed b ≡ false)) texts
no_feeds [] plain = tt
no_feeds (text ∷ texts) plain = (AllByRecursion-weaker IsPlain (λ b. is_line_feed b ≡ false) plain_no_feed text plain.0, no_feeds texts plain.1)

-- ---- comments

comments_quiet : (comments : List (List ℕ)) → AllByRecursion IsComment comments → AllByRecursion IsQuiet (map without_return comments)
comments_quiet [] are = tt
comments_quiet (comment ∷ comments) are = (comment_quiet comment are.0, comments_quiet comments are.1)

comments_silent : (lines : List (List ℕ)) → AllByRecursion IsQuiet lines → AreSilent lines
comments_silent [] quiet = tt
comments_silent (line ∷ lines) quiet = (quiet.0.silent, comments_silent lines quiet.1)

quiet_found : (lines more : List (List ℕ)) → AllByRecursion IsQuiet lines → filter_map node_of (lines ++ more) ≡ filter_map node_of more
quiet_found [] more quiet = refl
quiet_found (line ∷ lines) more quiet = ap (λ o. cons_option o (filter_map node_of (lines ++ more))) (node_of-other line quiet.0.no_node) ∙ quiet_found lines more quiet.1

-- ---- the whole

pub mc_read : (comments : List (List ℕ)) (rule : CountRule) (generation level : ℕ) (plane : Plane) → FitsMc comments generation level plane → IsReadFromMc comments rule generation plane (mc_text comments rule generation level plane)
mc_read comments rule generation level plane fits =
    let square : Plane = from_corner level plane in
    let listed : List Square = listed_in level square in
    let text : List ℕ = mc_text comments rule generation level plane in
    let least = fits.smallest.least in
    let high = fits.high in
    let in_range = fits.heading.in_range in
    let few : length listed < 4294967296 = fits.numbers in
    let small : generation < 2 ^ 64 = omega (arith, in_range) in
    let within = corner_square level plane fits.smallest.holds in
    let more : level ≡ level - 3 + 3 = omega (arith, least) in
    let are : AreRead listed = all_read (level - 3) square [] (omega (arith, least, high)) (subst (λ n. IsSquare (2 ^ n) square) more within) nothing_read few in
    let texts : List (List ℕ) = texts_in listed in
    let body : List (List ℕ) = body_lines comments rule generation listed in
    let plain = texts_plain listed listed few are.good in
    let nodes_are = text_nodes listed are in
    let cs : List (List ℕ) = map without_return comments in
    let quiet = comments_quiet comments fits.heading.are_comments in
    let feed = λ (line : List ℕ) (is : AllByRecursion IsPlain line). AllByRecursion-weaker IsPlain (λ b. is_line_feed b ≡ false) plain_no_feed line is in
    let raw : raw_lines text ≡ codes "[M2] (lifebatch 1)" ∷ body =
    ap raw_lines (text_lines_are comments rule generation level plane)
    ∙ ended_parts-all is_line_feed 10 (codes "[M2] (lifebatch 1)" ∷ body) refl (
      feed (codes "[M2] (lifebatch 1)") head_plain,
      (
        feed (rule_line rule) (rule_plain rule),
        (
          feed (generation_line generation) (generation_plain generation small),
          AllByRecursion-append (AllByRecursion (λ b. is_line_feed b ≡ false)) comments texts (comment_feeds comments fits.heading.are_comments) (no_feeds texts plain),
        ),
      ),
    ) in
    let place : ℕ = 0 + length (codes "[M2] (lifebatch 1)") + 1 in
    let body_is : body_of text ≡ placed_lines place body = ap (λ l. drop 1 (placed_lines 0 l)) raw ∙ ap (drop 1) (placed_lines-cons 0 (codes "[M2] (lifebatch 1)") body) in
    let rest_is : map without_return (comments ++ texts) ≡ cs ++ texts = map-append without_return comments texts ∙ ap (λ l. cs ++ l) (all_kept texts plain) in
    let read_is : map without_return body ≡ rule_line rule ∷ generation_line generation ∷ (cs ++ texts) =
    λ i. plain_kept (rule_line rule) (rule_plain rule) i ∷ plain_kept (generation_line generation) (generation_plain generation small) i ∷ rest_is i in
    let rule_other = no_node_line [] (rule_line rule) (rule_no_node rule) in
    let generation_other = no_node_line [] (generation_line generation) (generation_no_node generation) in
    let fine : AreFine [] (rule_line rule ∷ generation_line generation ∷ (cs ++ texts)) = (
      rule_unfaulted rule,
      rule_other.0,
      subst (λ l. AreFine l (generation_line generation ∷ (cs ++ texts))) rule_other.1 (
        generation_unfaulted generation in_range small,
        generation_other.0,
        subst (λ l. AreFine l (cs ++ texts)) generation_other.1 (fine_quiet [] cs texts quiet (fine_nodes [] texts are.nodes nodes_are are.in_order)),
      ),
    ) in
    let no_fault : first_fault [] (body_of text) ≡ None = ap (first_fault []) body_is ∙ fine_placed place [] body (subst (AreFine []) (sym read_is) fine) in
    let second : ℕ = place + length (rule_line rule) + 1 in
    let third : ℕ = second + length (generation_line generation) + 1 in
    let said : Said = record { generation = generation; rule = Some (canonical_text rule); rule_place = place } in
    let silent : AreSilent (map without_return (comments ++ texts)) =
    subst AreSilent (sym rest_is) (AllByRecursion-append (λ line. (s : Said) (p : ℕ) → after_line s (record { place = p; text = line }) ≡ s) cs texts (comments_silent cs quiet) (silent_nodes texts are.nodes nodes_are)) in
    let said_is : after_lines nothing_said (body_of text) ≡ said =
    ap (after_lines nothing_said) (body_is ∙ placed_lines-cons place (rule_line rule) (generation_line generation ∷ (comments ++ texts))
    ∙ ap (λ l. record { place = place; text = without_return (rule_line rule) } ∷ l) (placed_lines-cons second (generation_line generation) (comments ++ texts)))
    ∙ ap (λ t. after_lines (after_line (after_line nothing_said (record { place = place; text = t })) (record { place = second; text = without_return (generation_line generation) })) (placed_lines third (comments ++ texts))) (plain_kept (rule_line rule) (rule_plain rule))
    ∙ ap (λ s. after_lines (after_line s (record { place = second; text = without_return (generation_line generation) })) (placed_lines third (comments ++ texts))) (rule_said rule nothing_said place)
    ∙ ap (λ t. after_lines (after_line (record { generation = 0; rule = Some (canonical_text rule); rule_place = place }) (record { place = second; text = t })) (placed_lines third (comments ++ texts))) (plain_kept (generation_line generation) (generation_plain generation small))
    ∙ ap (λ s. after_lines s (placed_lines third (comments ++ texts))) (generation_said generation in_range small (record { generation = 0; rule = Some (canonical_text rule); rule_place = place }) second)
    ∙ silent_placed third said (comments ++ texts) silent in
    let kept_is = λ (none : AllByRecursion HasNoReturn comments).
    ap comments_of body_is ∙ comments_placed place body ∙ ap (filter is_kept) read_is
    ∙ ap (λ t. cond t (rule_line rule ∷ filter is_kept (generation_line generation ∷ (cs ++ texts))) (filter is_kept (generation_line generation ∷ (cs ++ texts)))) (rule_not_kept rule)
    ∙ ap (λ t. cond t (generation_line generation ∷ filter is_kept (cs ++ texts)) (filter is_kept (cs ++ texts))) (generation_not_kept generation)
    ∙ comments_kept comments texts fits.heading.are_comments none ∙ ap (λ l. comments ++ l) (kept_nodes texts are.nodes nodes_are) ∙ append-nil comments in
    let found : bare (nodes_of (body_of text)) ≡ are.nodes =
    ap (λ l. bare (nodes_of l)) body_is ∙ nodes_placed place body ∙ ap (filter_map node_of) read_is
    ∙ ap (λ o. cons_option o (filter_map node_of (generation_line generation ∷ (cs ++ texts)))) (node_of-other (rule_line rule) (rule_no_node rule))
    ∙ ap (λ o. cons_option o (filter_map node_of (cs ++ texts))) (node_of-other (generation_line generation) (generation_no_node generation))
    ∙ quiet_found cs texts quiet ∙ found_nodes texts are.nodes nodes_are in
    record {
      meaning = as_pattern (meaning_with (after_lines nothing_said (body_of text)) (body_of text));
      accepted = ap (seen_as as_pattern) (judged-accepted text refl no_fault);
      same_generation = ap (λ s. s.generation) said_is;
      same_rule = ap (λ s. s.rule) said_is;
      same_comments = kept_is;
      same_cells = subst (λ n. IsSame (root_plane n) plane) (sym found) (root_plane_read level plane listed are (root_ends level square (omega (arith, least)) within));
    }
