-- Kept comments: those of a text, and those that stand on lines of their own.
use Rattle.std.proofs.Common.{◌≡◌, ℕ, zero, suc, ◌+◌, ◌-◌, Bool, true, false, cond, List, [], ◌∷◌, ◌++◌, length, map, filter, flat_map, take, drop, codes, Option, None, Some, Result, Ok, Err, refl, sym, ◌∙◌, ap, subst, arith, append_assoc, length-append}
use Rattle.std.specs.Prelude.{IfOk}
use Rattle.std.specs.List.{AllByRecursion, onto_first, prefix_len}
use Rattle.std.specs.Result.{result_map_both}
use Rattle.std.specs.Str.{bytes_eq}
use Rattle.std.proofs.Math.Seq.{drop-append_seam, take-append_seam}
use Rattle.plane.specs.declared.fault.Fault.{Fault}
use Rattle.plane.proofs.Elements.{AllByRecursion-append}
use Rattle.text_lines.specs.Bytes.{ended_parts, ends_with}
use Rattle.text_lines.specs.Comments.{comments_of, is_kept}
use Rattle.text_lines.specs.Faults.{at_place, unless, ◌>>=◌}
use Rattle.text_lines.specs.Lines.{Line, is_line_feed, lines, lines_from, placed_lines, raw_lines, without_return}
use Rattle.rle_reader.specs.Body.{stripped}
use Rattle.rle_reader.specs.Header.{header_rule}
use Rattle.rle_reader.specs.Items.{items_of}
use Rattle.rle_reader.specs.Meaning as rle
use Rattle.rle_reader.specs.Preamble.{PreambleMeaning, after_lines, before_header, from_header, may_stand, preamble_of, with_header}
use Rattle.rle_reader.specs.Settings.{nothing_said}
use Rattle.rle_reader.specs.declared.settings.Settings.{Settings}
use Rattle.macrocell_reader.specs.Meaning as macrocell
use Rattle.macrocell_reader.specs.Planes as planes
use Rattle.macrocell_reader.proofs.MeaningLemmas.{judged-read}
use Rattle.pattern_files.specs.Meaning.{Meaning, is_macrocell, judged}
use Rattle.pattern_writers.specs.Reading.{IsComment}
use Rattle.pattern_writers.proofs.TextLines.{comments_placed, ended_parts-all}

-- ---- bytes of lines

abbrev IsOneLine : List ℕ → Type 0
IsOneLine line = AllByRecursion (λ b. is_line_feed b ≡ false) line

abbrev HasOneLine : Line → Type 0
HasOneLine line = IsOneLine line.text

onto_first_all : (P : ℕ → Type 0) (b : ℕ) (parts : List (List ℕ)) → P b → AllByRecursion (AllByRecursion P) parts → AllByRecursion (AllByRecursion P) (onto_first b parts)
onto_first_all P b [] one all = ((one, tt), tt)
onto_first_all P b (part ∷ parts) one all = ((one, all.0), all.1)

parts_step : (test : ℕ → Bool) (first : ℕ) (parts : List (List ℕ)) (b : Bool) → test first ≡ b → AllByRecursion (AllByRecursion (λ c. test c ≡ false)) parts →
    AllByRecursion (AllByRecursion (λ c. test c ≡ false)) (cond b ([] ∷ parts) (onto_first first parts))
parts_step test first parts true is all = (tt, all)
parts_step test first parts false is all = onto_first_all (λ c. test c ≡ false) first parts is all

-- no part has an end in it
parts_free : (test : ℕ → Bool) (text : List ℕ) → AllByRecursion (AllByRecursion (λ c. test c ≡ false)) (ended_parts test text)
unfolding ended_parts
parts_free test [] = tt
parts_free test (first ∷ rest) = parts_step test first (ended_parts test rest) (test first) refl (parts_free test rest)

module _ {A : Type 0} (P : A → Type 0) where
  AllByRecursion-take : (n : ℕ) (xs : List A) → AllByRecursion P xs → AllByRecursion P (take n xs)
  AllByRecursion-take zero xs all = tt
  AllByRecursion-take (suc n) [] all = tt
  AllByRecursion-take (suc n) (x ∷ xs) all = (all.0, AllByRecursion-take n xs all.1)

  AllByRecursion-drop : (n : ℕ) (xs : List A) → AllByRecursion P xs → AllByRecursion P (drop n xs)
  AllByRecursion-drop zero xs all = all
  AllByRecursion-drop (suc n) [] all = tt
  AllByRecursion-drop (suc n) (x ∷ xs) all = AllByRecursion-drop n xs all.1

one_line_without : (line : List ℕ) → IsOneLine line → IsOneLine (without_return line)
unfolding without_return
one_line_without line all =
    elim (ends_with (codes "\r") line) as (λ b. IsOneLine (cond b (take (length line - 1) line) line)) [
      | true ↦ AllByRecursion-take (λ b. is_line_feed b ≡ false) (length line - 1) line all
      | false ↦ all
    ]

placed_all : (place : ℕ) (raw : List (List ℕ)) → AllByRecursion IsOneLine raw → AllByRecursion HasOneLine (placed_lines place raw)
unfolding placed_lines
placed_all place [] all = tt
placed_all place (text ∷ raw) all = (one_line_without text all.0, placed_all (place + length text + 1) raw all.1)

lines_all : (place : ℕ) (text : List ℕ) → AllByRecursion HasOneLine (lines place text)
lines_all place text = placed_all place (raw_lines text) (parts_free is_line_feed text)

-- ---- the kept comments of lines

comment_step : (b : Bool) (line : List ℕ) (later : List (List ℕ)) → is_kept line ≡ b → IsOneLine line → AllByRecursion IsComment later → AllByRecursion IsComment (cond b (line ∷ later) later)
comment_step true line later kept one all = (record { kept = kept; one_line = one }, all)
comment_step false line later kept one all = all

comments_are : (all : List Line) → AllByRecursion HasOneLine all → AllByRecursion IsComment (comments_of all)
comments_are [] one = tt
comments_are (line ∷ rest) one = comment_step (is_kept line.text) line.text (comments_of rest) refl one.0 (comments_are rest one.1)

-- ---- the comments of accepted files

abbrev HasComments : List (List ℕ) → Type 0
HasComments comments = AllByRecursion IsComment comments

module _ {A : Type 0} (P : A → Type 0) where
  if_ok_from : (found : Result A Fault) → ((a : A) → found ≡ Ok a → P a) → IfOk found P
  if_ok_from (Ok a) each = each a refl
  if_ok_from (Err fault) each = tt

  if_not_refused : (fault : Option Fault) (a : A) → P a → IfOk (unless fault a) P
  if_not_refused None a holds = holds
  if_not_refused (Some fault) a holds = tt

module _ {A B : Type 0} (P : B → Type 0) where
  after_any : (found : Result A Fault) (next : A → Result B Fault) → ((a : A) → IfOk (next a) P) → IfOk (found >>= next) P
  after_any (Ok a) next each = each a
  after_any (Err fault) next each = tt

  after_such : (Q : A → Type 0) (found : Result A Fault) (next : A → Result B Fault) → IfOk found Q → ((a : A) → Q a → IfOk (next a) P) → IfOk (found >>= next) P
  after_such Q (Ok a) next such each = each a such
  after_such Q (Err fault) next such each = tt

  if_seen : (seen : A → B) (found : Result A Fault) → IfOk found (λ a. P (seen a)) → IfOk (result_map_both seen (λ fault. fault) found) P
  if_seen seen (Ok a) holds = holds
  if_seen seen (Err fault) holds = tt

header_comments : (end : ℕ) (comments : List (List ℕ)) (settings : Settings) (all : List Line) → HasComments comments → IfOk (with_header end comments settings all) (λ told. HasComments told.comments)
unfolding with_header
header_comments end comments settings [] are = tt
header_comments end comments settings (header ∷ body) are =
    after_any (λ (told : PreambleMeaning). HasComments told.comments) (at_place header.place (header_rule header.text))
    (λ rule. Ok (record { settings = settings; comments = comments; header = header.place; rule = rule; body = body })) (λ rule. are)

preamble_comments : (end : ℕ) (all : List Line) → AllByRecursion HasOneLine all → IfOk (preamble_of end all) (λ told. HasComments told.comments)
unfolding preamble_of
preamble_comments end all one =
    after_any (λ (told : PreambleMeaning). HasComments told.comments) (after_lines nothing_said (before_header all))
    (λ settings. with_header end (comments_of (before_header all)) settings (from_header all))
    (λ settings. header_comments end (comments_of (before_header all)) settings (from_header all) (comments_are (before_header all) (AllByRecursion-take HasOneLine (prefix_len may_stand all) all one)))

rle_comments : (text : List ℕ) → IfOk (rle.judged text) (λ meaning. HasComments meaning.comments)
unfolding rle.judged rle.meaning_of
rle_comments text =
    after_such (λ (meaning : rle.Meaning). HasComments meaning.comments) (λ (told : PreambleMeaning). HasComments told.comments) (preamble_of (length text) (lines 0 text))
    (λ told. unless (rle.body_fault told.settings.pos (items_of (stripped told.body))) (rle.meaning_of text told))
    (preamble_comments (length text) (lines 0 text) (lines_all 0 text))
    (λ told are. if_not_refused (λ (meaning : rle.Meaning). HasComments meaning.comments) (rle.body_fault told.settings.pos (items_of (stripped told.body))) (rle.meaning_of text told) are)

mc_comments : (text : List ℕ) → IfOk (macrocell.judged text) (λ meaning. HasComments meaning.comments)
mc_comments text = if_ok_from (λ (meaning : macrocell.Meaning). HasComments meaning.comments) (macrocell.judged text)
    (λ meaning is. subst (λ (m : macrocell.Meaning). HasComments m.comments) (judged-read text meaning is).1 (comments_are (macrocell.body_of text) (AllByRecursion-drop HasOneLine 1 (lines 0 text) (lines_all 0 text))))

judged_comments : (text : List ℕ) → IfOk (judged text) (λ meaning. HasComments meaning.comments)
unfolding judged
judged_comments text =
    elim (is_macrocell text) as (λ b. IfOk (cond b (planes.pattern_in text) (rle.pattern_in text)) (λ meaning. HasComments meaning.comments)) [
      | true ↦ if_seen (λ (meaning : Meaning). HasComments meaning.comments) planes.as_pattern (macrocell.judged text) (mc_comments text)
      | false ↦ if_seen (λ (meaning : Meaning). HasComments meaning.comments) rle.as_pattern (rle.judged text) (rle_comments text)
    ]

-- the kept comments of an accepted file are such
pub meaning_comments : (bytes : List ℕ) (meaning : Meaning) → judged bytes ≡ Ok meaning → AllByRecursion IsComment meaning.comments
meaning_comments bytes meaning is = subst (λ (r : Result Meaning Fault). IfOk r (λ m. HasComments m.comments)) is (judged_comments bytes)

-- ---- comments on lines of their own

-- each comment with CR and LF behind it
abbrev pub ended_comments : List (List ℕ) → List ℕ
ended_comments comments = flat_map (λ comment. comment ++ codes "\r\n") comments

-- each with a CR behind it
abbrev returned : List (List ℕ) → List (List ℕ)
returned comments = map (λ comment. comment ++ codes "\r") comments

as_lines : (comments : List (List ℕ)) → ended_comments comments ≡ flat_map (λ part. part ++ 10 ∷ []) (returned comments)
as_lines [] = refl
as_lines (comment ∷ comments) =
    ap (λ l. l ++ ended_comments comments) (sym (append_assoc comment (codes "\r") (codes "\n")))
    ∙ ap (λ l. ((comment ++ codes "\r") ++ codes "\n") ++ l) (as_lines comments)

returned_one_line : (comments : List (List ℕ)) → AllByRecursion IsComment comments → AllByRecursion IsOneLine (returned comments)
returned_one_line [] are = tt
returned_one_line (comment ∷ comments) are =
    (AllByRecursion-append (λ b. is_line_feed b ≡ false) comment (codes "\r") are.0.one_line (refl, tt), returned_one_line comments are.1)

-- of a line one CR is left out
one_return_less : (line : List ℕ) → without_return (line ++ codes "\r") ≡ line
unfolding without_return
one_return_less line =
    let whole : List ℕ = line ++ codes "\r" in
    let before : length whole - 1 ≡ length line = omega (arith, length-append line (codes "\r")) in
    ap (λ n. cond (bytes_eq (drop n whole) (codes "\r")) (take n whole) whole) before
    ∙ ap (λ end. cond (bytes_eq end (codes "\r")) (take (length line) whole) whole) (drop-append_seam line (codes "\r"))
    ∙ take-append_seam line (codes "\r")

returned_kept : (comments : List (List ℕ)) → AllByRecursion IsComment comments → filter is_kept (map without_return (returned comments)) ≡ comments
returned_kept [] are = refl
returned_kept (comment ∷ comments) are =
    let later : List (List ℕ) = filter is_kept (map without_return (returned comments)) in
    ap (λ line. cond (is_kept line) (line ∷ later) later) (one_return_less comment)
    ∙ ap (λ kept. cond kept (comment ∷ later) later) are.0.kept ∙ ap (λ rest. comment ∷ rest) (returned_kept comments are.1)

-- such comments are the kept ones among their lines
pub ended_comments_kept : (comments : List (List ℕ)) → AllByRecursion IsComment comments → comments_of (lines_from (ended_comments comments) 0) ≡ comments
ended_comments_kept comments are =
    ap (λ text. comments_of (lines 0 text)) (as_lines comments)
    ∙ ap (λ raw. comments_of (placed_lines 0 raw)) (ended_parts-all is_line_feed 10 (returned comments) refl (returned_one_line comments are))
    ∙ comments_placed 0 (returned comments) ∙ returned_kept comments are
