-- An RLE text is read back: its lines, and what they mean.
use Rattle.std.proofs.Common.{◌≡◌, ℕ, ◌+◌, true, false, cond, List, [], ◌∷◌, ◌++◌, length, map, filter, drop, None, Some, Ok, refl, sym, ◌∙◌, ap, append_assoc, append-nil, one-add}
use Rattle.std.specs.Prelude.{Result}
use Rattle.std.specs.List.{AllByRecursion, prefix_len}
use Rattle.std.proofs.lemmas.List.Sums.{take_while-cons}
use Rattle.rule_text.specs.CountRule.{CountRule}
use Rattle.rule_text.specs.RuleText.{canonical_text}
use Rattle.plane.specs.Bounds.{bounds_of}
use Rattle.plane.specs.Listing.{plane_of}
use Rattle.plane.specs.Plane.{Plane}
use Rattle.plane.specs.Square.{IsSame}
use Rattle.plane.specs.declared.cell.Cell.{Cell}
use Rattle.plane.specs.declared.fault.Fault.{Fault}
use Rattle.plane.proofs.Elements.{AllByRecursion-weaker}
use Rattle.text_lines.specs.Comments.{comments_of, is_kept}
use Rattle.text_lines.specs.Faults.{at_place, unless, ◌>>=◌}
use Rattle.text_lines.specs.Lines.{Line, is_line_feed, lines, placed_lines, raw_lines, without_return}
use Rattle.text_lines.specs.Meaning.{seen_as}
use Rattle.rle_reader.specs.Body.{stripped}
use Rattle.rle_reader.specs.Header.{header_rule}
use Rattle.rle_reader.specs.Meaning.{as_pattern, body_fault, first_fault_from, judged, live_plane, meaning_of}
use Rattle.rle_reader.specs.Preamble.{PreambleMeaning, after_lines, before_header, from_header, may_stand, preamble_of, stands_before_header, with_header}
use Rattle.rle_reader.specs.Settings.{after_line, nothing_said}
use Rattle.rle_reader.specs.State.{start_at}
use Rattle.rle_reader.specs.declared.settings.Settings.{Settings}
use Rattle.pattern_writers.specs.Frame.{frame_of}
use Rattle.pattern_writers.specs.Layout.{body_text}
use Rattle.pattern_writers.specs.Preamble.{header_text, position_text}
use Rattle.pattern_writers.specs.Reading.{IsComment, IsReadable, IsReadFromRle}
use Rattle.pattern_writers.specs.RleText.{comment_lines, rle_text}
use Rattle.pattern_writers.specs.declared.rle_text.frame.Frame.{Frame}
use Rattle.pattern_writers.specs.declared.rle_text.items.Item.{Item}
use Rattle.pattern_writers.proofs.BodySpots.{body_bytes}
use Rattle.pattern_writers.proofs.CommentLines.{comment_feeds, comment_said, comment_stands, comments_kept}
use Rattle.pattern_writers.proofs.FaultlessRuns.{items_faultless}
use Rattle.pattern_writers.proofs.ItemsBack.{AreFaultless, ReadsBack, cells_back, items_back, no_fault}
use Rattle.pattern_writers.proofs.RuleBytes.{rule_marks}
use Rattle.pattern_writers.proofs.TextLines.{IsPlain, comments_placed, ended_parts-first, ended_parts-front, plain_kept, plain_no_feed}
use Rattle.pattern_writers.proofs.HeaderLines.{header_plain, header_read, header_stops}
use Rattle.pattern_writers.proofs.PositionLines.{IsPosition, position_not_kept, position_plain, position_said, position_stands}
use Rattle.pattern_writers.proofs.RunReading.{runs_ahead, runs_cells}
use Rattle.pattern_writers.proofs.ShortCounts.{counts_short}
use Rattle.pattern_writers.proofs.TextReading.{IsFrame, cells_read, corner_short, frame_items, framed}
use Rattle.rle_reader.specs.Items as reader

-- ---- the lines before the header

-- where the line after these begins
abbrev place_after : ℕ → List (List ℕ) → ℕ
place_after place [] = place
place_after place (text ∷ texts) = place_after (place + length text + 1) texts

line_stands : (line : Line) (rest : List Line) → stands_before_header line.text ≡ true → (before_header (line ∷ rest) ≡ line ∷ before_header rest) × (from_header (line ∷ rest) ≡ from_header rest)
line_stands line rest stands = (
  take_while-cons may_stand line rest ∙ ap (λ b. cond b (line ∷ before_header rest) []) stands,
  ap (λ b. drop (cond b (1 + prefix_len may_stand rest) 0) (line ∷ rest)) stands ∙ ap (λ n. drop n (line ∷ rest)) (one-add (prefix_len may_stand rest)),
)

line_stops : (line : Line) (rest : List Line) → stands_before_header line.text ≡ false → (before_header (line ∷ rest) ≡ []) × (from_header (line ∷ rest) ≡ line ∷ rest)
line_stops line rest stops = (
  take_while-cons may_stand line rest ∙ ap (λ b. cond b (line ∷ before_header rest) []) stops,
  ap (λ b. drop (cond b (1 + prefix_len may_stand rest) 0) (line ∷ rest)) stops,
)

module _ (header : List ℕ) (more : List (List ℕ)) (kept : without_return header ≡ header) (stops : stands_before_header header ≡ false) where
  stops_too : stands_before_header (without_return header) ≡ false
  stops_too = ap stands_before_header kept ∙ stops

  comments_before : (place : ℕ) (comments : List (List ℕ)) → AllByRecursion IsComment comments →
      (before_header (placed_lines place (comments ++ header ∷ more)) ≡ placed_lines place comments)
      × (from_header (placed_lines place (comments ++ header ∷ more)) ≡ placed_lines (place_after place comments) (header ∷ more))
  unfolding placed_lines
  comments_before place [] are = line_stops (record { place = place; text = without_return header }) (placed_lines (place + length header + 1) more) stops_too
  comments_before place (comment ∷ comments) are =
      let line : Line = record { place = place; text = without_return comment } in
      let later = comments_before (place + length comment + 1) comments are.1 in
      let own = line_stands line (placed_lines (place + length comment + 1) (comments ++ header ∷ more)) (comment_stands comment are.0) in
      (own.0 ∙ ap (λ (l : List Line). line ∷ l) later.0, own.1 ∙ later.1)

comments_said : (settings : Settings) (place : ℕ) (comments : List (List ℕ)) → AllByRecursion IsComment comments → after_lines settings (placed_lines place comments) ≡ Ok settings
unfolding placed_lines after_lines
comments_said settings place [] are = refl
comments_said settings place (comment ∷ comments) are =
    ap (λ found. at_place place found >>= λ next. after_lines next (placed_lines (place + length comment + 1) comments)) (comment_said settings comment are.0)
    ∙ comments_said settings (place + length comment + 1) comments are.1

-- ---- the preamble

header_found : (end : ℕ) (comments : List (List ℕ)) (settings : Settings) (place : ℕ) (header rule : List ℕ) (more : List (List ℕ)) → without_return header ≡ header → header_rule header ≡ Ok (Some rule) →
    with_header end comments settings (placed_lines place (header ∷ more))
    ≡ Ok (record { settings = settings; comments = comments; header = place; rule = Some rule; body = placed_lines (place + length header + 1) more })
unfolding with_header placed_lines
header_found end comments settings place header rule more kept is =
    ap (λ found. at_place place found >>= λ named. Ok (record { settings = settings; comments = comments; header = place; rule = named; body = placed_lines (place + length header + 1) more }))
    (ap header_rule kept ∙ is)

-- a line that says the settings, comments, and a header that names a rule
record IsPreamble (first header rule : List ℕ) (settings : Settings) (comments : List (List ℕ)) : Type 0 where
  first_kept : without_return first ≡ first
  header_kept : without_return header ≡ header
  stands : stands_before_header first ≡ true
  other : is_kept first ≡ false
  said : after_line nothing_said first ≡ Ok settings
  stops : stands_before_header header ≡ false
  names : header_rule header ≡ Ok (Some rule)
  are_comments : AllByRecursion IsComment comments

module _ (end : ℕ) (first header rule : List ℕ) (settings : Settings) (comments more : List (List ℕ)) (is : IsPreamble first header rule settings comments) where
  abbrev second : ℕ
  second = 0 + length first + 1

  abbrev header_place : ℕ
  header_place = place_after second comments

  abbrev all_lines : List Line
  all_lines = placed_lines 0 (first ∷ (comments ++ header ∷ more))

  abbrev preamble_with : List (List ℕ) → PreambleMeaning
  preamble_with kept = record { settings = settings; comments = kept; header = header_place; rule = Some rule; body = placed_lines (header_place + length header + 1) more }

  abbrev first_line : Line
  first_line = record { place = 0; text = first }

  lines_are : all_lines ≡ first_line ∷ placed_lines second (comments ++ header ∷ more)
  unfolding placed_lines
  lines_are = ap (λ (t : List ℕ). record { place = 0; text = t } ∷ placed_lines second (comments ++ header ∷ more)) is.first_kept

  lines_before : before_header all_lines ≡ first_line ∷ placed_lines second comments
  lines_before =
      ap before_header lines_are ∙ (line_stands first_line (placed_lines second (comments ++ header ∷ more)) is.stands).0
      ∙ ap (λ (l : List Line). first_line ∷ l) (comments_before header more is.header_kept is.stops second comments is.are_comments).0

  lines_from_header : from_header all_lines ≡ placed_lines header_place (header ∷ more)
  lines_from_header =
      ap from_header lines_are ∙ (line_stands first_line (placed_lines second (comments ++ header ∷ more)) is.stands).1
      ∙ (comments_before header more is.header_kept is.stops second comments is.are_comments).1

  settings_said : after_lines nothing_said (first_line ∷ placed_lines second comments) ≡ Ok settings
  unfolding after_lines
  settings_said =
      ap (λ found. at_place 0 found >>= λ next. after_lines next (placed_lines second comments)) is.said ∙ comments_said settings second comments is.are_comments

  kept_lines : comments_of (before_header all_lines) ≡ filter is_kept (map without_return comments)
  kept_lines =
      ap comments_of lines_before ∙ ap (λ b. cond b (first ∷ comments_of (placed_lines second comments)) (comments_of (placed_lines second comments))) is.other
      ∙ comments_placed second comments

  preamble_found : preamble_of end all_lines ≡ Ok (preamble_with (filter is_kept (map without_return comments)))
  unfolding preamble_of
  preamble_found =
      ap (λ before. after_lines nothing_said before >>= λ next. with_header end (comments_of (before_header all_lines)) next (from_header all_lines)) lines_before
      ∙ ap (λ found. found >>= λ next. with_header end (comments_of (before_header all_lines)) next (from_header all_lines)) settings_said
      ∙ ap (λ from. with_header end (comments_of (before_header all_lines)) settings from) lines_from_header
      ∙ ap (λ kept. with_header end kept settings (placed_lines header_place (header ∷ more))) kept_lines
      ∙ header_found end (filter is_kept (map without_return comments)) settings header_place header rule more is.header_kept is.names

-- ---- the lines of a text

text_parts : (first comments header body : List ℕ) → (first ++ 10 ∷ []) ++ comments ++ (header ++ 10 ∷ []) ++ body ≡ first ++ 10 ∷ (comments ++ (header ++ 10 ∷ body))
text_parts first comments header body = simp append_assoc

no_feeds : (line : List ℕ) → AllByRecursion IsPlain line → AllByRecursion (λ b. is_line_feed b ≡ false) line
no_feeds line plain = AllByRecursion-weaker IsPlain (λ b. is_line_feed b ≡ false) plain_no_feed line plain

text_cut : (first header body : List ℕ) (comments : List (List ℕ)) → AllByRecursion IsPlain first → AllByRecursion IsPlain header → AllByRecursion IsComment comments →
    raw_lines ((first ++ 10 ∷ []) ++ comment_lines comments ++ (header ++ 10 ∷ []) ++ body) ≡ first ∷ (comments ++ header ∷ raw_lines body)
text_cut first header body comments plain also are =
    ap raw_lines (text_parts first (comment_lines comments) header body)
    ∙ ended_parts-first is_line_feed 10 first (comment_lines comments ++ (header ++ 10 ∷ body)) refl (no_feeds first plain)
    ∙ ap (λ l. first ∷ l) (ended_parts-front is_line_feed 10 comments (header ++ 10 ∷ body) refl (comment_feeds comments are)
    ∙ ap (λ l. comments ++ l) (ended_parts-first is_line_feed 10 header body refl (no_feeds header also)))

-- ---- the whole

judged_by : (text : List ℕ) (all : List Line) (preamble : PreambleMeaning) → lines 0 text ≡ all → preamble_of (length text) all ≡ Ok preamble → body_fault preamble.settings.pos (reader.items_of (stripped preamble.body)) ≡ None →
    judged text ≡ Ok (meaning_of text preamble)
unfolding judged
judged_by text all preamble lines_is found none =
    ap (λ (o : Result PreambleMeaning Fault). o >>= λ preamble. unless (body_fault preamble.settings.pos (reader.items_of (stripped preamble.body))) (meaning_of text preamble)) (ap (preamble_of (length text)) lines_is ∙ found)
    ∙ ap (λ fault. unless fault (meaning_of text preamble)) none

module _ (comments : List (List ℕ)) (rule : CountRule) (generation : ℕ) (plane : Plane) (cells : List Cell) (readable : IsReadable comments generation plane cells) where
  abbrev frame : Frame
  frame = frame_of (bounds_of cells)

  abbrev corner : Cell
  corner = frame.corner

  in_frame : IsFrame frame cells
  in_frame = framed cells readable.cells_in_range

  abbrev items : List Item
  items = frame_items frame cells

  abbrev first : List ℕ
  first = position_text corner.x corner.y generation

  abbrev header : List ℕ
  header = header_text frame.width frame.height (canonical_text rule)

  abbrev body : List (List ℕ)
  body = raw_lines (body_text items)

  abbrev text : List ℕ
  text = rle_text comments rule generation cells

  abbrev settings : Settings
  settings = record { pos = corner; generation = generation }

  position : IsPosition corner.x corner.y generation
  position = let at_corner = in_frame.corner in record { column = at_corner.x; row = at_corner.y; low = readable.heading.in_range }

  first_is_plain : AllByRecursion IsPlain first
  first_is_plain = position_plain corner.x corner.y generation position

  header_is_plain : AllByRecursion IsPlain header
  header_is_plain = header_plain frame.width frame.height (canonical_text rule) in_frame.width in_frame.height (rule_marks rule)

  preamble_is : IsPreamble first header (canonical_text rule) settings comments
  preamble_is = record {
    first_kept = plain_kept first first_is_plain;
    header_kept = plain_kept header header_is_plain;
    stands = position_stands corner.x corner.y generation position;
    other = position_not_kept corner.x corner.y generation position;
    said = position_said corner.x corner.y generation position;
    stops = header_stops frame.width frame.height (canonical_text rule) in_frame.width in_frame.height (rule_marks rule);
    names = header_read frame.width frame.height (canonical_text rule) in_frame.width in_frame.height (rule_marks rule);
    are_comments = readable.heading.are_comments;
  }

  abbrev preamble : PreambleMeaning
  preamble = preamble_with (length text) first header (canonical_text rule) settings comments body preamble_is (filter is_kept (map without_return comments))

  text_lines : lines 0 text ≡ placed_lines 0 (first ∷ (comments ++ header ∷ body))
  text_lines = ap (placed_lines 0) (text_cut first header (body_text items) comments first_is_plain header_is_plain readable.heading.are_comments)

  abbrev found : reader.Items
  found = reader.items_of (stripped preamble.body)

  read_back : ReadsBack found items
  read_back =
      let short = corner_short frame cells in_frame in
      let counts = counts_short corner cells short.0 short.1 readable.cells_in_range in
      items_back (stripped preamble.body) items counts (body_bytes (header_place (length text) first header (canonical_text rule) settings comments body preamble_is + length header + 1) items counts)

  faultless : AreFaultless corner.x (start_at corner) items
  faultless =
      let rising = readable.listing.rising in
      items_faultless corner cells (runs_ahead corner.x corner cells rising in_frame.right in_frame.from) readable.cells_in_range
      (runs_cells corner.x corner cells rising in_frame.right in_frame.from) readable.few

  no_body_fault : body_fault corner found ≡ None
  unfolding body_fault
  no_body_fault = ap (first_fault_from corner.x (start_at corner) found.items) read_back.none ∙ no_fault corner.x (start_at corner) found.items items read_back.each faultless

  cells_are : IsSame (live_plane (meaning_of text preamble)) plane
  unfolding meaning_of plane_of
  cells_are = record {
    same = λ x y.
        cells_back corner.x text (start_at corner) found.items items x y read_back.each faultless
        ∙ ap (λ l. plane_of l x y) (cells_read frame cells readable.listing.rising in_frame) ∙ readable.listing.live x y;
  }

  pub rle_read : IsReadFromRle comments rule generation plane text
  unfolding meaning_of
  rle_read = record {
    meaning = as_pattern (meaning_of text preamble);
    accepted = ap (seen_as as_pattern) (judged_by text (placed_lines 0 (first ∷ (comments ++ header ∷ body))) preamble text_lines
        (preamble_found (length text) first header (canonical_text rule) settings comments body preamble_is) no_body_fault);
    same_generation = refl;
    same_rule = refl;
    same_comments = λ none. ap (filter is_kept) (sym (append-nil (map without_return comments))) ∙ comments_kept comments [] readable.heading.are_comments none ∙ append-nil comments;
    same_cells = cells_are;
  }
