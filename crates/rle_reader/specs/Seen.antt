-- What the parts of a file that was read are seen as.
use Rattle.std.specs.Prelude.{ℕ, List, Result, ◌≡◌, ◌↔◌, ◌<◌, true, false, [], ◌++◌, length, IfSome, IfNone, IsTrue, Option}
use Rattle.std.specs.Option.{option_copied, option_map, option_to_list}
use Rattle.std.specs.Result.{result_map_both}
use Rattle.plane.specs.declared.fault.Fault.{Fault}
use Rattle.text_lines.specs.Lines.{lines_from}
use Rattle.rle_reader.specs.Preamble.{PreambleMeaning, before_header}
use Rattle.text_lines.specs.Comments.{comments_of}
use Rattle.std.specs.List.{AllByRecursion}
use Rattle.std.specs.Char.{is_ascii_digit}
use Rattle.rle_reader.specs.declared.body.LocatedByte.{LocatedByte}
use Rattle.rle_reader.specs.Items.{ItemSlice, is_digit, count_of, items_of}
use Rattle.text_lines.specs.Faults.{at_place}
use Rattle.text_lines.specs.Numbers.{capped}
use Rattle.text_lines.specs.declared.lines.Line.{Line}
use Rattle.rle_reader.specs.Body.{stripped_from}
use Rattle.rle_reader.specs.Header.{header_rule}
use Rattle.rle_reader.specs.LiveRuns.{live_runs_from}
use Rattle.rle_reader.specs.Meaning.{body_fault, runs_kept}
use Rattle.rle_reader.specs.State.{start_at}
use Rattle.plane.specs.declared.cell.Cell.{Cell}
use Rattle.rle_reader.specs.declared.item.Count.{Count}
use Rattle.rle_reader.specs.declared.item.Run.{Run}
use Rattle.rle_reader.specs.declared.preamble.Preamble.{Preamble}

-- the preamble of a source of which this was read
abbrev pub preamble_meaning : List ℕ → Preamble → PreambleMeaning
preamble_meaning source preamble = record {
  settings = preamble.settings;
  comments = comments_of (before_header (lines_from source 0));
  header = preamble.header;
  rule = option_copied preamble.rule;
  body = lines_from source preamble.body;
}

abbrev pub preamble_result : List ℕ → Result Preamble Fault → Result PreambleMeaning Fault
preamble_result source found = result_map_both (preamble_meaning source) (λ fault. fault) found

-- the first fault of the body behind what was read
abbrev pub fault_in_body : List ℕ → Preamble → Option Fault
fault_in_body source preamble =
    body_fault preamble.settings.pos (items_of (stripped_from source preamble.body true))

-- the runs of the live items behind what was read, as a machine keeps them
abbrev pub live_runs_kept : List ℕ → Preamble → List (Cell × ℕ)
live_runs_kept source preamble =
    live_runs_from preamble.settings.pos.x (start_at preamble.settings.pos)
    (runs_kept source (stripped_from source preamble.body true))

-- the rule of a header line, or its fault
abbrev pub rule_at : Line → Result (Option (List ℕ)) Fault
rule_at line = at_place line.place (header_rule line.text.now)

-- an item with the bytes of its slice
abbrev pub run_seen : Run → ItemSlice
run_seen run = record { text = run.text.now; place = run.place; count = run.count; tag = run.tag }

abbrev pub seen_next : Result (Option Run) Fault → Result (Option ItemSlice) Fault
seen_next found = result_map_both (option_map run_seen) (λ fault. fault) found

-- the count reads digits at the front of these bytes, and the byte after them if there is one, and
-- leaves these
pub record IsCount (all : List LocatedByte) (count : Count) (left : List LocatedByte) : Type 0 where
  pub digits : List LocatedByte
  pub each : AllByRecursion (λ located. is_digit located ≡ true) digits
  pub whole : all ≡ digits ++ (option_to_list count.next ++ left)
  pub next : IfSome count.next (λ located. is_ascii_digit located.byte ≡ false)
  pub end : IfNone count.next (left ≡ [])
  pub value : count.value ≡ capped (count_of digits)
  pub written : IsTrue count.is_written ↔ (0 < length digits)
