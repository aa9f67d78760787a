-- What stands before the body of a file, and the body's lines.
use Rattle.std.specs.Prelude.{ℕ, Bool, ◌||◌, List, [], ◌∷◌, drop, Option, Result, Ok, Err}
use Rattle.std.specs.List.{take_while, prefix_len}
use Rattle.plane.specs.declared.fault.Fault.{Fault}
use Rattle.plane.specs.declared.refusal.Refusal.TheVariants.{NotAPattern}
use Rattle.text_lines.specs.Faults.{fault_at, at_place, ◌>>=◌}
use Rattle.text_lines.specs.Lines.{Line}
use Rattle.rle_reader.specs.Settings.{nothing_said, after_line}
use Rattle.text_lines.specs.Comments.{is_comment, is_blank_line, comments_of}
use Rattle.rle_reader.specs.Header.{header_rule}
use Rattle.rle_reader.specs.declared.settings.Settings.{Settings}

-- a line that may stand before the header: a comment, or nothing but blanks
unfoldable pub stands_before_header : List ℕ → Bool
stands_before_header line = is_comment line || is_blank_line line

-- what is said after these lines, or the first fault of a line
unfoldable pub after_lines : Settings → List Line → Result Settings Fault
after_lines settings [] = Ok settings
after_lines settings (line ∷ rest) = do
  next ← at_place line.place (after_line settings line.text)
  after_lines next rest

-- what stands before the body: what the `#CXRLE` lines say, the kept comments, the header's place
-- and rule; and the lines of the body
pub record PreambleMeaning : Type 0 where
  pub settings : Settings
  pub comments : List (List ℕ)
  pub header : ℕ
  pub rule : Option (List ℕ)
  pub body : List Line

-- the preamble where these are the lines from the header on, in a text of this length
unfoldable pub with_header : ℕ → List (List ℕ) → Settings → List Line → Result PreambleMeaning Fault
with_header end comments settings [] = Err (fault_at NotAPattern end)
with_header end comments settings (header ∷ body) = do
  rule ← at_place header.place (header_rule header.text)
  Ok
      (record { settings = settings; comments = comments; header = header.place; rule = rule; body = body })

abbrev pub may_stand : Line → Bool
may_stand line = stands_before_header line.text

-- the lines before the header: up to the first line that can't stand there
abbrev pub before_header : List Line → List Line
before_header all = take_while may_stand all

-- the lines from the header on
abbrev pub from_header : List Line → List Line
from_header all = drop (prefix_len may_stand all) all

-- the preamble of a text of this length with these lines
unfoldable pub preamble_of : ℕ → List Line → Result PreambleMeaning Fault
preamble_of end all = do
  settings ← after_lines nothing_said (before_header all)
  with_header end (comments_of (before_header all)) settings (from_header all)
