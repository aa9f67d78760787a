use Rattle.std.proofs.Common.{◌≡◌, ◌-◌, length}
use Rattle.text_lines.specs.Lines.{lines_from}
use Rattle.rle_reader.specs.Preamble.{before_header, preamble_of}
use Rattle.text_lines.specs.Comments.{comments_of}
use Rattle.rle_reader.proofs.PreambleLemmas.{preamble_on}
use Rattle.rle_reader.proofs.preamble.Preamble.read.Given as goal

abbrev pub invariant-loop-line : goal.invariant-loop-line
invariant-loop-line l =
    (l.lines.source.now ≡ l.source)
    × (preamble_on (length l.source) (comments_of (before_header (lines_from l.source 0))) l.settings (lines_from l.source l.lines.at)
    ≡ preamble_of (length l.source) (lines_from l.source 0))

abbrev pub decreases-loop-line : goal.decreases-loop-line
decreases-loop-line l = length l.source - l.lines.at
