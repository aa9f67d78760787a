use Rattle.std.proofs.Common.{◌≡◌, ◌-◌, [], length}
use Rattle.text_lines.specs.Lines.{lines_from}
use Rattle.macrocell_reader.specs.Meaning.{first_fault}
use Rattle.macrocell_reader.specs.Seen.{said_seen}
use Rattle.macrocell_reader.specs.Settings.{nothing_said, after_lines}
use Rattle.macrocell_reader.proofs.mc_file.check_lines.Given as goal

abbrev pub invariant-loop-line : goal.invariant-loop-line
invariant-loop-line l = record {
  source : l.lines.source.now ≡ l.body.source.now;
  fault : first_fault l.levels.items (lines_from l.body.source.now l.lines.at)
      ≡ first_fault [] (lines_from l.body.source.now l.body.at);
  said : after_lines (said_seen l.settings) (lines_from l.body.source.now l.lines.at)
      ≡ after_lines nothing_said (lines_from l.body.source.now l.body.at);
}

abbrev pub decreases-loop-line : goal.decreases-loop-line
decreases-loop-line l = length l.body.source.now - l.lines.at
