-- The lines that are still to come.
use Rattle.std.specs.Prelude.{List}
use Rattle.text_lines.specs.Lines.{Line, lines_from}
use Rattle.text_lines.specs.declared.lines.Lines.{Lines}

-- the lines that are left
abbrev pub lines_left : Lines → List Line
lines_left lines = lines_from lines.source.now lines.at
