-- What the text of a pattern file means, in either format, or its first fault.
use Rattle.std.specs.Prelude.{ℕ, Bool, if◌then◌else◌, List, codes, Result}
use Rattle.macrocell_reader.specs.Planes as macrocell
use Rattle.plane.specs.declared.fault.Fault.{Fault}
use Rattle.rle_reader.specs.Meaning as rle
use Rattle.text_lines.specs.Bytes.{begins_with}
pub use Rattle.text_lines.specs.Meaning.{Meaning}
use Rattle.pattern_files.specs.declared.pattern_file.PatternFile.{PatternFile}
use Rattle.pattern_files.specs.declared.pattern_file.PatternFile.TheVariants.{Rle, Macrocell}

-- a text that begins with [M2] is a macrocell file, and every other an RLE file
abbrev pub is_macrocell : List ℕ → Bool
is_macrocell text = begins_with (codes "[M2]") text

-- what a text means, or its first fault
unfoldable pub judged : List ℕ → Result Meaning Fault
judged text = if is_macrocell text then macrocell.pattern_in text else rle.pattern_in text

-- what a checked file means
abbrev pub meaning_of : PatternFile → Meaning
meaning_of (Rle file) = rle.as_pattern file
meaning_of (Macrocell file) = macrocell.as_pattern file
