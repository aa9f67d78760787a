use Rattle.std.proofs.Common.{sym}
use Rattle.text_lines.specs.Bytes.{is_byte}
use Rattle.rle_reader.proofs.SplitLemmas.{before_first-none}
use Rattle.rle_reader.proofs.header.until_comma.Goals as goal

pub returns-in-None : goal.returns-in-None
returns-in-None c = sym (before_first-none (is_byte 44) c.args.text.now c.in-None.ensures)
