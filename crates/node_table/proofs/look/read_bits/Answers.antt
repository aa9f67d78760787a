use Rattle.std.proofs.Common.{◌≡◌, sym, subst, arith, length}
use Rattle.std.specs.Prelude.{slice_index}
use Rattle.plane.specs.Square.{IsSame, bits_plane}
use Rattle.table_core.specs.Layout.{size}
use Rattle.table_core.specs.Blocks.{square_rank}
use Rattle.node_table.specs.StillWords.{cells_in}
use Rattle.node_table.proofs.Entries.{has_number}
use Rattle.node_table.proofs.StillReading.{number_in, leaf_is}
use Rattle.node_table.proofs.WordBooks.{square_there}
use Rattle.node_table.proofs.look.read_bits.Goals as goal

pub word-requires : goal.word-requires
word-requires g c =
    let s = g.W.StillWords.good c.args.still.now in
    let block = (square_there s.key.shape.bits (slice_index s.words) c.args.sq c.requires.known).block in
    let inside = number_in s (square_rank c.args.sq.level) c.args.sq.num.0 (has_number c.is_empty.ensures c.if-is_empty.false) block in
    let long : length s.words ≡ size s.key.shape.bits = s.good.long in
    omega (arith, inside, long)

pub returns : goal.returns
returns g c =
    let s = g.W.StillWords.good c.args.still.now in
    record {
      known = c.requires;
      cells = subst (λ l. IsSame (cells_in s (square_rank l) c.args.sq.num.0) (bits_plane c.word.result)) (sym c.requires.at_level)
          (leaf_is s c.args.sq.num.0 c.word.result (has_number c.is_empty.ensures c.if-is_empty.false) c.word.ensures);
    }
