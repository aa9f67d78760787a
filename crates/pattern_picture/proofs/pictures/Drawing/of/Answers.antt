use Rattle.pattern_picture.proofs.Floors.{shown_range}
use Rattle.pattern_picture.proofs.pictures.Drawing.of.Goals as goal

pub block_shades-requires-clause-columns : goal.block_shades-requires-clause-columns
block_shades-requires-clause-columns g c =
    let scale = c.of-scale.result in
    rw c.blocks-blocks.ensures (shown_range scale.exponent c.args.shown.left c.args.shown.right c.requires.shown.columns c.of-scale.ensures.limit)

pub block_shades-requires-clause-rows : goal.block_shades-requires-clause-rows
block_shades-requires-clause-rows g c =
    let scale = c.of-scale.result in
    rw c.blocks-blocks.ensures (shown_range scale.exponent c.args.shown.top c.args.shown.bottom c.requires.shown.rows c.of-scale.ensures.limit)
