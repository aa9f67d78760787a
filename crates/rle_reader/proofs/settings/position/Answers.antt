use Rattle.std.proofs.Common.{◌∙◌}
use Rattle.rle_reader.proofs.SettingsLemmas.{position_of-parts, position_of-none}
use Rattle.rle_reader.proofs.settings.position.Goals as goal

pub returns-in-Some : goal.returns-in-Some
returns-in-Some c =
    c.cell.ensures
    ∙ position_of-parts c.args.text.now c.in-Some.x.now c.in-Some.y.now c.integer.result c.integer-in-Some.result
    c.in-Some.ensures.1 c.in-Some.ensures.2 c.integer.ensures c.integer-in-Some.ensures

pub returns-in-None : goal.returns-in-None
returns-in-None c = position_of-none c.args.text.now c.in-None.ensures
