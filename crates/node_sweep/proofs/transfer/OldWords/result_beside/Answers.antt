use Rattle.std.proofs.Common.{◌∙◌, ap}
use Rattle.node_sweep.specs.OldWords.{words_in}
use Rattle.node_sweep.proofs.transfer.OldWords.result_beside.Goals as goal

pub returns : goal.returns
returns c = c.word.ensures ∙ ap (words_in c.args.self.now) c.result_index.ensures.index
