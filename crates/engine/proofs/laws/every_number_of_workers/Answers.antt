use Rattle.engine.specs.RunOptions.{run_of}
use Rattle.engine.proofs.OneRun.{one_ending_lem, one_judgement_lem}
use Rattle.engine.proofs.OtherWorkers.{finishes_as, judged_as}
use Rattle.engine.proofs.laws.every_number_of_workers.Goals as goal

pub returns-clause-judged : goal.returns-clause-judged
returns-clause-judged c bytes options workers pairs a b judges also = one_judgement_lem bytes (run_of options) a b judges (judged_as bytes options workers pairs b also)

pub returns-clause-ended : goal.returns-clause-ended
returns-clause-ended c start options workers pairs a b said others written other finishes also =
    one_ending_lem start options a b said others written other finishes (finishes_as start options workers pairs b others other also)
