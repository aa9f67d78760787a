use Rattle.engine.proofs.CutRuns.{goes_on}
use Rattle.engine.proofs.laws.a_cut_run_goes_on.Goals as goal

pub returns : goal.returns
returns c = λ bytes start first rest whole answer end said written whole_said file parts lawful accepted cut can finishes.
    goes_on bytes start first rest whole answer said written lawful parts accepted cut can end whole_said file finishes
