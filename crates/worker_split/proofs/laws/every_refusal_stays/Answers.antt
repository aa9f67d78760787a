use Rattle.worker_split.specs.Refusals.{EveryRefusalStays}
use Rattle.worker_split.proofs.laws.every_refusal_stays.Goals as goal

every_refusal_stays : EveryRefusalStays
every_refusal_stays table workers old new kind word back lack = record {
  some = lack.some;
  way = record { full = λ place short. let other = lack.way.full place short in (other.0, back.grows.words _ other.1, other.2, other.3) };
}

pub returns : goal.returns
returns c = every_refusal_stays
