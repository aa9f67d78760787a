use Rattle.universe.proofs.OpenedWords.{opened_shows}
use Rattle.universe.proofs.tables.OpenTable.of_words.Goals as goal

pub returns : goal.returns
returns c = record {
  opens = c.in-Ok.ensures.ok;
  shows = λ sq known. opened_shows c.args.still c.args.rule.now c.args.exponent c.in-Ok.table c.in-Ok.desk c.in-Ok.ensures.ok sq known;
}
