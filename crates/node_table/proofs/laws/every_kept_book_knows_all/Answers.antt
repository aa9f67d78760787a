use Rattle.node_table.specs.Refusals.{known_by}
use Rattle.node_table.proofs.Facts.{told_grows}
use Rattle.node_table.proofs.laws.every_kept_book_knows_all.Goals as goal

pub returns : goal.returns
returns c = record {
  at_work = λ old new keeps. told_grows (known_by old.desk) (known_by new.desk) keeps.learned keeps.facts;
  back = λ table old new keeps. told_grows (known_by old) (known_by new) keeps.learned keeps.facts;
}
