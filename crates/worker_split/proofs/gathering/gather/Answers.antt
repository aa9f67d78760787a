use Rattle.std.proofs.Common.{◌∙◌, ◌<◌, length, arith, refl}
use Rattle.squares.proofs.Kept.{keeps_none}
use Rattle.std.proofs.lemmas.List.{length-set}
use Rattle.std.proofs.lemmas.List.Elements.{All-set}
use Rattle.node_table.specs.DesksAtWork.{book_here}
use Rattle.worker_split.specs.Rounds.{IsMember}
use Rattle.worker_split.proofs.Books.{here_book, works_kept}
use Rattle.worker_split.proofs.gathering.gather.Goals as goal

pub loop-k-init : goal.loop-k-init
loop-k-init c = record {
  len = refl;
  places_len = refl;
  members = λ base jobs are. are;
  places = λ jobs are fit. fit;
  works = works_kept 0 _ (here_book c.args.at.now) (keeps_none _);
}

pub gather_one-requires : goal.gather_one-requires
gather_one-requires c =
    let was = c.loop-k.invariant in
    let same = was.len in
    let places = was.places_len in
    let test = c.loop-k-test.true in
    let len = c.requires.len in
    record {
      base = book_here c.args.at.now;
      jobs = c.requires.jobs;
      is = was.members (book_here c.args.at.now) c.requires.jobs c.requires.are c.loop-k.k _ (omega (arith, same, test));
      keeps = was.works.keeps;
      len = places ∙ len;
    }

pub loop-k-preserved : goal.loop-k-preserved
loop-k-preserved c =
    let was = c.loop-k.invariant in
    let one = c.gather_one.ensures in
    let same = was.len in
    let test = c.loop-k-test.true in
    let base = book_here c.args.at.now in
    let within : c.loop-k.k < length c.loop-k.members = omega (arith, same, test) in
    let book = here_book c.args.at.now in
    let member = was.members base c.requires.jobs c.requires.are c.loop-k.k _ within in
    record {
      len = length-set _ _ _ ∙ was.len;
      places_len = one.len ∙ was.places_len;
      members = λ first jobs are. All-set (IsMember first jobs) c.loop-k.members c.loop-k.k _ (one.member first jobs (was.members first jobs are c.loop-k.k _ within)) (was.members first jobs are);
      places = λ jobs are fit. one.places base jobs (was.members base jobs are c.loop-k.k _ within) (was.places jobs are fit);
      works = one.works base c.requires.jobs c.loop-k.k c.args.tally.now.expansions book member was.works;
    }
