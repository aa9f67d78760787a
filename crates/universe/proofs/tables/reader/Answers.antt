use Rattle.universe.proofs.SecondDesks.{second_cells, second_known}
use Rattle.universe.proofs.tables.reader.Goals as goal

pub returns-clause-reads : goal.returns-clause-reads
returns-clause-reads c =
    let table = c.args.table.now in
    let desk = c.args.desk.now in
    let second = c.split_off.result in
    let same = c.split_off.ensures.same_other in
    record { cells = second_cells table desk second _ same c.at.ensures.book; known = λ sq known. second_known table desk second _ sq same c.at.ensures.book known }
