use Rattle.squares.proofs.Kept.{known_kept, shows_kept}
use Rattle.squares.proofs.NineSquares.{quarters_kept}
use Rattle.node_table.proofs.NineByHalves.{halves_later, own_level}
use Rattle.node_table.proofs.Working.{book_kept, learns_none, learns_trans}
use Rattle.node_table.proofs.at.At.read_halves_of_quarters.Goals as goal

pub read_halves-ne-requires-clause-known : goal.read_halves-ne-requires-clause-known
read_halves-ne-requires-clause-known c = own_level (known_kept (book_kept c.read_halves-nw.ensures.learns) c.read_halves.ensures.value.quarters.ne.known)

pub read_halves-sw-requires-clause-known : goal.read_halves-sw-requires-clause-known
read_halves-sw-requires-clause-known c = own_level (known_kept (book_kept (learns_trans c.read_halves-nw.ensures.learns c.read_halves-ne.ensures.learns)) c.read_halves.ensures.value.quarters.sw.known)

pub read_halves-se-requires-clause-known : goal.read_halves-se-requires-clause-known
read_halves-se-requires-clause-known c =
    own_level (known_kept (book_kept (learns_trans c.read_halves-nw.ensures.learns (learns_trans c.read_halves-ne.ensures.learns c.read_halves-sw.ensures.learns))) c.read_halves.ensures.value.quarters.se.known)

pub returns-clause-learns : goal.returns-clause-learns
returns-clause-learns c =
    learns_trans c.read_halves.ensures.learns (learns_trans c.read_halves-nw.ensures.learns (learns_trans c.read_halves-ne.ensures.learns (learns_trans c.read_halves-sw.ensures.learns c.read_halves-se.ensures.learns)))

pub returns-clause-value : goal.returns-clause-value
returns-clause-value c =
    let quarters = c.read_halves.ensures.value.quarters in
    let d2 = c.read_halves-nw.ensures.learns in let d3 = c.read_halves-ne.ensures.learns in let d4 = c.read_halves-sw.ensures.learns in let d5 = c.read_halves-se.ensures.learns in
    let to3 = learns_trans d2 d3 in let to4 = learns_trans to3 d4 in let from4 = learns_trans d4 d5 in let from3 = learns_trans d3 from4 in
    record {
      quarters = quarters_kept (book_kept (learns_trans d2 from3)) quarters;
      nw = halves_later quarters.nw d2 c.read_halves-nw.ensures.value from3;
      ne = halves_later (shows_kept (book_kept d2) quarters.ne) d3 c.read_halves-ne.ensures.value from4;
      sw = halves_later (shows_kept (book_kept to3) quarters.sw) d4 c.read_halves-sw.ensures.value d5;
      se = halves_later (shows_kept (book_kept to4) quarters.se) d5 c.read_halves-se.ensures.value (learns_none c.read_halves-se.new.self);
    }
