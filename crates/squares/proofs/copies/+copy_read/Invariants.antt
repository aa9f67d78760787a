use Rattle.std.proofs.Common.{◌≡◌, length}
use Rattle.squares.specs.Book.{AddsSquares}
use Rattle.squares.proofs.CopyMaps.{AreCopied}
use Rattle.squares.specs.Copies.{AreKnownCopies}
use Rattle.squares.proofs.copies.+copy_read.Given as goal

abbrev pub decreases-copy_read : goal.decreases-copy_read
decreases-copy_read g l = l.sq.level

-- the quarters so far are copied, and all that was known and noted still is
abbrev pub invariant-loop-quarter : goal.invariant-loop-quarter
invariant-loop-quarter g l =
    let first = g.A.Reading.book l.initial.from in let from = g.A.Reading.book l.from in let to = g.B.Squares.book l.to in record {
      size : length l.quarter-items ≡ 4;
      copied : AreCopied first to l.initial.quarter-items l.quarter-index l.quarter-items;
      copies : AreKnownCopies from to l.copies;
      reads : AddsSquares first from;
      adds : AddsSquares (g.B.Squares.book l.initial.to) to;
    }
