use Rattle.node_table.proofs.Searching.{Sought}
use Rattle.node_table.proofs.at.At.number.Given as goal

abbrev pub invariant-loop-place : goal.invariant-loop-place
invariant-loop-place l = record { sought : Sought l.fn.self l.self l.kind l.word l.place }
