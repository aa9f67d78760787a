use Rattle.std.proofs.Common.{inl, inr}
use Rattle.node_table.proofs.OverlapsByHalves.{beside_kept}
use Rattle.node_table.proofs.Refusing.{on_err}
use Rattle.node_table.proofs.TwoHalves.{half_stays}
use Rattle.node_table.proofs.Working.{learns_trans}
use Rattle.node_table.proofs.at.At.halves_of_row.Goals as goal

pub half-requires-2 : goal.half-requires-2
half-requires-2 c = beside_kept c.half.ensures.learns c.requires.last

pub returns-in_err-last-clause-learns : goal.returns-in_err-last-clause-learns
returns-in_err-last-clause-learns c = learns_trans c.half.ensures.learns c.half-2.ensures.learns

pub returns-clause-learns : goal.returns-clause-learns
returns-clause-learns c = learns_trans c.half.ensures.learns c.half-2.ensures.learns

pub returns-clause-first : goal.returns-clause-first
returns-clause-first c = half_stays c.half-2.ensures.learns c.in_ok-first.ensures.ok

pub returns-in_err-first-clause-full : goal.returns-in_err-first-clause-full
returns-in_err-first-clause-full c = on_err c.from_residual.result (inl c.in_err-first.ensures.full)

pub returns-in_err-last-clause-full : goal.returns-in_err-last-clause-full
returns-in_err-last-clause-full c = on_err c.from_residual-in_err-last.result (inr c.in_err-last.ensures.full)
