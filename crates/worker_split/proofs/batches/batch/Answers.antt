use Rattle.worker_split.proofs.Books.{here_book, works_kept, works_then}
use Rattle.plane.proofs.SentErrors.{sent_on}
use Rattle.plane.specs.declared.refusal.Refusal.TheVariants.{NoMemory}
use Rattle.std.proofs.Common.{inl, refl}
use Rattle.worker_split.proofs.batches.batch.Goals as goal

pub returns-in_err-unknown-clause-continues : goal.returns-in_err-unknown-clause-continues
returns-in_err-unknown-clause-continues g c = works_kept c.args.team.now.workers _ (here_book c.args.at.now) c.unknown_of.ensures.keeps

pub returns-then-is_empty-clause-continues : goal.returns-then-is_empty-clause-continues
returns-then-is_empty-clause-continues g c = works_kept c.args.team.now.workers _ (here_book c.args.at.now) c.unknown_of.ensures.keeps

pub returns-in_err-room-clause-continues : goal.returns-in_err-room-clause-continues
returns-in_err-room-clause-continues g c = works_kept c.args.team.now.workers _ (here_book c.args.at.now) c.unknown_of.ensures.keeps

pub returns-in_err-carry_out-clause-continues : goal.returns-in_err-carry_out-clause-continues
returns-in_err-carry_out-clause-continues g c = works_then (works_kept c.args.team.now.workers _ (here_book c.args.at.now) c.unknown_of.ensures.keeps) c.carry_out.ensures.continues

pub returns-clause-continues : goal.returns-clause-continues
returns-clause-continues g c = works_then (works_kept c.args.team.now.workers _ (here_book c.args.at.now) c.unknown_of.ensures.keeps) c.carry_out.ensures.continues

pub returns-in_err-room-clause-refusal : goal.returns-in_err-room-clause-refusal
returns-in_err-room-clause-refusal g c = sent_on _ c.from_residual-in_err-room.result NoMemory c.from_residual-in_err-room.ensures.1 (inl refl)

pub returns-in_err-unknown-clause-refusal : goal.returns-in_err-unknown-clause-refusal
returns-in_err-unknown-clause-refusal g c = sent_on _ c.from_residual.result NoMemory c.from_residual.ensures.1 (inl refl)
