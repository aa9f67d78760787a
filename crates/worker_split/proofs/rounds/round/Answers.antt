use Rattle.std.proofs.Common.{◌<◌, ◌^◌, inr, rules}
use Rattle.std.proofs.lemmas.Result.{IfOk-weaker}
use Rattle.node_table.specs.Desks.{expansions_of}
use Rattle.worker_split.proofs.Back.{on_err, stays_back}
use Rattle.worker_split.proofs.Books.{here_book}
use Rattle.worker_split.proofs.Joined.{at_one_table, full_brought, futures_brought, jobs_set_out, work_comes_back}
use Rattle.worker_split.proofs.rounds.round.Goals as goal

pub carry_out-futures-requires-clause-jobs : goal.carry_out-futures-requires-clause-jobs
carry_out-futures-requires-clause-jobs g c κs within = jobs_set_out c.args.jobs.now c.set_out-own.ensures c.requires.jobs

pub come_back-requires : goal.come_back-requires
come_back-requires g c = at_one_table c.carry_out-futures.new.at c.set_out-own.ensures c.carry_out-futures.ensures.continues.keeps

pub returns-clause-ok : goal.returns-clause-ok
returns-clause-ok g c =
    IfOk-weaker c.carry_out-futures.result _ _
    (λ futures have. futures_brought c.carry_out-futures.new.at c.set_out-own.ensures c.carry_out-futures.ensures.continues.keeps c.come_back.ensures.brings c.args.jobs.now futures.items c.requires.jobs have)
    c.carry_out-futures.ensures.ok

pub returns-clause-refusal : goal.returns-clause-refusal
returns-clause-refusal g c =
    on_err c.carry_out-futures.result _ _
    (λ refusal full. inr (full_brought c.carry_out-futures.new.at c.set_out-own.ensures c.carry_out-futures.ensures.continues.keeps c.come_back.ensures.brings refusal full))
    c.carry_out-futures.ensures.refusal

pub returns-clause-desk : goal.returns-clause-desk
returns-clause-desk g c =
    let out = c.set_out-own.ensures in
    let works = c.carry_out-futures.ensures.continues in
    let brings = c.come_back.ensures.brings in
    let knows = c.come_back.ensures.knows in
    let book = here_book c.carry_out-futures.new.at in
    let d = c.requires.desk in
    let fits : expansions_of c.args.desk < 2 ^ 64 = search rules in
    search (work_comes_back, out, works, brings, knows, book, d, fits)

pub returns-in_default-clause-desk : goal.returns-in_default-clause-desk
returns-in_default-clause-desk g c = stays_back c.args.table.now c.args.workers c.args.desk c.requires.desk
