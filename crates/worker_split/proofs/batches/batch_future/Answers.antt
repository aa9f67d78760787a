use Rattle.std.proofs.Common.{◌<◌, ◌^◌, rules}
use Rattle.std.proofs.lemmas.Result.{IfOk-weaker}
use Rattle.node_table.specs.Desks.{expansions_of}
use Rattle.worker_split.proofs.Back.{on_err}
use Rattle.worker_split.proofs.Books.{here_book}
use Rattle.worker_split.proofs.Joined.{at_one_table, future_brought, job_set_out, refusal_brought, work_comes_back}
use Rattle.worker_split.proofs.batches.batch_future.Goals as goal

pub team_future-made-requires-clause-sq : goal.team_future-made-requires-clause-sq
team_future-made-requires-clause-sq g c κs within = job_set_out c.args.sq c.set_out-own.ensures c.requires.sq

pub come_back-requires : goal.come_back-requires
come_back-requires g c = at_one_table c.team_future-made.new.at c.set_out-own.ensures c.team_future-made.ensures.continues.keeps

pub returns-clause-ok : goal.returns-clause-ok
returns-clause-ok g c =
    IfOk-weaker c.team_future-made.result _ _
    (λ made has. future_brought c.team_future-made.new.at c.set_out-own.ensures c.team_future-made.ensures.continues.keeps c.come_back.ensures.brings c.args.sq made c.requires.sq has)
    c.team_future-made.ensures.ok

pub returns-clause-refusal : goal.returns-clause-refusal
returns-clause-refusal g c =
    on_err c.team_future-made.result _ _
    (λ refusal refuses. refusal_brought c.team_future-made.new.at c.set_out-own.ensures c.team_future-made.ensures.continues.keeps c.come_back.ensures.brings refusal refuses)
    c.team_future-made.ensures.refusal

pub returns-clause-desk : goal.returns-clause-desk
returns-clause-desk g c =
    let out = c.set_out-own.ensures in
    let works = c.team_future-made.ensures.continues in
    let brings = c.come_back.ensures.brings in
    let knows = c.come_back.ensures.knows in
    let book = here_book c.team_future-made.new.at in
    let d = c.requires.desk in
    let fits : expansions_of c.args.desk < 2 ^ 64 = search rules in
    search (work_comes_back, out, works, brings, knows, book, d, fits)
