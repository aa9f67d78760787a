use Rattle.std.proofs.Common.{◌<◌, ◌^◌, rules}
use Rattle.std.proofs.lemmas.Result.{IfOk-weaker}
use Rattle.node_table.specs.Desks.{expansions_of}
use Rattle.worker_split.proofs.Back.{on_err}
use Rattle.worker_split.proofs.Books.{here_book}
use Rattle.worker_split.proofs.Joined.{at_one_table, known_set_out, refusal_brought, step_brought, work_comes_back}
use Rattle.worker_split.proofs.steps.step.Goals as goal

pub advance-next-requires-clause-known : goal.advance-next-requires-clause-known
advance-next-requires-clause-known g c κs within = known_set_out c.args.root.level c.args.root c.set_out-own.ensures c.requires.known

pub come_back-requires : goal.come_back-requires
come_back-requires g c = at_one_table c.advance-next.new.at c.set_out-own.ensures c.advance-next.ensures.continues.keeps

pub returns-clause-ok : goal.returns-clause-ok
returns-clause-ok g c =
    IfOk-weaker c.advance-next.result _ _
    (λ next is. step_brought c.advance-next.new.at c.set_out-own.ensures c.advance-next.ensures.continues.keeps c.come_back.ensures.brings c.args.root next is)
    c.advance-next.ensures.ok

pub returns-clause-refusal : goal.returns-clause-refusal
returns-clause-refusal g c =
    on_err c.advance-next.result _ _
    (λ refusal refuses. refusal_brought c.advance-next.new.at c.set_out-own.ensures c.advance-next.ensures.continues.keeps c.come_back.ensures.brings refusal refuses)
    c.advance-next.ensures.refusal

pub returns-clause-desk : goal.returns-clause-desk
returns-clause-desk g c =
    let out = c.set_out-own.ensures in
    let works = c.advance-next.ensures.continues in
    let brings = c.come_back.ensures.brings in
    let knows = c.come_back.ensures.knows in
    let book = here_book c.advance-next.new.at in
    let d = c.requires.desk in
    let fits : expansions_of c.args.desk < 2 ^ 64 = search rules in
    search (work_comes_back, out, works, brings, knows, book, d, fits)
