use Rattle.std.proofs.Common.{◌≡◌, ap, refl, inl}
use Rattle.std.specs.Prelude.{Err}
use Rattle.std.proofs.lemmas.Result.{IfErr-at_err, IfOk-at_ok}
use Rattle.std.proofs.result.Match.{err_is}
use Rattle.node_table.specs.Desks.{work_at}
use Rattle.squares.specs.Book.{Book}
use Rattle.node_table.proofs.AtWork.{is_back}
use Rattle.universe.proofs.Filling.{filled_up, full_book, no_result_at_first, no_result_back}
use Rattle.universe.proofs.OpenedWords.{back_as_root}
use Rattle.plane.proofs.SentErrors.{sent_on}
use Rattle.plane.specs.declared.refusal.Refusal.TheVariants.{NoMemory}
use Rattle.universe.proofs.tables.OpenTable.of_source.Goals as goal

pub returns-clause-ok : goal.returns-clause-ok
returns-clause-ok g c =
    let fresh = c.in_ok-opened.opened in
    let back = is_back fresh.table fresh.desk c.leave.result _ _ c.at-at.ensures.book c.build-made.ensures.adds.keeps c.leave.ensures.desk in
    record {
      under = c.in_ok-opened.ensures.under;
      size = c.in_ok-opened.ensures.size;
      is_root = back_as_root (g.B.Build.live c.args.source.now) c.in_ok-root.root back (IfOk-at_ok _ c.in_ok-root.was c.build-made.ensures.ok);
      level = IfOk-at_ok _ c.in_ok-root.was c.build-made.ensures.level;
    }

pub returns-in_err-root-clause-full : goal.returns-in_err-root-clause-full
returns-in_err-root-clause-full g c =
    let is : c.from_residual-in_err-root.result ≡ Err c.in_err-root.field-0.0 = err_is _ _ c.from_residual-in_err-root.ensures.1 in
    let ended = c.build-made.new.book in
    let fresh = c.in_ok-opened.opened in
    let back = is_back fresh.table fresh.desk c.leave.result _ _ c.at-at.ensures.book c.build-made.ensures.adds.keeps c.leave.ensures.desk in
    let opened = c.in_ok-opened.ensures in
    rw is (λ refusal. record {
      still = opened.still;
      vacant = opened.vacant;
      table = record { table = fresh.table; desk = c.leave.result; history = fresh.history; of_table = back.of_table };
      size = opened.size;
      filled = filled_up opened.still c.args.rule.now 0 opened.is (record { same_table = refl; keeps = back.keeps })
          (back.full (full_book (work_at ended.expansions ended.table.now ended.desk) _ (IfErr-at_err _ c.in_err-root.was c.build-made.ensures.refusal) refusal));
      no_result = no_result_back back (ap (λ (b : Book). b.results) c.at-at.ensures.book) c.build-made.ensures.adds
          (no_result_at_first opened.still c.args.rule.now 0 _ fresh.table fresh.desk opened.vacant opened.is.opens);
    })

pub returns-in_err-opened-clause-refusal : goal.returns-in_err-opened-clause-refusal
returns-in_err-opened-clause-refusal g c = sent_on _ c.from_residual.result NoMemory c.from_residual.ensures.1 (inl refl)

pub invariant_of-opened-2 : goal.invariant_of-opened-2
invariant_of-opened-2 g c =
    let fresh = c.in_ok-opened.opened in
    let keeps = c.build-made.ensures.adds.keeps in
    let back = is_back fresh.table fresh.desk c.leave.result _ _ c.at-at.ensures.book keeps c.leave.ensures.desk in
    record { of_table = back.of_table }
