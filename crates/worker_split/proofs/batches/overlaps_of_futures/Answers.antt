use Rattle.std.proofs.Common.{◌≡◌, ◌+◌, ◌-◌, All, arith, length, rules, subst}
use Rattle.std.specs.Prelude.{IfOk}
use Rattle.squares.specs.Book.{IsKnown, numbered}
use Rattle.hashlife_step.proofs.NineFutures.{futures_known, made_known}
use Rattle.node_table.specs.DesksAtWork.{book_here}
use Rattle.worker_split.proofs.Books.{here_book, refuses, tallied, works_kept, works_then}
use Rattle.worker_split.proofs.Stepped.{on_two}
use Rattle.worker_split.proofs.batches.overlaps_of_futures.Goals as goal

pub overlaps-requires-clause-known : goal.overlaps-requires-clause-known
overlaps-requires-clause-known c =
    futures_known (book_here c.replace_by_futures.new.book) c.args.level c.args.nine c.replace_by_futures.new.squares c.replace_by_futures.auto.squares c.in_ok-replace_by_futures.ensures.ok

pub overlaps-requires-clause-level : goal.overlaps-requires-clause-level
overlaps-requires-clause-level c =
    let nine : length c.args.nine ≡ 9 = search rules in
    let low = c.requires.low in
    let high = (c.requires.known 0 (numbered 0 0) (omega (arith, nine))).high in
    omega (arith, low, high)

pub returns-in_err-replace_by_futures-clause-continues : goal.returns-in_err-replace_by_futures-clause-continues
returns-in_err-replace_by_futures-clause-continues c = tallied c.replace_by_futures.ensures.makes.keeps c.replace_by_futures.ensures.makes.tally

pub returns-clause-ok : goal.returns-clause-ok
returns-clause-ok c =
    let low = c.requires.low in
    let up : c.args.level - 1 + 1 ≡ c.args.level = omega (arith, low) in
    let long : IfOk c.overlaps.result (λ four. length four ≡ 4) = search rules in
    on_two c.overlaps.result _ _ _
    (λ four four_long are. subst (λ n. All (IsKnown (book_here c.overlaps.new.self) n) four) up (made_known _ _ (c.args.level - 1 + 1) (c.args.level - 1) c.replace_by_futures.new.squares four four_long are))
    long c.overlaps.ensures.ok

pub returns-clause-continues : goal.returns-clause-continues
returns-clause-continues c =
    works_then (tallied c.replace_by_futures.ensures.makes.keeps c.replace_by_futures.ensures.makes.tally) (works_kept 1 _ (here_book c.replace_by_futures.new.book) c.overlaps.ensures.adds.keeps)

pub returns-clause-refusal : goal.returns-clause-refusal
returns-clause-refusal c = refuses (book_here c.overlaps.new.self) c.overlaps.result c.overlaps.ensures.refusal
