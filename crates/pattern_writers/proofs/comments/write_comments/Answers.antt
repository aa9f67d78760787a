use Rattle.std.proofs.Common.{◌≡◌, ◌∷◌, ◌++◌, ◌∙◌, codes, rules, ap, sym, refl, [], append-nil, append_assoc}
use Rattle.pattern_writers.specs.RleText.{comment_lines}
use Rattle.pattern_writers.proofs.BlocksOut.{broken_off, buffered_more, buffered_none, on_err, passed_on}
use Rattle.pattern_writers.proofs.comments.write_comments.Goals as goal

pub loop-comment-preserved : goal.loop-comment-preserved
loop-comment-preserved g c =
    let before = c.loop-comment.invariant.1 in
    let comment = c.in-Some.comment.now in
    let step : c.loop-comment.comment-iterator ≡ comment ∷ c.next.new.self = search rules in (
      search rules,
      (
        before.0 ++ (comment ++ codes "\n"),
        buffered_more before.1 (buffered_more c.in_ok-put.ensures.written c.in_ok-put-2.ensures.written),
        before.2 ∙ ap (λ l. before.0 ++ comment_lines l) step ∙ sym (append_assoc before.0 (comment ++ codes "\n") (comment_lines c.next.new.self)),
      ),
    )

pub loop-comment-init : goal.loop-comment-init
loop-comment-init g c = (refl, ([], buffered_none _ _, refl))

pub returns-clause-written : goal.returns-clause-written
returns-clause-written g c =
    let before = c.loop-comment.invariant.1 in
    let given = sym (ap comment_lines c.into_iter-comment-iterator.ensures.into_iter_gives) in
    let whole = given ∙ before.2 ∙ ap (λ l. before.0 ++ comment_lines l) c.in-None.ensures.steps.0 ∙ append-nil before.0 in
    rw whole before.1

pub returns-in_err-put-clause-beginning : goal.returns-in_err-put-clause-beginning
returns-in_err-put-clause-beginning g c =
    let before = c.loop-comment.invariant.1 in
    let comment = c.in-Some.comment.now in
    let rest = comment_lines c.next.new.self in
    let given = sym (ap comment_lines c.into_iter-comment-iterator.ensures.into_iter_gives) in
    let step : c.loop-comment.comment-iterator ≡ comment ∷ c.next.new.self = search rules in
    let whole : comment_lines c.args.comments ≡ before.0 ++ (comment ++ (codes "\n" ++ rest)) =
    given ∙ before.2 ∙ ap (λ l. before.0 ++ comment_lines l) step ∙ ap (λ l. before.0 ++ l) (append_assoc comment (codes "\n") rest) in
    on_err c.from_residual.result (broken_off _ (codes "\n" ++ rest) _ before.1 c.in_err-put.ensures.beginning whole)

pub returns-in_err-put-2-clause-beginning : goal.returns-in_err-put-2-clause-beginning
returns-in_err-put-2-clause-beginning g c =
    let before = c.loop-comment.invariant.1 in
    let comment = c.in-Some.comment.now in
    let rest = comment_lines c.next.new.self in
    let given = sym (ap comment_lines c.into_iter-comment-iterator.ensures.into_iter_gives) in
    let step : c.loop-comment.comment-iterator ≡ comment ∷ c.next.new.self = search rules in
    let whole : comment_lines c.args.comments ≡ (before.0 ++ comment) ++ (codes "\n" ++ rest) =
    given ∙ before.2 ∙ ap (λ l. before.0 ++ comment_lines l) step ∙ ap (λ l. before.0 ++ l) (append_assoc comment (codes "\n") rest) ∙ sym (append_assoc before.0 comment (codes "\n" ++ rest)) in
    on_err c.from_residual-in_err-put-2.result (broken_off _ rest _ (buffered_more before.1 c.in_ok-put.ensures.written) c.in_err-put-2.ensures.beginning whole)

pub returns-in_err-put-clause-failure : goal.returns-in_err-put-clause-failure
returns-in_err-put-clause-failure g c =
    passed_on _ _ _ c.in_err-put.field-0.0 _ c.loop-comment.invariant.0 c.from_residual.ensures.0 c.from_residual.ensures.1 c.in_err-put.ensures.failure

pub returns-in_err-put-2-clause-failure : goal.returns-in_err-put-2-clause-failure
returns-in_err-put-2-clause-failure g c =
    passed_on _ _ _ c.in_err-put-2.field-0.0 _ (c.in_ok-put.ensures.failure.unfailed ∙ c.loop-comment.invariant.0) c.from_residual-in_err-put-2.ensures.0 c.from_residual-in_err-put-2.ensures.1 c.in_err-put-2.ensures.failure
