use Rattle.std.proofs.Common.{◌≡◌, ◌∙◌, ℕ, List, ◌∷◌, Err, ap, codes, length, suc}
use Rattle.std.proofs.result.Match.{err_is}
use Rattle.pipe_requests.specs.declared.name.Name.TheVariants as name
use Rattle.pipe_requests.proofs.AskLemmas.{bad_number, bad_words, no_bottom, no_left, no_right, no_size, no_top, none_of_five, not_five}
use Rattle.pipe_requests.proofs.NumberLemmas.{kept, no_same_limits, same_limits}
use Rattle.pipe_requests.proofs.reading.read_picture.Goals as goal

pub returns-in_err-left-clause-err : goal.returns-in_err-left-clause-err
returns-in_err-left-clause-err c =
    let is : c.from_residual.result ≡ Err c.in_err-left.field-0.0 = err_is _ _ c.from_residual.ensures.1 in
    rw is (bad_words name.Picture _ _ c.in_err-left.ensures.err.0 (none_of_five _ c.in_err-left.ensures.err.1))

pub returns-in_err-top-clause-err : goal.returns-in_err-top-clause-err
returns-in_err-top-clause-err c =
    let is : c.from_residual-in_err-top.result ≡ Err c.in_err-top.field-0.0 = err_is _ _ c.from_residual-in_err-top.ensures.1 in
    rw is (bad_words name.Picture _ _ c.in_err-top.ensures.err.0 (not_five _ _ _ c.in_ok-left.ensures.ok c.in_err-top.ensures.err.1))

pub returns-in_err-signed-clause-err : goal.returns-in_err-signed-clause-err
returns-in_err-signed-clause-err c =
    let is : c.from_residual-in_err-signed.result ≡ Err c.in_err-signed.field-0.0 = err_is _ _ c.from_residual-in_err-signed.ensures.1 in
    let words = c.in_ok-left.ensures.ok ∙ ap (λ (others : List (List ℕ)). c.in_ok-left.left.now ∷ others) c.in_ok-top.ensures.ok in
    rw is (bad_number name.Picture _ _ c.in_err-signed.ensures.err.0
    (ap (λ behind. suc (length behind)) words) (λ other. cc)
    (no_left _ _ _ _ _ _ words c.in_err-signed.ensures.err.1))

pub returns-in_err-signed-2-clause-err : goal.returns-in_err-signed-2-clause-err
returns-in_err-signed-2-clause-err c =
    let is : c.from_residual-in_err-signed-2.result ≡ Err c.in_err-signed-2.field-0.0 = err_is _ _ c.from_residual-in_err-signed-2.ensures.1 in
    let words = c.in_ok-left.ensures.ok ∙ ap (λ (others : List (List ℕ)). c.in_ok-left.left.now ∷ others) c.in_ok-top.ensures.ok in
    rw is (bad_number name.Picture _ _ c.in_err-signed-2.ensures.err.0
    (ap (λ behind. suc (length behind)) words) (λ other. cc)
    (no_top _ _ _ _ _ _ words c.in_err-signed-2.ensures.err.1))

pub returns-in_err-signed-3-clause-err : goal.returns-in_err-signed-3-clause-err
returns-in_err-signed-3-clause-err c =
    let is : c.from_residual-in_err-signed-3.result ≡ Err c.in_err-signed-3.field-0.0 = err_is _ _ c.from_residual-in_err-signed-3.ensures.1 in
    let words = c.in_ok-left.ensures.ok ∙ ap (λ (others : List (List ℕ)). c.in_ok-left.left.now ∷ others) c.in_ok-top.ensures.ok in
    rw is (bad_number name.Picture _ _ c.in_err-signed-3.ensures.err.0
    (ap (λ behind. suc (length behind)) words) (λ other. cc)
    (no_right _ _ _ _ _ _ words c.in_err-signed-3.ensures.err.1))

pub returns-in_err-signed-4-clause-err : goal.returns-in_err-signed-4-clause-err
returns-in_err-signed-4-clause-err c =
    let is : c.from_residual-in_err-signed-4.result ≡ Err c.in_err-signed-4.field-0.0 = err_is _ _ c.from_residual-in_err-signed-4.ensures.1 in
    let words = c.in_ok-left.ensures.ok ∙ ap (λ (others : List (List ℕ)). c.in_ok-left.left.now ∷ others) c.in_ok-top.ensures.ok in
    rw is (bad_number name.Picture _ _ c.in_err-signed-4.ensures.err.0
    (ap (λ behind. suc (length behind)) words) (λ other. cc)
    (no_bottom _ _ _ _ _ _ words c.in_err-signed-4.ensures.err.1))

pub returns-in_err-limited-clause-err : goal.returns-in_err-limited-clause-err
returns-in_err-limited-clause-err c =
    let is : c.from_residual-in_err-limited.result ≡ Err c.in_err-limited.field-0.0 = err_is _ _ c.from_residual-in_err-limited.ensures.1 in
    let words = c.in_ok-left.ensures.ok ∙ ap (λ (others : List (List ℕ)). c.in_ok-left.left.now ∷ others) c.in_ok-top.ensures.ok in
    rw is (bad_number name.Picture _ _ c.in_err-limited.ensures.err.0
    (ap (λ behind. suc (length behind)) words) (λ other. cc)
    (no_size _ _ _ _ _ _ words
    (no_same_limits _ _ _ _ _ c.from.ensures c.from-2.ensures c.in_err-limited.ensures.err.1)))

pub returns-clause-ok : goal.returns-clause-ok
returns-clause-ok c =
    let found = c.in_ok-top in (
      c.in_ok-left.left.now,
      found.top.now,
      found.right.now,
      found.bottom.now,
      found.size.now,
      ap (λ (behind : List (List ℕ)). codes "picture" ∷ behind)
          (c.in_ok-left.ensures.ok ∙ ap (λ (others : List (List ℕ)). c.in_ok-left.left.now ∷ others) c.in_ok-top.ensures.ok),
      kept _ _ c.in_ok-signed.ensures.ok,
      kept _ _ c.in_ok-signed-2.ensures.ok,
      kept _ _ c.in_ok-signed-3.ensures.ok,
      kept _ _ c.in_ok-signed-4.ensures.ok,
      same_limits _ _ _ _ _ _ c.from.ensures c.from-2.ensures c.in_ok-limited.ensures.ok,
    )
