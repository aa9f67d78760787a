use Rattle.std.proofs.Common.{◌≡◌, ℕ, List, ◌∷◌, Err, ap, codes, length, suc}
use Rattle.std.proofs.result.Match.{err_is}
use Rattle.pipe_requests.specs.declared.name.Name.TheVariants as name
use Rattle.pipe_requests.proofs.AskLemmas.{bad_count, bad_number, no_height, no_width, no_x, no_y}
use Rattle.pipe_requests.proofs.NumberLemmas.{kept}
use Rattle.pipe_requests.proofs.reading.read_window.Goals as goal

pub returns-in_err-x-clause-err : goal.returns-in_err-x-clause-err
returns-in_err-x-clause-err c =
    let is : c.from_residual.result ≡ Err c.in_err-x.field-0.0 = err_is _ _ c.from_residual.ensures.1 in
    rw is (bad_count name.Window _ _ 4 c.in_err-x.ensures.err (λ fits. fits))

pub returns-in_err-signed-clause-err : goal.returns-in_err-signed-clause-err
returns-in_err-signed-clause-err c =
    let is : c.from_residual-in_err-signed.result ≡ Err c.in_err-signed.field-0.0 = err_is _ _ c.from_residual-in_err-signed.ensures.1 in
    let words = c.in_ok-x.ensures.ok in
    rw is (bad_number name.Window _ _ c.in_err-signed.ensures.err.0
    (ap (λ behind. suc (length behind)) words) (λ other. cc)
    (no_x _ _ _ _ _ words c.in_err-signed.ensures.err.1))

pub returns-in_err-signed-2-clause-err : goal.returns-in_err-signed-2-clause-err
returns-in_err-signed-2-clause-err c =
    let is : c.from_residual-in_err-signed-2.result ≡ Err c.in_err-signed-2.field-0.0 = err_is _ _ c.from_residual-in_err-signed-2.ensures.1 in
    let words = c.in_ok-x.ensures.ok in
    rw is (bad_number name.Window _ _ c.in_err-signed-2.ensures.err.0
    (ap (λ behind. suc (length behind)) words) (λ other. cc)
    (no_y _ _ _ _ _ words c.in_err-signed-2.ensures.err.1))

pub returns-in_err-unsigned-clause-err : goal.returns-in_err-unsigned-clause-err
returns-in_err-unsigned-clause-err c =
    let is : c.from_residual-in_err-unsigned.result ≡ Err c.in_err-unsigned.field-0.0 = err_is _ _ c.from_residual-in_err-unsigned.ensures.1 in
    let words = c.in_ok-x.ensures.ok in
    rw is (bad_number name.Window _ _ c.in_err-unsigned.ensures.err.0
    (ap (λ behind. suc (length behind)) words) (λ other. cc)
    (no_width _ _ _ _ _ words c.in_err-unsigned.ensures.err.1))

pub returns-in_err-unsigned-2-clause-err : goal.returns-in_err-unsigned-2-clause-err
returns-in_err-unsigned-2-clause-err c =
    let is : c.from_residual-in_err-unsigned-2.result ≡ Err c.in_err-unsigned-2.field-0.0 = err_is _ _ c.from_residual-in_err-unsigned-2.ensures.1 in
    let words = c.in_ok-x.ensures.ok in
    rw is (bad_number name.Window _ _ c.in_err-unsigned-2.ensures.err.0
    (ap (λ behind. suc (length behind)) words) (λ other. cc)
    (no_height _ _ _ _ _ words c.in_err-unsigned-2.ensures.err.1))

pub returns-clause-ok : goal.returns-clause-ok
returns-clause-ok c =
    let found = c.in_ok-x in (
      found.x.now,
      found.y.now,
      found.width.now,
      found.height.now,
      ap (λ (behind : List (List ℕ)). codes "window" ∷ behind) c.in_ok-x.ensures.ok,
      kept _ _ c.in_ok-signed.ensures.ok,
      kept _ _ c.in_ok-signed-2.ensures.ok,
      c.in_ok-unsigned.ensures.ok,
      c.in_ok-unsigned-2.ensures.ok,
    )
