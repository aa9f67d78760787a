use Rattle.std.proofs.Common.{◌≡◌, ℤ, Err, of_z, to_z, w64, rules, refl}
use Rattle.std.proofs.lemmas.Int.{to_z-of_z}
use Rattle.std.proofs.result.Match.{err_is}
use Rattle.plane.specs.Fault.{placeless}
use Rattle.plane.specs.declared.refusal.Refusal.TheVariants.{NoMemory}
use Rattle.engine.proofs.Sessions.{same_session}
use Rattle.pipe_requests.specs.declared.request.Request.TheVariants as request
use Rattle.pipe_program.specs.declared.answering.Failure.TheVariants as failure
use Rattle.pipe_program.proofs.Looks.{box_read, tells_file, tells_memory, tells_no_file, tells_no_picture, tells_no_window, tells_picture, tells_window}
use Rattle.pipe_program.proofs.answering.look.Goals as goal

pub returns-in_err-population-in-Population-clause-answers : goal.returns-in_err-population-in-Population-clause-answers
returns-in_err-population-in-Population-clause-answers g c = λ pairs block.
    let is : c.from_residual.result ≡ Err (placeless NoMemory) = search rules in
    rw is (tells_memory pairs block c.args.session.now c.population.new.self c.population.ensures.same c.args.request.now request.Population (Err (failure.Refused (placeless NoMemory))) c.in-Population.is tt refl)

pub returns-in_err-bounds-in-Bounds-clause-answers : goal.returns-in_err-bounds-in-Bounds-clause-answers
returns-in_err-bounds-in-Bounds-clause-answers g c = λ pairs block.
    let is : c.from_residual-in_err-bounds-in-Bounds.result ≡ Err (placeless NoMemory) = search rules in
    rw is (tells_memory pairs block c.args.session.now c.bounds.new.self c.bounds.ensures.same c.args.request.now request.Bounds (Err (failure.Refused (placeless NoMemory))) c.in-Bounds.is tt refl)

pub returns-in_err-run_bytes-in-Runs-clause-answers : goal.returns-in_err-run_bytes-in-Runs-clause-answers
returns-in_err-run_bytes-in-Runs-clause-answers g c = λ pairs block.
    let is : c.from_residual-in_err-run_bytes-in-Runs.result ≡ Err (placeless NoMemory) = search rules in
    rw is (tells_memory pairs block c.args.session.now c.run_bytes.new.session c.run_bytes.ensures.same c.args.request.now request.Runs (Err (failure.Refused (placeless NoMemory))) c.in-Runs.is tt refl)

pub returns-in_err-window_text-in-Window-clause-answers : goal.returns-in_err-window_text-in-Window-clause-answers
returns-in_err-window_text-in-Window-clause-answers g c = λ pairs block.
    let is : c.from_residual-in_err-window_text-in-Window.result ≡ Err (placeless NoMemory) = search rules in
    rw is (tells_memory pairs block c.args.session.now c.window_text.new.session c.window_text.ensures.same c.args.request.now (request.Window c.in-Window.x c.in-Window.y c.in-Window.width c.in-Window.height) (Err (failure.Refused (placeless NoMemory))) c.in-Window.is tt refl)

pub returns-in_err-window-in-Window-clause-answers : goal.returns-in_err-window-in-Window-clause-answers
returns-in_err-window-in-Window-clause-answers g c = λ pairs block.
    let refusal = c.in_err-window-in-Window.field-0.0 in
    let x : ℤ = c.in-Window.x in
    let y : ℤ = c.in-Window.y in
    let is : c.from_residual-in_err-window-in-Window.result ≡ Err (placeless refusal) = err_is _ _ c.from_residual-in_err-window-in-Window.ensures.1 in
    rw is (tells_no_window pairs block c.args.session.now c.args.session.now (same_session c.args.session.now) c.args.request.now c.in-Window.width c.in-Window.height x y (to_z w64 (of_z w64 x)) (to_z w64 (of_z w64 y))
    (to_z-of_z w64 x (search rules)) (to_z-of_z w64 y (search rules)) c.in-Window.is refusal c.in_err-window-in-Window.ensures.err.0 c.in_err-window-in-Window.ensures.err.1)

pub returns-in_ok-window_text-in-Window-clause-answers : goal.returns-in_ok-window_text-in-Window-clause-answers
returns-in_ok-window_text-in-Window-clause-answers g c = λ pairs block.
    let x : ℤ = c.in-Window.x in
    let y : ℤ = c.in-Window.y in
    tells_window pairs block c.args.session.now c.window_text.new.session c.window_text.ensures.same c.args.request.now c.in-Window.width c.in-Window.height x y (to_z w64 (of_z w64 x)) (to_z w64 (of_z w64 y))
    (to_z-of_z w64 x (search rules)) (to_z-of_z w64 y (search rules)) c.in-Window.is c.in_ok-window_text-in-Window.ensures.opened c.in_ok-window-in-Window.window c.in_ok-window-in-Window.ensures.ok.0 c.in_ok-window-in-Window.ensures.ok.1
    c.in_ok-window_text-in-Window.field-0 c.in_ok-window_text-in-Window.ensures.ok

pub returns-in_err-pattern_text-in-Write-clause-answers : goal.returns-in_err-pattern_text-in-Write-clause-answers
returns-in_err-pattern_text-in-Write-clause-answers g c = λ pairs block.
    let refusal = c.in_err-pattern_text-in-Write.field-0.0 in
    let is : c.from_residual-in_err-pattern_text-in-Write.result ≡ Err (placeless refusal) = err_is _ _ c.from_residual-in_err-pattern_text-in-Write.ensures.1 in
    rw is (tells_no_file pairs block c.args.session.now c.pattern_text.new.session c.pattern_text.ensures.same c.args.request.now c.in-Write.format c.in-Write.is refusal c.in_err-pattern_text-in-Write.ensures.refused)

pub returns-in_ok-pattern_text-in-Write-clause-answers : goal.returns-in_ok-pattern_text-in-Write-clause-answers
returns-in_ok-pattern_text-in-Write-clause-answers g c = λ pairs block.
    tells_file pairs block c.args.session.now c.pattern_text.new.session c.pattern_text.ensures.same c.args.request.now c.in-Write.format c.in-Write.is c.in_ok-pattern_text-in-Write.ensures.opened
    c.in_ok-pattern_text-in-Write.field-0 c.in_ok-pattern_text-in-Write.ensures.ok

pub returns-in_err-picture_text-in-Picture-clause-answers : goal.returns-in_err-picture_text-in-Picture-clause-answers
returns-in_err-picture_text-in-Picture-clause-answers g c = λ pairs block.
    let refusal = c.in_err-picture_text-in-Picture.field-0.0 in
    let asked = c.in-Picture in
    let is : c.from_residual-in_err-picture_text-in-Picture.result ≡ Err (placeless refusal) = err_is _ _ c.from_residual-in_err-picture_text-in-Picture.ensures.1 in
    rw is (tells_no_picture pairs block c.args.session.now c.picture_text.new.session c.picture_text.ensures.same c.args.request.now asked.left asked.top asked.right asked.bottom asked.size asked.is _
    (box_read (to_z-of_z w64 asked.left (search rules)) (to_z-of_z w64 asked.top (search rules)) (to_z-of_z w64 asked.right (search rules)) (to_z-of_z w64 asked.bottom (search rules)))
    refusal c.in_err-picture_text-in-Picture.ensures.refused)

pub returns-in_ok-picture_text-in-Picture-clause-answers : goal.returns-in_ok-picture_text-in-Picture-clause-answers
returns-in_ok-picture_text-in-Picture-clause-answers g c = λ pairs block.
    let asked = c.in-Picture in
    tells_picture pairs block c.args.session.now c.picture_text.new.session c.picture_text.ensures.same c.args.request.now asked.left asked.top asked.right asked.bottom asked.size asked.is _
    (box_read (to_z-of_z w64 asked.left (search rules)) (to_z-of_z w64 asked.top (search rules)) (to_z-of_z w64 asked.right (search rules)) (to_z-of_z w64 asked.bottom (search rules)))
    c.in_ok-picture_text-in-Picture.ensures.opened c.in_ok-picture_text-in-Picture.field-0 c.in_ok-picture_text-in-Picture.ensures.ok
