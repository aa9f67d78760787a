use Rattle.std.proofs.Common.{◌≡◌, Err, ap, inr, refl, rules, sym}
use Rattle.std.proofs.result.Match.{err_is}
use Rattle.plane.specs.declared.refusal.Refusal.TheVariants.{NoMemory}
use Rattle.engine.specs.States.{is_there}
use Rattle.engine.proofs.Acceptance.{keeps_as}
use Rattle.plane.proofs.Same.{same_trans}
use Rattle.universe.specs.Cells.{live_cells}
use Rattle.universe.proofs.InRange.{keeps_held, keeps_short}
use Rattle.universe.proofs.Onward.{held_again}
use Rattle.engine.proofs.Sessions.{at_any_rate, cells_at_work, judged, later_result, not_judged, refused_result, whenever}
use Rattle.engine.proofs.session.Session.advance.Goals as goal

pub advance_within-requires-clause-held : goal.advance_within-requires-clause-held
advance_within-requires-clause-held g c κs within =
    let rule = c.args.self.now.rule in
    let start = live_cells c.in_ok-universe.universe in
    let here = cells_at_work c.put_universe.new.self c.judge_range-judged.new.self c.put_universe.ensures in
    λ n less. held_again rule start _ n (same_trans here c.judge_range-judged.ensures.same.cells)
    (keeps_held rule c.args.self.now.lawful start c.args.self.now.generation c.args.generations c.in_ok-judged.ensures.ok n less)

pub advance_within-requires-clause-short : goal.advance_within-requires-clause-short
advance_within-requires-clause-short g c κs within =
    let here = cells_at_work c.put_universe.new.self c.judge_range-judged.new.self c.put_universe.ensures in
    λ some. keeps_short (live_cells c.in_ok-universe.universe) c.args.self.now.generation c.args.generations c.in_ok-judged.ensures.ok
    (λ none. some (same_trans here (same_trans c.judge_range-judged.ensures.same.cells none)))

pub returns-clause-ok : goal.returns-clause-ok
returns-clause-ok g c =
    later_result c.args.self.now _ _ c.args.generations _
    (judged c.args.self.now c.in_ok-universe.universe c.judge_range-judged.new.self _ c.in_ok-universe.ensures.same c.judge_range-judged.ensures.same refl refl refl c.put_universe.ensures) c.advance_within.ensures.ok

pub returns-clause-refused : goal.returns-clause-refused
returns-clause-refused g c =
    refused_result c.args.self.now _ _ c.args.generations _
    (judged c.args.self.now c.in_ok-universe.universe c.judge_range-judged.new.self _ c.in_ok-universe.ensures.same c.judge_range-judged.ensures.same refl refl refl c.put_universe.ensures) c.advance_within.ensures.refused

pub returns-clause-in_range : goal.returns-clause-in_range
returns-clause-in_range g c = whenever c.advance_within.result (keeps_as c.in_ok-universe.ensures.same.cells refl c.in_ok-judged.ensures.ok)

pub returns-in_err-universe-clause-refused : goal.returns-in_err-universe-clause-refused
returns-in_err-universe-clause-refused g c =
    let is : c.from_residual.result ≡ Err NoMemory = search rules in
    rw is (inr (inr (refl, inr (record { comments = refl; rule = refl; generation = refl; closed = ap is_there c.take_universe.ensures.lost }))))

pub returns-in_err-judged-clause-refused : goal.returns-in_err-judged-clause-refused
returns-in_err-judged-clause-refused g c =
    let is : c.from_residual-in_err-judged.result ≡ Err c.in_err-judged.field-0.0 = err_is _ _ c.from_residual-in_err-judged.ensures.1 in
    rw is (not_judged c.args.self.now _ c.in_ok-universe.universe c.args.generations c.in_err-judged.field-0.0 c.in_ok-universe.ensures.same.cells
    (judged c.args.self.now c.in_ok-universe.universe c.judge_range-judged.new.self _ c.in_ok-universe.ensures.same c.judge_range-judged.ensures.same refl refl refl c.put_universe.ensures) c.in_err-judged.ensures.refused)

pub returns-clause-closed : goal.returns-clause-closed
returns-clause-closed g c = whenever c.advance_within.result (sym c.in_ok-universe.ensures.same.there)

pub returns-clause-opened : goal.returns-clause-opened
returns-clause-opened g c = at_any_rate (λ refusal. refusal ≡ NoMemory) c.advance_within.result (sym c.in_ok-universe.ensures.same.there)

pub returns-in_err-judged-clause-opened : goal.returns-in_err-judged-clause-opened
returns-in_err-judged-clause-opened g c =
    let is : c.from_residual-in_err-judged.result ≡ Err c.in_err-judged.field-0.0 = err_is _ _ c.from_residual-in_err-judged.ensures.1 in
    rw is (inr (sym c.in_ok-universe.ensures.same.there))
