use Rattle.std.proofs.Common.{◌≡◌, ℤ, pos, Option, ℕ, sym, subst}
use Rattle.std.specs.Prelude.{IfNone, IfSome}
use Rattle.engine.specs.Pattern.{plane_of}
use Rattle.engine.specs.Sessions.{IsLaterSession, cells_of}
use Rattle.plane.specs.Laws.{moved}
use Rattle.plane.specs.Square.{IsSame, empty}
use Rattle.plane.proofs.Same.{same_trans}
use Rattle.plane.proofs.SentErrors.{sent_on}
use Rattle.period_search.specs.Searches.{StopsOnTheWay}
use Rattle.period_search.proofs.SearchSteps.{answered, came, came_on, came_to_last, not_advanced, nothing_tried, out_of_memory, tried_too, within_last}
use Rattle.period_search.proofs.search.least_period.Goals as goal

pub loop-generations-init : goal.loop-generations-init
loop-generations-init g c = nothing_tried c.args.candidates c.args.session.now c.snapshot.new.self c.snapshot.ensures.same

pub returns-in_err-advance-clause-refused : goal.returns-in_err-advance-clause-refused
returns-in_err-advance-clause-refused g c =
    sent_on (StopsOnTheWay c.args.candidates c.args.session.now c.advance.new.self) c.from_residual-in_err-advance.result c.in_err-advance.field-0.0 c.from_residual-in_err-advance.ensures.1
    (not_advanced c.args.candidates c.args.session.now c.loop-generations.session c.advance.new.self c.loop-generations.tried c.in-Some.generations c.in_err-advance.field-0.0 c.in_ok-first.ensures.closed c.loop-generations.invariant c.in-Some.ensures.next c.in_err-advance.ensures.refused)

pub returns-in_err-by-clause-refused : goal.returns-in_err-by-clause-refused
returns-in_err-by-clause-refused g c =
    let there = c.advance.new.self in
    sent_on (StopsOnTheWay c.args.candidates c.args.session.now c.displacement.new.session) c.from_residual-in_err-by.result c.in_err-by.field-0.0 c.from_residual-in_err-by.ensures.1
    (out_of_memory c.args.candidates c.args.session.now there c.displacement.new.session c.in-Some.generations c.in_err-by.field-0.0 c.in_err-by.ensures.memory c.in_ok-first.ensures.closed
    (within_last c.args.candidates c.in-Some.generations c.requires c.in-Some.ensures.next.one)
    (came c.args.candidates c.args.session.now c.loop-generations.session there c.displacement.new.session (plane_of c.in_ok-first.first) c.loop-generations.tried c.in-Some.generations
    (same_trans c.in_ok-first.ensures.ok c.snapshot.ensures.same.cells) c.loop-generations.invariant c.in-Some.ensures.next c.in_ok-advance.ensures.ok c.displacement.ensures.session)
    c.displacement.ensures.session)

pub returns-in-Some-2-clause-answer : goal.returns-in-Some-2-clause-answer
returns-in-Some-2-clause-answer g c =
    let by : ℤ × ℤ = c.in-Some-2.by in
    let first = plane_of c.in_ok-first.first in
    answered c.args.candidates c.args.session.now c.loop-generations.session c.advance.new.self c.displacement.new.session first c.loop-generations.tried c.in-Some.generations
    (same_trans c.in_ok-first.ensures.ok c.snapshot.ensures.same.cells) c.loop-generations.invariant c.in-Some.ensures.next c.in_ok-advance.ensures.ok c.displacement.ensures.session
    by.0 by.1 c.with.result c.with.ensures.generations c.with.ensures.right c.with.ensures.down
    (subst (λ (found : Option (ℤ × ℤ)). IfSome found (λ b. IsSame (cells_of c.advance.new.self) (moved b.0 b.1 first))) c.in-Some-2.is c.in_ok-by.ensures.some)
    (subst (λ (found : Option (ℤ × ℤ)). IfSome found (λ b. IsSame first empty → (b.0 ≡ pos 0) × (b.1 ≡ pos 0))) c.in-Some-2.is c.in_ok-by.ensures.still)

pub returns-in-Some-2-clause-later : goal.returns-in-Some-2-clause-later
returns-in-Some-2-clause-later g c =
    subst (λ (n : ℕ). IsLaterSession c.args.session.now n c.displacement.new.session) (sym c.with.ensures.generations)
    (came_on c.args.candidates c.args.session.now c.loop-generations.session c.advance.new.self c.displacement.new.session (plane_of c.in_ok-first.first) c.loop-generations.tried c.in-Some.generations
    (same_trans c.in_ok-first.ensures.ok c.snapshot.ensures.same.cells) c.loop-generations.invariant c.in-Some.ensures.next c.in_ok-advance.ensures.ok c.displacement.ensures.session)

pub loop-generations-preserved : goal.loop-generations-preserved
loop-generations-preserved g c =
    let first = plane_of c.in_ok-first.first in
    tried_too c.args.candidates c.args.session.now c.loop-generations.session c.advance.new.self c.displacement.new.session first c.loop-generations.tried c.in-Some.generations
    (same_trans c.in_ok-first.ensures.ok c.snapshot.ensures.same.cells) c.loop-generations.invariant c.in-Some.ensures.next c.in_ok-advance.ensures.ok c.displacement.ensures.session c.requires
    (subst (λ (found : Option (ℤ × ℤ)). IfNone found ((right : ℤ) → (down : ℤ) → IsSame (cells_of c.advance.new.self) (moved right down first) → ⊥)) c.in_default-2.is c.in_ok-by.ensures.none)

pub returns-clause-ended : goal.returns-clause-ended
returns-clause-ended g c = came_to_last c.args.candidates c.args.session.now c.loop-generations.session c.loop-generations.tried c.loop-generations.invariant c.in_default.ensures.none
