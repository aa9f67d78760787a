use Rattle.std.proofs.Common.{◌≡◌, ◌^◌, ◌∙◌, ℕ, inr, ap, sym, subst, arith}
use Rattle.std.specs.Prelude.{Option, IfNone, IfSome}
use Rattle.plane.proofs.Same.{same_sym, same_trans}
use Rattle.table_core.specs.declared.key.Key.{Key}
use Rattle.table_core.specs.declared.shape.Shape.{Shape}
use Rattle.universe.specs.Cells.{limit_of, root_of, still_of}
use Rattle.universe.specs.Stills.{HasNoRoomToSweep, IsOpenedAt, IsSweptFrom}
use Rattle.universe.specs.declared.other_tables.OtherTables.{OtherTables}
use Rattle.universe.specs.declared.rooted_still.RootedStill.{RootedStill}
use Rattle.universe.proofs.Copying.{copied, reopened, swept_is}
use Rattle.universe.proofs.Evicting.{last_sum}
use Rattle.universe.proofs.Filling.{full_at_limit, opened_alone}
use Rattle.universe.proofs.Halves.{ok_then}
use Rattle.universe.proofs.Onward.{attempt_again, step_again}
use Rattle.universe.proofs.universe.Universe.step_swept.Goals as goal

pub open_at-requires : goal.open_at-requires
open_at-requires g c =
    let pairs = 2 ^ c.args.shape.bits in
    let is = swept_is c.close-start.result c.in-Some.fresh pairs (subst (λ (o : Option RootedStill). IfSome o (λ fresh. IsSweptFrom c.close-start.result pairs fresh)) c.in-Some.is c.in_ok-fresh.ensures.ok) in
    let size = is.resized.pair_count in
    let fits = c.make_room.ensures.tables.fits in
    let limit = ap (λ (shape : Shape). 2 ^ shape.bits) c.make_room.ensures.limit in
    let room = c.requires.shape in
    omega (arith, size, fits, limit, room, c.pair_count.ensures)

pub open_at-requires-in-None : goal.open_at-requires-in-None
open_at-requires-in-None g c =
    let fewer = last_sum c.args.self.others.tables.items c.make_room.new.self.tables.items _ c.make_room.ensures.tables in
    let limit = ap (λ (shape : Shape). 2 ^ shape.bits) c.make_room.ensures.limit in
    let here = ap (λ (k : Key). 2 ^ k.shape.bits) c.close-start.ensures.key in
    let all = c.args.self.within in
    omega (arith, fewer, limit, here, all)

pub step_here-requires-after_bounds : goal.step_here-requires-after_bounds
step_here-requires-after_bounds g c κs within =
    let pairs = 2 ^ c.args.shape.bits in
    let is = swept_is c.close-start.result c.in-Some.fresh pairs (subst (λ (o : Option RootedStill). IfSome o (λ fresh. IsSweptFrom c.close-start.result pairs fresh)) c.in-Some.is c.in_ok-fresh.ensures.ok) in
    let now = subst (λ (k : Key). IsOpenedAt c.in-Some.fresh k.exponent c.make_room.new.self c.in_ok-universe-in-Some.universe) c.key.ensures c.in_ok-universe-in-Some.ensures in
    step_again c.requires.step (copied {old = c.args.self} c.close-start.result c.in-Some.fresh pairs c.close-start.ensures.cells c.close-start.ensures.key c.make_room.ensures.limit is now)

pub returns-in_ok-universe-in-Some-clause-ok : goal.returns-in_ok-universe-in-Some-clause-ok
returns-in_ok-universe-in-Some-clause-ok g c =
    let pairs = 2 ^ c.args.shape.bits in
    let is = swept_is c.close-start.result c.in-Some.fresh pairs (subst (λ (o : Option RootedStill). IfSome o (λ fresh. IsSweptFrom c.close-start.result pairs fresh)) c.in-Some.is c.in_ok-fresh.ensures.ok) in
    let now = subst (λ (k : Key). IsOpenedAt c.in-Some.fresh k.exponent c.make_room.new.self c.in_ok-universe-in-Some.universe) c.key.ensures c.in_ok-universe-in-Some.ensures in
    ok_then _ _ c.step_here.result (λ attempt is_attempt. attempt_again attempt
    (copied {old = c.args.self} c.close-start.result c.in-Some.fresh pairs c.close-start.ensures.cells c.close-start.ensures.key c.make_room.ensures.limit is now) is_attempt) c.step_here.ensures.ok

pub returns-in_ok-universe-in-Some-clause-full : goal.returns-in_ok-universe-in-Some-clause-full
returns-in_ok-universe-in-Some-clause-full g c = λ most.
    let old = c.close-start.result in
    let fresh = c.in-Some.fresh in
    let universe = c.in_ok-universe-in-Some.universe in
    let pairs = 2 ^ c.args.shape.bits in
    let swept = subst (λ (o : Option RootedStill). IfSome o (λ fresh. IsSweptFrom old pairs fresh)) c.in-Some.is c.in_ok-fresh.ensures.ok in
    let is = swept_is old fresh pairs swept in
    let now = c.in_ok-universe-in-Some.ensures in
    let limit : pairs ≡ limit_of universe = most ∙ ap (λ (shape : Shape). 2 ^ shape.bits) (sym (ap (λ (o : OtherTables). o.limit) now.others ∙ c.make_room.ensures.limit)) in
    full_at_limit (still_of old) (root_of old) universe c.step_here.result old.known (same_sym (same_trans now.cells is.cells))
    (opened_alone old fresh _ _ (subst (λ (n : ℕ). IsSweptFrom old n fresh) limit swept) now) c.step_here.ensures.ok c.step_here.ensures.full

pub returns-in_ok-universe-in-None-clause-ok : goal.returns-in_ok-universe-in-None-clause-ok
returns-in_ok-universe-in-None-clause-ok g c =
    let now = subst (λ (k : Key). IsOpenedAt c.close-start.result k.exponent c.make_room.new.self c.in_ok-universe-in-None.universe) c.key.ensures c.in_ok-universe-in-None.ensures in
    reopened {old = c.args.self} c.close-start.result c.close-start.ensures.cells c.close-start.ensures.key c.make_room.ensures.limit now

pub returns-in_ok-universe-in-None-clause-full : goal.returns-in_ok-universe-in-None-clause-full
returns-in_ok-universe-in-None-clause-full g c = λ most.
    let old = c.close-start.result in
    let universe = c.in_ok-universe-in-None.universe in
    let pairs = 2 ^ c.args.shape.bits in
    let now = c.in_ok-universe-in-None.ensures in
    let limit : pairs ≡ limit_of universe = most ∙ ap (λ (shape : Shape). 2 ^ shape.bits) (sym (ap (λ (o : OtherTables). o.limit) now.others ∙ c.make_room.ensures.limit)) in
    let full = subst (λ (o : Option RootedStill). IfNone o (HasNoRoomToSweep old pairs)) c.in-None.is c.in_ok-fresh.ensures.full in
    record { still = still_of old; root = root_of old; known = old.known; cells = same_sym now.cells; full = inr (subst (HasNoRoomToSweep old) limit full) }
