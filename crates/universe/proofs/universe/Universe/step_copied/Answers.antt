use Rattle.std.proofs.Common.{◌^◌, ap, sym, subst, arith, pow_mono}
use Rattle.std.specs.Prelude.{Option, IfSome}
use Rattle.node_sweep.specs.Blank.{AreBlank}
use Rattle.table_core.specs.declared.key.Key.{Key}
use Rattle.table_core.specs.declared.shape.Shape.{Shape}
use Rattle.universe.specs.Planning.{IsPlanned}
use Rattle.universe.specs.Stills.{IsCopied, IsOpenedAt}
use Rattle.universe.specs.Tables.{key_at}
use Rattle.universe.specs.declared.planned.Planned.{Planned}
use Rattle.universe.specs.declared.rooted_still.RootedStill.{RootedStill}
use Rattle.universe.proofs.Copying.{copied, reopened}
use Rattle.universe.proofs.Evicting.{last_sum}
use Rattle.universe.proofs.Halves.{ok_then}
use Rattle.universe.proofs.Onward.{attempt_again, step_again}
use Rattle.universe.proofs.universe.Universe.step_copied.Goals as goal

pub make_room-requires-clause-room : goal.make_room-requires-clause-room
make_room-requires-clause-room g c =
    let planned = subst (λ (o : Option Planned). IfSome o (IsPlanned (key_at c.args.self.here) c.args.shape.bits)) c.in-Some.is c.in_ok-planned.ensures in
    let smaller = pow_mono {i = c.in-Some.planned.shape.bits} {j = c.args.shape.bits} planned.within in
    let room = c.requires.shape in
    omega (arith, room, smaller, c.pair_count.ensures)

pub open_at-requires : goal.open_at-requires
open_at-requires g c =
    let pairs = 2 ^ c.in-Some.planned.shape.bits in
    let planned = subst (λ (o : Option Planned). IfSome o (IsPlanned (key_at c.args.self.here) c.args.shape.bits)) c.in-Some.is c.in_ok-planned.ensures in
    let is = subst (λ (o : Option RootedStill). IfSome o (IsCopied c.close-start.result pairs)) c.in-Some-2.is c.in_ok-fresh.ensures in
    let size = is.resized.pair_count in
    let fits = c.make_room.ensures.tables.fits in
    let limit = ap (λ (shape : Shape). 2 ^ shape.bits) c.make_room.ensures.limit in
    let room = c.requires.shape in
    let smaller = pow_mono {i = c.in-Some.planned.shape.bits} {j = c.args.shape.bits} planned.within in
    omega (arith, size, fits, limit, room, smaller, c.pair_count.ensures)

pub step_here-requires-after_bounds : goal.step_here-requires-after_bounds
step_here-requires-after_bounds g c κs within =
    let pairs = 2 ^ c.in-Some.planned.shape.bits in
    let is = subst (λ (o : Option RootedStill). IfSome o (IsCopied c.close-start.result pairs)) c.in-Some-2.is c.in_ok-fresh.ensures in
    let now = subst (λ (k : Key). IsOpenedAt c.in-Some-2.fresh k.exponent c.make_room.new.self c.in_ok-universe-in-Some-2.universe) c.key.ensures c.in_ok-universe-in-Some-2.ensures in
    step_again c.requires.step (copied {old = c.args.self} c.close-start.result c.in-Some-2.fresh pairs c.close-start.ensures.cells c.close-start.ensures.key c.make_room.ensures.limit is now)

pub open_at-requires-in-None : goal.open_at-requires-in-None
open_at-requires-in-None g c =
    let fewer = last_sum c.args.self.others.tables.items c.make_room.new.self.tables.items _ c.make_room.ensures.tables in
    let limit = ap (λ (shape : Shape). 2 ^ shape.bits) c.make_room.ensures.limit in
    let here = ap (λ (k : Key). 2 ^ k.shape.bits) c.close-start.ensures.key in
    let all = c.args.self.within in
    omega (arith, fewer, limit, here, all)

pub returns-in_ok-universe-in-Some-2 : goal.returns-in_ok-universe-in-Some-2
returns-in_ok-universe-in-Some-2 g c =
    let pairs = 2 ^ c.in-Some.planned.shape.bits in
    let is = subst (λ (o : Option RootedStill). IfSome o (IsCopied c.close-start.result pairs)) c.in-Some-2.is c.in_ok-fresh.ensures in
    let now = subst (λ (k : Key). IsOpenedAt c.in-Some-2.fresh k.exponent c.make_room.new.self c.in_ok-universe-in-Some-2.universe) c.key.ensures c.in_ok-universe-in-Some-2.ensures in
    ok_then _ _ c.step_here.result (λ attempt is_attempt. attempt_again attempt
    (copied {old = c.args.self} c.close-start.result c.in-Some-2.fresh pairs c.close-start.ensures.cells c.close-start.ensures.key c.make_room.ensures.limit is now) is_attempt) c.step_here.ensures.ok

pub returns-in_ok-universe-in-None : goal.returns-in_ok-universe-in-None
returns-in_ok-universe-in-None g c =
    let now = subst (λ (k : Key). IsOpenedAt c.close-start.result k.exponent c.make_room.new.self c.in_ok-universe-in-None.universe) c.key.ensures c.in_ok-universe-in-None.ensures in
    reopened {old = c.args.self} c.close-start.result c.close-start.ensures.cells c.close-start.ensures.key c.make_room.ensures.limit now

pub copy-requires : goal.copy-requires
copy-requires g c =
    let own = key_at c.args.self.here in
    let most = c.args.shape.bits in
    let planned = subst (λ (o : Option Planned). IfSome o (IsPlanned own most)) c.in-Some.is c.in_ok-planned.ensures in
    let pairs = 2 ^ c.in-Some.planned.shape.bits in
    subst (λ (k : Key). AreBlank k pairs c.in-Some.planned.blank) (sym c.close-start.ensures.key) planned.blank
