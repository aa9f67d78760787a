use Rattle.std.proofs.Common.{arith}
use Rattle.plane.specs.Centred.{centred}
use Rattle.pattern_writers.proofs.RootParts.{first_root, quarters_known, smallest_root}
use Rattle.pattern_writers.proofs.mc_text.root.Root.of.Goals as goal

pub loop-root-init : goal.loop-root-init
loop-root-init g c =
    first_root (g.B.Look.book c.args.book.now) c.args.sq c.parts.result (g.met.B.Look.is_book c.args.book.now) c.requires.known c.requires.low c.parts.ensures

pub inner-requires-clause-known : goal.inner-requires-clause-known
inner-requires-clause-known g c = quarters_known (g.B.Look.book c.args.book.now) _ c.loop-root.root.level c.loop-root.root.quarters c.loop-root.invariant.quarters

pub returns-in_default : goal.returns-in_default
returns-in_default g c =
    let book = g.B.Look.book c.args.book.now in
    let plane = centred c.args.sq.level (book.cells c.args.sq) in
    smallest_root book plane c.loop-root.root c.loop-root.invariant (λ _ held. c.in_default.ensures.none plane c.loop-root.invariant held)

pub returns : goal.returns
returns g c =
    let book = g.B.Look.book c.args.book.now in
    smallest_root book (centred c.args.sq.level (book.cells c.args.sq)) c.loop-root.root c.loop-root.invariant (λ above _. absurd (omega (arith, above, c.loop-root-test.false)))
