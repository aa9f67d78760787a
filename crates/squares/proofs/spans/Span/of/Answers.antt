use Rattle.std.proofs.Common.{◌≡◌, ◌+◌, ◌+ℤ◌, pos, rules}
use Rattle.std.specs.Prelude.{unsigned_abs}
use Rattle.squares.proofs.spans.Span.of.Goals as goal

pub returns : goal.returns
returns c =
    let row : c.distance.result ≡ unsigned_abs (c.args.run.0.y +ℤ pos c.args.half) = search rules in
    let first : c.distance-first.result ≡ unsigned_abs (c.args.run.0.x +ℤ pos c.args.half) = search rules in
    λ i. record { row = row i; first = first i; end = first i + c.args.run.1 }
