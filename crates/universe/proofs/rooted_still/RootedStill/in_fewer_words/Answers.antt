use Rattle.std.proofs.Common.{◌≡◌, ◌≤◌, ◌<◌, ◌^◌, ℕ, ap, sym, subst, arith}
use Rattle.std.specs.Prelude.{Option, IfSome}
use Rattle.std.proofs.Math.Pow.{pow_mono}
use Rattle.node_table.specs.Stills.{key_of}
use Rattle.table_core.specs.declared.key.Key.{Key}
use Rattle.universe.specs.Cells.{still_of}
use Rattle.universe.specs.declared.rooted_still.RootedStill.{RootedStill}
use Rattle.universe.specs.Stills.{IsCopied, IsSweptFrom}
use Rattle.universe.proofs.Copying.{swept_is}
use Rattle.universe.proofs.rooted_still.RootedStill.in_fewer_words.Goals as goal

pub returns-in-Some : goal.returns-in-Some
returns-in-Some c =
    let old = c.args.self.now in
    let pairs = 2 ^ c.sizes.shape.bits in
    let swept = subst (λ (o : Option RootedStill). IfSome o (IsSweptFrom old pairs)) c.in-Some.is c.in_ok-fresh.ensures.ok in
    let is : IsCopied old pairs c.in-Some.fresh = swept_is old c.in-Some.fresh pairs swept in
    let own : c.key.result.now.shape.bits ≡ (key_of (still_of old)).shape.bits = ap (λ (k : Key). k.shape.bits) c.key.ensures in
    let less : c.sizes.shape.bits < c.key.result.now.shape.bits = c.sizes-test.true in
    let within : c.sizes.shape.bits ≤ (key_of (still_of old)).shape.bits = omega (arith, own, less) in
    record {
      cells = is.cells;
      rule = is.resized.rule;
      pairs = subst (λ (n : ℕ). n ≤ 2 ^ (key_of (still_of old)).shape.bits) (sym is.resized.pair_count) (pow_mono within);
    }
