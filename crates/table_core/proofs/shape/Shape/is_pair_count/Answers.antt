use Rattle.std.proofs.Common.{◌≡◌, ◌≤◌, ◌<◌, ℕ, ◌*◌, ◌%◌, ◌^◌, ap, arith, ⊎_elim}
use Rattle.std.specs.Prelude.{◌==◌}
use Rattle.std.proofs.lemmas.Bool.{false≢true}
use Rattle.std.proofs.Math.Pow.{pow_mono}
use Rattle.table_core.proofs.Powers.{is_count, no_count_below, no_count_above}
use Rattle.table_core.proofs.shape.Shape.is_pair_count.Goals as goal

pub returns-then-pairs-lt-SMALLEST_PAIR_COUNT : goal.returns-then-pairs-lt-SMALLEST_PAIR_COUNT
returns-then-pairs-lt-SMALLEST_PAIR_COUNT c = (
  λ t. absurd (false≢true t),
  λ h. absurd (⊎_elim (λ less. no_count_below c.args.pairs less h) (λ more. no_count_above c.args.pairs more.1 h) c.then-pairs-lt-SMALLEST_PAIR_COUNT.either),
)

shifted : (r : ℕ) → r < 32 → 1 * 2 ^ r % 4294967296 ≡ 2 ^ r
shifted r h = let low : 2 ^ r ≤ 2 ^ 31 = pow_mono {i = r} {j = 31} (omega arith) in omega (arith, low)

pub returns : goal.returns
returns c = is_count c.ilog2.result c.args.pairs _ c.ilog2.ensures.power_le c.ilog2.ensures.next_power_gt c.if-pairs-lt-SMALLEST_PAIR_COUNT.false c.if-pairs-gt-LARGEST_PAIR_COUNT.false
    (ap (λ n. c.args.pairs == n) (shifted c.ilog2.result c.ilog2.ensures.bound))
