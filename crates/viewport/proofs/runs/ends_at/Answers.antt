use Rattle.std.proofs.Common.{◌≡◌, ℤ, Bool, Option, Some, rules, arith, w64, SFits}
use Rattle.std.specs.Prelude.{◌↔◌, IsTrue}
use Rattle.std.specs.Option.{SomeIff, option_eq}
use Rattle.std.specs.Ordering.{int_eq}
use Rattle.std.proofs.lemmas.Grind.{common_steps}
use Rattle.std.proofs.lemmas.Int.{to_z-of_z}
use Rattle.viewport.specs.RowRuns.{end_of}
use Rattle.viewport.proofs.runs.ends_at.Goals as goal

found_end : (sum : Option ℤ) (end first : ℤ) (same : Bool) → SomeIff sum (SFits w64 end) end → SFits w64 first → same ≡ option_eq int_eq sum (Some first) → IsTrue same ↔ (end ≡ first)
found_end sum end first same is fits e = grind (arith, common_steps)

pub returns : goal.returns
returns c =
    let start : SFits w64 c.args.run.0 = search rules in
    let first : SFits w64 c.args.first = c.ranges.first in
    found_end c.checked_add_unsigned.result (end_of c.args.run) c.args.first c.eq.result (simp to_z-of_z at c.checked_add_unsigned.ensures) first (simp to_z-of_z at c.eq.ensures)
