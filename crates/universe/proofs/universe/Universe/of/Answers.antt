use Rattle.std.proofs.Common.{◌≡◌, ◌≤◌, ◌^◌, ◌∙◌, refl, ap, subst, arith, pow_mono, rules, inl}
use Rattle.std.specs.Prelude.{Option, IfSome, Result, Ok, Err, IfErr}
use Rattle.std.proofs.lemmas.Result.{IfOk-at_ok}
use Rattle.std.proofs.result.Match.{err_is}
use Rattle.plane.specs.declared.refusal.Refusal.{Refusal}
use Rattle.plane.specs.declared.refusal.Refusal.TheVariants.{NodesFull, NoMemory}
use Rattle.squares.specs.declared.sq.Sq.{Sq}
use Rattle.table_core.specs.declared.shape.Shape.{Shape}
use Rattle.universe.specs.Sums.{pair_sum}
use Rattle.universe.specs.Tables.{HasFullTable}
use Rattle.universe.specs.declared.tables.OpenTable.{OpenTable}
use Rattle.plane.proofs.SentErrors.{sent_on}
use Rattle.universe.proofs.universe.Universe.of.Goals as goal

pub invariant_of-result : goal.invariant_of-result
invariant_of-result g c =
    let low = pow_mono {i = c.sizes.shape.bits} {j = c.new-limit.result.bits} c.sizes.invariant in
    let none = ap pair_sum c.new-others.ensures.tables in
    let same = ap (λ (s : Shape). 2 ^ s.bits) c.new-others.ensures.limit in
    let made = subst (λ (o : Option (OpenTable × Sq)). IfSome o (λ value. c.of_source-made.result ≡ Ok value)) c.in-Some.is c.in_ok-here.ensures.some in
    let built = IfOk-at_ok _ made c.of_source-made.ensures.ok in
    let size = built.size in
    record { known = built.is_root.known; level = (built.is_root.smallest.least, built.level); within = omega (arith, low, none, same, size) }

pub returns-in_err-shape-clause-full : goal.returns-in_err-shape-clause-full
returns-in_err-shape-clause-full g c =
    let full : c.of_source-made.result ≡ Err NodesFull = search rules in
    let least : c.new-limit.result.bits ≤ c.sizes.shape.bits = search rules in
    let most = c.sizes.invariant in
    let bits : c.sizes.shape.bits ≡ c.new-limit.result.bits = omega (arith, most, least) in
    let is : c.from_residual-in_err-shape.result ≡ Err c.in_err-shape.field-0.0 = err_is _ _ c.from_residual-in_err-shape.ensures.1 in
    let table = subst (λ (r : Result (OpenTable × Sq) Refusal). IfErr r (λ refusal. refusal ≡ NodesFull → HasFullTable c.args.rule.now (2 ^ c.sizes.shape.bits))) full c.of_source-made.ensures.full refl in
    rw is (λ refusal. subst (HasFullTable c.args.rule.now) (ap (λ n. 2 ^ n) bits ∙ c.new-limit.ensures) table)

pub returns-in_err-here-clause-refusal : goal.returns-in_err-here-clause-refusal
returns-in_err-here-clause-refusal g c = sent_on _ c.from_residual.result NoMemory c.from_residual.ensures.1 (inl refl)
