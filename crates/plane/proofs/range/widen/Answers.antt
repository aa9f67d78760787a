use Rattle.std.proofs.Common.{rules, w64, SFits}
use Rattle.std.proofs.lemmas.Int.{to_z-of_z}
use Rattle.plane.proofs.range.widen.Goals as goal

pub returns-in_err-before-2 : goal.returns-in_err-before-2
returns-in_err-before-2 c =
    let f : SFits w64 c.args.bounds.top = search rules in
    let a = simp to_z-of_z at c.in_err-before-2.ensures in
    rw c.from_residual-in_err-before-2.ensures (λ h. a h.top)

pub returns-in_err-behind : goal.returns-in_err-behind
returns-in_err-behind c =
    let f : SFits w64 c.args.bounds.right = search rules in
    let a = simp to_z-of_z at c.in_err-behind.ensures in
    rw c.from_residual-in_err-behind.ensures (λ h. a h.right)

pub returns-in_err-behind-2 : goal.returns-in_err-behind-2
returns-in_err-behind-2 c =
    let f : SFits w64 c.args.bounds.bottom = search rules in
    let a = simp to_z-of_z at c.in_err-behind-2.ensures in
    rw c.from_residual-in_err-behind-2.ensures (λ h. a h.bottom)

pub returns : goal.returns
returns c =
    let fl : SFits w64 c.args.bounds.left = search rules in
    let ft : SFits w64 c.args.bounds.top = search rules in
    let fr : SFits w64 c.args.bounds.right = search rules in
    let fb : SFits w64 c.args.bounds.bottom = search rules in
    let gl : SFits w64 c.in_ok-before.field-0 = search rules in
    let gt : SFits w64 c.in_ok-before-2.field-0 = search rules in
    let gr : SFits w64 c.in_ok-behind.field-0 = search rules in
    let gb : SFits w64 c.in_ok-behind-2.field-0 = search rules in
    let a = simp to_z-of_z at c.in_ok-before.ensures in
    let b = simp to_z-of_z at c.in_ok-before-2.ensures in
    let d = simp to_z-of_z at c.in_ok-behind.ensures in
    let e = simp to_z-of_z at c.in_ok-behind-2.ensures in
    (record { left = a.0; top = b.0; right = d.0; bottom = e.0 }, simp to_z-of_z (cc (a.1, b.1, d.1, e.1)))
