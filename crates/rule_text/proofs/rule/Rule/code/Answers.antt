use Rattle.std.proofs.Common.{◌≡◌, ◌+◌, ◌*◌, ◌%◌, sym, ◌∙◌, ap, arith}
use Rattle.rule_text.specs.RuleCode.{code_of}
use Rattle.rule_text.proofs.Codes.{bits, number-small, shifted_bits}
use Rattle.rule_text.proofs.rule.Rule.code.Goals as goal

pub returns-clause-code : goal.returns-clause-code
returns-clause-code c =
    let birth : c.bits.result ≡ bits c.self.inside.birth = c.bits.ensures.sum ∙ ap bits (sym c.self.invariant.birth_rises) in
    let survival : c.bits-2.result ≡ bits c.self.inside.survival = c.bits-2.ensures.sum ∙ ap bits (sym c.self.invariant.survival_rises) in
    let up = shifted_bits c.self.inside.survival in
    let small = number-small c.self.inside.neighbourhood in
    let code : c.bits.result + c.bits-2.result * 512 % 4294967296 + c.number.result * 262144 % 4294967296 ≡ code_of (record { neighbourhood = c.self.inside.neighbourhood; birth = c.self.inside.birth; survival = c.self.inside.survival }) = omega arith in
    code ∙ ap code_of c.self.view_is
