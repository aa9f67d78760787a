-- Why a text is not a rule, in words.
use Rattle.std.specs.Prelude.{ℕ, List, codes}
use Rattle.rule_text.specs.declared.fault.RuleFault.{RuleFault}
use Rattle.rule_text.specs.declared.fault.RuleFault.TheVariants.{BadRule, BirthOnZero}

-- a fault as messages show it
abbrev pub rule_fault_text : RuleFault → List ℕ
rule_fault_text BadRule = codes "not a rule"
rule_fault_text BirthOnZero = codes "birth on zero neighbours"
