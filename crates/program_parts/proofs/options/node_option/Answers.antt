use Rattle.std.proofs.Common.{rules, ◌≡◌, ◌∷◌, ℕ, List, [], codes, decimal, refl, subst}
use Rattle.std.specs.Fmt.{digits}
use Rattle.program_parts.specs.OptionRules.{HasRule, node_option}
use Rattle.table_core.specs.declared.shape.TheConstants.{DEFAULT_PAIR_COUNT}
use Rattle.program_parts.proofs.options.node_option.Goals as goal

-- the text that the option has by default is that number in decimal digits
default_text : codes "4194304" ≡ decimal DEFAULT_PAIR_COUNT
unfolding digits
default_text = refl

pub returns : goal.returns
returns c =
    subst (λ (text : List ℕ). HasRule c.default_value.result (record node_option { defaults = text ∷ [] })) default_text (search rules)
