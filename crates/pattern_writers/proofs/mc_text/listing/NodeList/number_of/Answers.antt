use Rattle.std.proofs.Common.{sym, ◌∙◌}
use Rattle.std.proofs.lemmas.Bool.{false≢true}
use Rattle.pattern_writers.proofs.ListedQuarters.{number_noted}
use Rattle.pattern_writers.proofs.mc_text.listing.NodeList.number_of.Goals as goal

pub returns : goal.returns
returns c = c.copied.ensures ∙ c.get.ensures.value ∙ sym (number_noted c.args.self.now c.args.sq (λ zero. false≢true (sym c.if-is_empty.false ∙ c.is_empty.ensures.1 zero)))
