use Rattle.std.proofs.Common.{◌∙◌, ap, unwrap_or, length}
use Rattle.std.proofs.Common.{ℕ, Option}
use Rattle.macrocell_reader.proofs.InnerLemmas.{place_or_end}
use Rattle.macrocell_reader.proofs.inner.field_length.Goals as goal

pub returns : goal.returns
returns c =
    c.unwrap_or.ensures
    ∙ ap (λ (o : Option ℕ). unwrap_or o (length c.args.text.now)) c.first_blank.ensures
    ∙ place_or_end c.args.text.now
