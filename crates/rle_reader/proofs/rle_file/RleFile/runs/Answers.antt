use Rattle.std.proofs.Common.{ap, subst, ◌∙◌}
use Rattle.std.specs.List.{AllByRecursion}
use Rattle.rle_reader.specs.Body.{stripped}
use Rattle.rle_reader.specs.Items.{items_of}
use Rattle.rle_reader.specs.Meaning.{Meaning, StayInRange, meaning_of}
use Rattle.text_lines.specs.Lines.{lines_from}
use Rattle.rle_reader.specs.State.{start_at}
use Rattle.rle_reader.proofs.FitLemmas.{runs_kept-accepted, stay-accepted}
use Rattle.rle_reader.proofs.RunLists.{IsCounted, runs_counted}
use Rattle.rle_reader.proofs.rle_file.RleFile.runs.Goals as goal

pub returns-clause-value : goal.returns-clause-value
returns-clause-value c =
    c.new.ensures
    ∙ runs_kept-accepted c.self.inside.source.now c.self.inside.preamble c.self.invariant.1 c.self.invariant.2
    ∙ ap (λ (m : Meaning). m.runs) c.self.view_is

pub returns-clause-in_range : goal.returns-clause-in_range
returns-clause-in_range c =
    subst (λ (m : Meaning). StayInRange m.pos.x (start_at m.pos) m.runs) c.self.view_is
    (stay-accepted c.self.inside.source.now c.self.inside.preamble c.self.invariant.2)

pub returns-clause-counted : goal.returns-clause-counted
unfolding meaning_of
returns-clause-counted c =
    subst (λ (m : Meaning). AllByRecursion IsCounted m.runs) c.self.view_is
    (runs_counted c.self.inside.source.now (items_of (stripped (lines_from c.self.inside.source.now c.self.inside.preamble.body))).items)
