use Rattle.std.proofs.Common.{◌≡◌, ◌++◌, take, rules, sym, ◌∙◌, subst}
use Rattle.std.specs.Io.KnownBytes.{Appends, Consumes}
use Rattle.std.proofs.KnownBytes.{Appends-trans, Consumes-trans}
use Rattle.engine.proofs.input.load.Goals as goal

pub reading-preserved : goal.reading-preserved
reading-preserved g c =
    let chunk = take c.in-Ok.count c.read_some.new.buffer in
    let longer : c.extend_from_slice.new.self.items ≡ c.reading.bytes.items ++ chunk = search rules in (
      subst (λ items. Consumes (g.R.Source.remaining c.args.source.now) (g.R.Source.remaining c.read_some.new.self) items) (sym longer)
          (Consumes-trans _ _ _ c.reading.bytes.items chunk c.reading.invariant.0 c.in-Ok.ensures.bytes.0),
      subst (λ items. Appends (g.R.Source.given c.args.source.now) (g.R.Source.given c.read_some.new.self) items) (sym longer)
          (Appends-trans _ _ _ c.reading.bytes.items chunk c.reading.invariant.1 c.in-Ok.ensures.given),
      c.in-Ok.ensures.failures ∙ c.reading.invariant.2,
    )
