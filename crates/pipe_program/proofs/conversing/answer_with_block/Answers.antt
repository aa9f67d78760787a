use Rattle.std.proofs.Common.{Option, sym, subst}
use Rattle.engine.specs.declared.session.Session.{Session}
use Rattle.pipe_program.specs.States.{IsWithin}
use Rattle.pipe_program.proofs.conversing.answer_with_block.Goals.{in-Whole, in-Lost, in-Cut}
use Rattle.pipe_program.proofs.conversing.answer_with_block.Goals as goal

pub returns-clause-within : goal.returns-clause-within
returns-clause-within g c =
    elim c.match-block.branch [
      | in-Whole w ↦ subst (λ (session : Option Session). IsWithin c.args.pairs session) (sym w.pattern-is) w.answer_request.ensures.within
      | in-Lost w ↦ subst (λ (session : Option Session). IsWithin c.args.pairs session) (sym w.pattern-is)
          (w.answer_lost.ensures.within c.args.pairs c.requires.within)
      | in-Cut w ↦ subst (λ (session : Option Session). IsWithin c.args.pairs session) (sym w.pattern-is) c.requires.within
    ]
