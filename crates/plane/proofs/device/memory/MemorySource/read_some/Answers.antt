use Rattle.std.proofs.Common.{◌∙◌, ap, drop, arith, length-drop}
use Rattle.std.proofs.lemmas.List.{take_all}
use Rattle.plane.proofs.Reading.{given_front, read_front}
use Rattle.plane.proofs.device.memory.MemorySource.read_some.Goals as goal

pub returns-clause-bytes : goal.returns-clause-bytes
returns-clause-bytes c = rw (← c.self.view_is) (read_front _ _ _ _ _ _
    (take_all _ _ (omega (arith, length-drop c.self.inside.position c.deref.result.now)) ∙ ap (drop c.self.inside.position) c.deref.ensures.value)
    c.copy_front-count.ensures.count c.copy_front-count.ensures.copied)

pub returns-clause-given : goal.returns-clause-given
returns-clause-given c = rw (← c.self.view_is) (given_front _ _ _ _ _ _
    (take_all _ _ (omega (arith, length-drop c.self.inside.position c.deref.result.now)) ∙ ap (drop c.self.inside.position) c.deref.ensures.value)
    c.copy_front-count.ensures.count c.copy_front-count.ensures.copied)
