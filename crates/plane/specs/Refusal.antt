use Rattle.std.specs.Prelude.{ℕ, List, codes}
use Rattle.rule_text.specs.declared.fault.RuleFault.{RuleFault}
use Rattle.rule_text.specs.declared.fault.RuleFault.TheVariants as fault
use Rattle.plane.specs.declared.refusal.Refusal.{Refusal}
use Rattle.plane.specs.declared.refusal.Refusal.TheVariants.{NotAPattern, BadHeader, BadRule, BirthOnZero, BadTag, MoreStates, BadCount, OutOfRange, TooManyCells, BadNodeLine, BadChild, FramesNotRead, BadGen, TooFar, BoxTooLarge, WindowTooLarge, NodesFull, NoMemory, ReadFailed, WriteFailed}

-- the number of each reason
abbrev pub number_of : Refusal → ℕ
number_of NotAPattern = 1
number_of BadHeader = 2
number_of BadRule = 3
number_of BirthOnZero = 4
number_of BadTag = 5
number_of MoreStates = 6
number_of BadCount = 7
number_of OutOfRange = 8
number_of TooManyCells = 9
number_of BadNodeLine = 10
number_of BadChild = 11
number_of FramesNotRead = 12
number_of BadGen = 13
number_of TooFar = 14
number_of BoxTooLarge = 15
number_of WindowTooLarge = 16
number_of NodesFull = 17
number_of NoMemory = 18
number_of ReadFailed = 19
number_of WriteFailed = 20

-- the name of each reason, as messages show it
abbrev pub name_of : Refusal → List ℕ
name_of NotAPattern = codes "NotAPattern"
name_of BadHeader = codes "BadHeader"
name_of BadRule = codes "BadRule"
name_of BirthOnZero = codes "BirthOnZero"
name_of BadTag = codes "BadTag"
name_of MoreStates = codes "MoreStates"
name_of BadCount = codes "BadCount"
name_of OutOfRange = codes "OutOfRange"
name_of TooManyCells = codes "TooManyCells"
name_of BadNodeLine = codes "BadNodeLine"
name_of BadChild = codes "BadChild"
name_of FramesNotRead = codes "FramesNotRead"
name_of BadGen = codes "BadGen"
name_of TooFar = codes "TooFar"
name_of BoxTooLarge = codes "BoxTooLarge"
name_of WindowTooLarge = codes "WindowTooLarge"
name_of NodesFull = codes "NodesFull"
name_of NoMemory = codes "NoMemory"
name_of ReadFailed = codes "ReadFailed"
name_of WriteFailed = codes "WriteFailed"

-- the refusal of a rule's fault
abbrev pub rule_refusal : RuleFault → Refusal
rule_refusal fault.BadRule = BadRule
rule_refusal fault.BirthOnZero = BirthOnZero
