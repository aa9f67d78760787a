-- Refusals with their places.
use Rattle.std.specs.Prelude.{ℕ, Option, None, Some, List, [], ◌++◌, codes, decimal}
use Rattle.plane.specs.declared.fault.Fault.{Fault}
use Rattle.plane.specs.declared.refusal.Refusal.{Refusal}
use Rattle.plane.specs.Refusal.{name_of, number_of}

-- a refusal that no line or item of a file is to blame for
abbrev pub placeless : Refusal → Fault
placeless refusal = record { refusal = refusal; place = None }

-- the words that say a place, if there is one
abbrev pub place_text : Option ℕ → List ℕ
place_text None = []
place_text (Some place) = codes " at " ++ decimal place

-- a fault as messages show it: its number, its place and its name
abbrev pub fault_text : Fault → List ℕ
fault_text fault =
    codes "refused " ++ decimal (number_of fault.refusal) ++ place_text fault.place ++ codes ": "
    ++ name_of fault.refusal
