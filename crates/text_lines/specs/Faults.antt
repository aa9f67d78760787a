-- Faults at places, and steps that may fail.
use Rattle.std.specs.Prelude.{ℕ, Option, None, Some, Result, Ok, Err}
use Rattle.std.specs.Result.{result_map_both}
use Rattle.plane.specs.declared.fault.Fault.{Fault}
use Rattle.plane.specs.declared.refusal.Refusal.{Refusal}

-- a refusal at a place
abbrev pub fault_at : Refusal → ℕ → Fault
fault_at refusal place = record { refusal = refusal; place = Some place }

-- what was found at a place
abbrev pub at_place : {A : Type 0} → ℕ → Result A Refusal → Result A Fault
at_place place found = result_map_both (λ value. value) (λ refusal. fault_at refusal place) found

-- the value, unless there is a fault
abbrev pub unless : {A : Type 0} → Option Fault → A → Result A Fault
unless None value = Ok value
unless (Some fault) value = Err fault

infixl 10 ◌>>=◌
-- the second step, at what the first one gave, unless that failed
abbrev pub ◌>>=◌ : {A B : Type 0} → Result A Fault → (A → Result B Fault) → Result B Fault
(Ok value) >>= next = next value
(Err fault) >>= next = Err fault
