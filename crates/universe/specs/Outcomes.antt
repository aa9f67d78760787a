-- What comes of calls that may lack memory or room.
use Rattle.std.specs.Prelude.{◌≡◌, ◌⊎◌, IfNone, IfOk, IfSome, Option, Result}
use Rattle.plane.specs.declared.refusal.Refusal.{Refusal}
use Rattle.plane.specs.declared.refusal.Refusal.TheVariants.{NodesFull, NoMemory}

-- what holds of what was made, if something was
abbrev pub IfMade : {T E : Type 0} → Result (Option T) E → (T → Type 0) → Type 0
IfMade result P = IfOk result (λ made. IfSome made P)

-- what holds if there was memory, but no room
abbrev pub IfNoRoom : {T E : Type 0} → Result (Option T) E → Type 0 → Type 0
IfNoRoom result P = IfOk result (λ made. IfNone made P)

-- what holds if a table is full
abbrev pub WhereFull : Type 0 → Refusal → Type 0
WhereFull P refusal = refusal ≡ NodesFull → P

-- memory ran out, or a table is full
abbrev pub LacksMemoryOrRoom : Refusal → Type 0
LacksMemoryOrRoom refusal = (refusal ≡ NoMemory) ⊎ (refusal ≡ NodesFull)
