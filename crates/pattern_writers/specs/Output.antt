-- What a writer hands to a sink, and what it refuses.
use Rattle.std.specs.Prelude.{◌≡◌, ℕ, List, ◌++◌, Option, Some, ◌⊎◌}
use Rattle.std.specs.Io.KnownBytes.{Appends}
use Rattle.plane.specs.Device.{IsWriteRefusal}
use Rattle.plane.specs.declared.refusal.Refusal.{Refusal}
use Rattle.plane.specs.declared.refusal.Refusal.TheVariants.{BoxTooLarge, NoMemory}

-- the text comes after the bytes that waited: the sink took the first of them all, and the others
-- wait now
pub record AppendsBuffered (old : Option (List ℕ)) (old_block : List ℕ) (new : Option (List ℕ))
    (new_block text : List ℕ) : Type 0 where
  pub out : List ℕ
  pub taken : Appends old new out
  pub waiting : old_block ++ text ≡ out ++ new_block

-- where the sink tells its bytes, this holds of the text that it took after what it had
abbrev pub IfTaken : Option (List ℕ) → Option (List ℕ) → (List ℕ → Type 0) → Type 0
IfTaken before after Holds =
    (old text : List ℕ) → before ≡ Some old → after ≡ Some (old ++ text) → Holds text

-- a refusal before the first byte, as the pattern is too large or memory ran out, or one of the
-- sink, when the pattern's text was begun
abbrev pub IsWriterRefusal : {V : Type 0} → (V → ℕ) → V → V → Type 0 → Type 0 → Refusal → Type 0
IsWriterRefusal failure_count old new TooLarge Begins refusal =
    ((refusal ≡ BoxTooLarge) × TooLarge × (new ≡ old))
    ⊎ ((refusal ≡ NoMemory) × (new ≡ old))
    ⊎ (IsWriteRefusal (failure_count old) (failure_count new) refusal × Begins)
