-- What a call does to a source.
use Rattle.std.specs.Prelude.{◌≡◌, ℕ, ◌⊎◌, List, Option, Result, Err, IfSome}
use Rattle.std.specs.Io.KnownBytes.{Appends}
use Rattle.plane.specs.Device.{HasFailed}
use Rattle.plane.specs.Fault.{placeless}
use Rattle.plane.specs.declared.fault.Fault.{Fault}
use Rattle.plane.specs.declared.refusal.Refusal.{Refusal}
use Rattle.plane.specs.declared.refusal.Refusal.TheVariants.{NoMemory, ReadFailed}

-- a source before and after a call, what it had left and what it had given until then, where that
-- is known, whether it had ended, and how often it had failed
pub record SourceChange (S : Type 0) : Type 1 where
  pub old : S
  pub new : S
  pub remaining : S → Option (List ℕ)
  pub given : S → Option (List ℕ)
  pub has_ended : S → Type 0
  pub failure_count : S → ℕ

-- that of a source which was so before and is so after
abbrev pub reading_of : {S : Type 0} → (S → Option (List ℕ)) → (S → Option (List ℕ)) →
    (S → Type 0) → (S → ℕ) → S → S → SourceChange S
reading_of remaining given has_ended failure_count old new =
    record {
      old = old;
      new = new;
      remaining = remaining;
      given = given;
      has_ended = has_ended;
      failure_count = failure_count;
    }

-- the bytes are all that the source had left, where it tells that
abbrev pub IsWholeInput : Option (List ℕ) → List ℕ → Type 0
IsWholeInput remaining bytes = IfSome remaining (λ left. bytes ≡ left)

-- these are all bytes that the source gave, up to its end, and it did not fail
pub record GivesAll {S : Type 0} (source : SourceChange S) (bytes : List ℕ) : Type 0 where
  pub whole : IsWholeInput (source.remaining source.old) bytes
  pub given : Appends (source.given source.old) (source.given source.new) bytes
  pub end : source.has_ended source.new
  pub unfailed : source.failure_count source.new ≡ source.failure_count source.old

-- memory ran out, and the source did not fail between the two counts; or it failed
abbrev pub IsReadRefusal : ℕ → ℕ → Refusal → Type 0
IsReadRefusal before after refusal =
    ((refusal ≡ NoMemory) × (after ≡ before)) ⊎ ((refusal ≡ ReadFailed) × HasFailed before after)

-- the source could not be read to its end
abbrev pub IsUnread : {S : Type 0} → SourceChange S → Refusal → Type 0
IsUnread source refusal =
    IsReadRefusal (source.failure_count source.old) (source.failure_count source.new) refusal

-- all bytes of the source were read, and this was done with them; or they could not be read, which
-- is the answer, and all else is unchanged
abbrev pub IsDoneWithAll : {S T : Type 0} → SourceChange S → (List ℕ → Type 0) → Result T Fault →
    Type 0 → Type 0
IsDoneWithAll source IsDone result unchanged =
    ((bytes : List ℕ) × GivesAll source bytes × IsDone bytes)
    ⊎ ((refusal : Refusal) × IsUnread source refusal × (result ≡ Err (placeless refusal))
    × unchanged)
