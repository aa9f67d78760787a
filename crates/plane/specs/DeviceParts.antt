use Rattle.std.specs.Prelude.{◌≡◌, ◌≢◌, ℕ, ◌-◌, Bool, IsErr, IsTrue, List, Result}
use Rattle.plane.specs.declared.device.counted.Counted.{Counted}
use Rattle.plane.specs.declared.device.fail_at.FailAt.{FailAt}
use Rattle.plane.specs.declared.device.traits.Failed.{Failed}
use Rattle.plane.specs.Device.{failures_after}

-- the reader or the writer
abbrev pub counted_inner : {T : Type 0} → Counted T → T
counted_inner device = device.inner

-- the bytes that it has given since it was made
abbrev pub counted_given : {T : Type 0} → Counted T → List ℕ
counted_given device = device.given.bytes

-- the bytes that it has taken since it was made
abbrev pub counted_taken : {T : Type 0} → Counted T → List ℕ
counted_taken device = device.taken.bytes

-- whether the last read that did not fail had room and gave no byte
abbrev pub counted_ended : {T : Type 0} → Counted T → Bool
counted_ended device = device.ended

-- the last read that did not fail had room and gave no byte
abbrev pub counted_has_ended : {T : Type 0} → Counted T → Type 0
counted_has_ended device = IsTrue (counted_ended device)

-- how many calls have failed
abbrev pub counted_failures : {T : Type 0} → Counted T → ℕ
counted_failures device = device.failures

-- what calls are passed on to
abbrev pub fail_at_inner : {T : Type 0} → FailAt T → T
fail_at_inner device = device.inner

-- the number of calls up to and with the one that fails, or 0 where none will
abbrev pub calls_until_failure : {T : Type 0} → FailAt T → ℕ
calls_until_failure device = device.calls_until_failure

-- how many calls have failed
abbrev pub fail_at_failures : {T : Type 0} → FailAt T → ℕ
fail_at_failures device = device.failures

-- a call was passed on, so that the device inside gave the answer and did what it may do; or it was
-- the one that fails, and the device inside is as it was
pub record PassesOn {T Answer : Type 0} (May : T → Result Answer Failed → T → Type 0)
    (old new : FailAt T) (answer : Result Answer Failed) : Type 0 where
  pub passes : calls_until_failure old ≢ 1 → May (fail_at_inner old) answer (fail_at_inner new)
  pub fails : calls_until_failure old ≡ 1 → IsErr answer × (fail_at_inner new ≡ fail_at_inner old)
  pub calls : calls_until_failure new ≡ calls_until_failure old - 1
  pub failures : fail_at_failures new ≡ failures_after answer (fail_at_failures old)
