-- What an exit status says of how a program ended.
use Rattle.std.proofs.Common.{◌≡◌, ◌≤◌, ◌⊎◌, ℕ, List, Result, Ok, Err, IfErr, OnOk, refl, ap, ⊎_elim, inl, inr, arith}
use Rattle.plane.specs.Fault.{placeless}
use Rattle.plane.specs.SinkChange.{SinkChange}
use Rattle.plane.specs.declared.fault.Fault.{Fault}
use Rattle.plane.specs.declared.refusal.Refusal.{Refusal}
use Rattle.plane.specs.declared.refusal.Refusal.TheVariants.{ReadFailed, WriteFailed}
use Rattle.program_parts.specs.Messages.{HasTold, HasToldEnd, refused_status, status_of}
use Rattle.program_parts.specs.declared.stops.Stop.{Stop}
use Rattle.program_parts.specs.declared.stops.Stop.TheVariants.{BadWords, Refused}
use Rattle.program_parts.specs.declared.reason.WordsReason.{WordsReason}

refused_is_1_or_3 : (refusal : Refusal) → (refused_status refusal ≡ 1) ⊎ (refused_status refusal ≡ 3)
refused_is_1_or_3 ReadFailed = inr refl
refused_is_1_or_3 WriteFailed = inr refl
refused_is_1_or_3 _ = inl refl

module _ {T : Type 0} where
  pub status_most : (ended : Result T Stop) → status_of ended ≤ 3
  status_most (Ok value) = omega arith
  status_most (Err (BadWords reason)) = omega arith
  status_most (Err (Refused fault)) = ⊎_elim (λ one. omega (arith, one)) (λ three. omega (arith, three)) (refused_is_1_or_3 fault.refusal)

  -- at 0 it did what it was asked for
  pub done_at_0 : (ended : Result T Stop) → status_of ended ≡ 0 → (value : T) × (ended ≡ Ok value)
  done_at_0 (Ok value) is = (value, refl)
  done_at_0 (Err (BadWords reason)) is = absurd (omega (arith, is))
  done_at_0 (Err (Refused fault)) is = absurd (⊎_elim (λ one. omega (arith, one, is)) (λ three. omega (arith, three, is)) (refused_is_1_or_3 fault.refusal))

  -- at 2 its words were bad
  pub bad_words_at_2 : (ended : Result T Stop) → status_of ended ≡ 2 → (reason : WordsReason) × (ended ≡ Err (BadWords reason))
  bad_words_at_2 (Ok value) is = absurd (omega (arith, is))
  bad_words_at_2 (Err (BadWords reason)) is = (reason, refl)
  bad_words_at_2 (Err (Refused fault)) is = absurd (⊎_elim (λ one. omega (arith, one, is)) (λ three. omega (arith, three, is)) (refused_is_1_or_3 fault.refusal))

  -- at 1 and at 3 it was refused
  pub refused_at_1_or_3 : (ended : Result T Stop) → (status_of ended ≡ 1) ⊎ (status_of ended ≡ 3) → (fault : Fault) × (ended ≡ Err (Refused fault))
  refused_at_1_or_3 (Ok value) is = absurd (⊎_elim (λ one. omega (arith, one)) (λ three. omega (arith, three)) is)
  refused_at_1_or_3 (Err (BadWords reason)) is = absurd (⊎_elim (λ one. omega (arith, one)) (λ three. omega (arith, three)) is)
  refused_at_1_or_3 (Err (Refused fault)) is = (fault, refl)

  -- below 3 no device failed
  pub unfailed_below_3 : (ended : Result T Stop) {P : Type 0} → (ended ≡ Err (Refused (placeless WriteFailed))) ⊎ P → status_of ended ≤ 2 → P
  unfailed_below_3 ended (inl failed) most = let is : status_of ended ≡ 3 = ap status_of failed in absurd (omega (arith, is, most))
  unfailed_below_3 ended (inr unfailed) most = unfailed

-- what was told of an ending, from what was told where it was well and where not
pub told_end : {E : Type 0} (program : List ℕ) (ended : Result Unit Stop) (messages : SinkChange E) → OnOk ended (messages.new ≡ messages.old) →
    IfErr ended (λ stop. HasTold program stop messages) → HasToldEnd program ended messages
told_end program (Ok done) messages well told = well
told_end program (Err stop) messages well told = told
