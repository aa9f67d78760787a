-- What was told to a sink, and the beginnings of it that one took which failed.
use Rattle.std.proofs.Common.{◌≡◌, ℕ, List, [], ◌++◌, Option, Result, Ok, Err, codes, inl, inr, subst, ◌∙◌}
use Rattle.std.specs.Prelude.{OnErr, OnOk}
use Rattle.std.specs.Io.KnownBytes.{Appends}
use Rattle.std.proofs.KnownBytes.{Appends-trans}
use Rattle.plane.specs.Device.{AppendsBeginning, HasFailed, TellsFailure}
use Rattle.plane.specs.SinkChange.{SinkChange, Fails}
use Rattle.plane.specs.declared.refusal.Refusal.{Refusal}
use Rattle.plane.proofs.Beginnings.{beginning_of_more, text_and_beginning}
use Rattle.program_parts.specs.Messages.{IsTold}
use Rattle.program_parts.proofs.OneLine.{IsOneLine, none_in, one_more}

-- what holds anyhow holds of an error
pub on_err_anyhow : {T E : Type 0} {P : Type 0} (made : Result T E) → P → OnErr made P
on_err_anyhow (Ok value) holds = tt
on_err_anyhow (Err error) holds = holds

module _ {E : Type 0} (messages : SinkChange E) (mid : E) (first : List ℕ) (took : Appends (messages.taken messages.old) (messages.taken mid) first)
    (same : messages.failure_count mid ≡ messages.failure_count messages.old) where
  -- behind a text that the sink took it failed
  pub failed_behind : HasFailed (messages.failure_count mid) (messages.failure_count messages.new) → Fails messages
  failed_behind failed = subst (λ count. HasFailed count (messages.failure_count messages.new)) same failed

  -- behind a text that the sink took, a call that writes another tells both
  pub told_behind : {T : Type 0} (text : List ℕ) (made : Result T Refusal) → OnOk made (Appends (messages.taken mid) (messages.taken messages.new) text) →
      OnErr made (AppendsBeginning (messages.taken mid) (messages.taken messages.new) text) →
      TellsFailure (messages.failure_count mid) (messages.failure_count messages.new) made → IsTold messages (first ++ text)
  told_behind text (Ok value) written begun failure = inl (Appends-trans _ _ _ first text took written, failure.unfailed ∙ same)
  told_behind text (Err refusal) written begun failure = inr (text_and_beginning first took begun, failed_behind failure.refused.1)

-- a sink took the beginning of some one line
abbrev pub TakesLineBeginning : Option (List ℕ) → Option (List ℕ) → Type 0
TakesLineBeginning old new = (why : List ℕ) × IsOneLine why × AppendsBeginning old new why

-- behind one line it took the beginning of a mark
pub mark_begun : {old mid new : Option (List ℕ)} (before mark : List ℕ) → IsOneLine before → IsOneLine mark → Appends old mid before →
    AppendsBeginning mid new mark → TakesLineBeginning old new
mark_begun before mark one between took begun = (before ++ (mark ++ []), one_more before mark [] one between none_in, text_and_beginning before took (beginning_of_more [] begun))

-- or a mark and the beginning of another line
pub line_begun : {old new : Option (List ℕ)} (mid last : Option (List ℕ)) (before mark line : List ℕ) → IsOneLine before → IsOneLine mark → IsOneLine line →
    Appends old mid before → Appends mid last mark → AppendsBeginning last new line → TakesLineBeginning old new
line_begun mid last before mark line one between whole took marked begun =
    (before ++ (mark ++ line), one_more before mark line one between whole, text_and_beginning before took (text_and_beginning mark marked begun))
