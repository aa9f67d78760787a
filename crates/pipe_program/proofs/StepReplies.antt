-- What is read in one step of a dialogue, and what is replied to it.
use Rattle.std.proofs.Common.{◌≡◌, ◌≢◌, ◌⊎◌, ℕ, ◌<◌, ◌≤◌, Bool, Option, None, Some, is_some, Result, Ok, Err, OnOk, OnErr, IfOk, List, [], ◌∷◌, ◌++◌, length, append_assoc, refl, sym, subst, inl, inr}
use Rattle.plane.specs.Device.{HasFailed, TellsFailure}
use Rattle.plane.specs.SinkChange.{SinkChange, Takes, TakesBeginning}
use Rattle.plane.specs.SourceChange.{SourceChange, reading_of}
use Rattle.plane.specs.declared.refusal.Refusal.{Refusal}
use Rattle.pipe_lines.specs.Supply.{HasEnded, HasTaken, IsUnbroken}
use Rattle.pipe_lines.proofs.Takings.{ended_at_fill, taken_twice}
use Rattle.pipe_requests.specs.Blocks.{block_length}
use Rattle.pipe_requests.specs.Meaning.{IsBad, Means}
use Rattle.pipe_requests.specs.declared.bad.Bad.{Bad}
use Rattle.pipe_requests.specs.declared.bad.Bad.TheVariants as bad
use Rattle.pipe_requests.specs.declared.request.Request.{Request}
use Rattle.pipe_program.specs.Dialogue.{BeginsRequest, IsUnanswered, Turn}
use Rattle.pipe_program.specs.Replies.{Reply, reply_text}
use Rattle.pipe_program.specs.States.{State}
use Rattle.pipe_program.specs.Steps.{HasAnswer, HasCut, HasTurn, IsStep, IsUnread, reply_or_cut}
use Rattle.pipe_program.specs.declared.answering.Failure.TheVariants as failure

-- a request was read, and this is its reply; or the source has ended within it, and there is none
abbrev pub HasReply : {S : Type 0} → ℕ → SourceChange S → List ℕ → List ℕ → State → State → Option Reply → Type 0
HasReply pairs source before after old new (Some reply) = (turn : Turn) × HasTurn pairs source before after old new turn × (turn.reply ≡ reply)
HasReply pairs source before after old new None = (bytes : List ℕ) × HasCut pairs source before after old new bytes

-- ---- what was read

module _ {S : Type 0} (pairs : ℕ) {source : SourceChange S} {before after : List ℕ} (state : State) where
  -- a line that is too long or bad
  pub bad_turn : (line : List ℕ) (why : Bad) → HasTaken source before after (line ++ 10 ∷ []) → IsUnbroken line →
      ((255 < length line) × (why ≡ bad.Long)) ⊎ ((length line ≤ 255) × IsBad line why) →
      HasReply pairs source before after state state (Some (Err (failure.Bad why)))
  bad_turn line why taken unbroken is = (
    record { asked = line ++ 10 ∷ []; reply = Err (failure.Bad why); open_then = state },
    record {
      taken = taken;
      is = inl (why, record { line = line; unbroken = unbroken; is = refl; bad = is }, refl, refl);
      then = refl;
    },
    refl,
  )

  -- a line that the source does not end
  pub cut_line : (line : List ℕ) → HasTaken source before after line → IsUnbroken line → line ≢ [] → HasEnded source before after →
      HasReply pairs source before after state state None
  cut_line line taken unbroken some ended = (line, record { taken = taken; ended = ended; cut = inl (some, unbroken); same = refl })

-- a line with its LF, and its block
block_begins : (line : List ℕ) (request : Request) (block : List ℕ) → IsUnbroken line → length line ≤ 255 → Means line request →
    BeginsRequest ((line ++ 10 ∷ []) ++ block) request block
block_begins line request block unbroken short means = record {
  line = line;
  unbroken = unbroken;
  short = short;
  means = means;
  is = append_assoc line (10 ∷ []) block;
}

module _ {S : Type 0} {remaining given : S → Option (List ℕ)} {has_ended : S → Type 0} {failure_count : S → ℕ} where
  module _ (pairs : ℕ) {first mid : S} (last : S) {before between : List ℕ} (after : List ℕ) (old new : State) (line : List ℕ)
      (request : Request) where
    -- what was replied to a request behind its line is replied to both
    pub reply_with_block : (reply : Option Reply) → IsUnbroken line → length line ≤ 255 → Means line request →
        HasTaken (reading_of remaining given has_ended failure_count first mid) before between (line ++ 10 ∷ []) →
        HasAnswer pairs (reading_of remaining given has_ended failure_count mid last) between after old new request reply →
        HasReply pairs (reading_of remaining given has_ended failure_count first last) before after old new reply
    reply_with_block (Some reply) unbroken short means taken (block, rest, whole, answers) = (
      record { asked = (line ++ 10 ∷ []) ++ block; reply = reply; open_then = new },
      record {
        taken = taken_twice taken rest;
        is = inr (request, block, record { begins = block_begins line request block unbroken short means; whole = whole }, answers);
        then = refl;
      },
      refl,
    )
    reply_with_block None unbroken short means taken (bytes, rest, less, ended, same) = (
      (line ++ 10 ∷ []) ++ bytes,
      record {
        taken = taken_twice taken rest;
        ended = ended_at_fill ended;
        cut = inr (request, bytes, block_begins line request bytes unbroken short means, less);
        same = same;
      },
    )

    -- the source failed within the block
    pub unread_block : {W : Type 0} (out : SinkChange W) → IsUnbroken line → length line ≤ 255 → Means line request →
        HasTaken (reading_of remaining given has_ended failure_count first mid) before between (line ++ 10 ∷ []) →
        failure_count mid ≡ failure_count first →
        ((bytes : List ℕ) × HasTaken (reading_of remaining given has_ended failure_count mid last) between after bytes
        × (length bytes < block_length request) × (after ≡ [])) →
        HasFailed (failure_count mid) (failure_count last) → out.new ≡ out.old →
        (bytes : List ℕ) × IsUnread pairs (reading_of remaining given has_ended failure_count first last) before after old new out bytes
    unread_block out unbroken short means taken unfailed (bytes, rest, less, none) fails untouched = (
      (line ++ 10 ∷ []) ++ bytes,
      record {
        taken = taken_twice taken rest;
        none = none;
        unanswered = inr (inr (request, bytes, block_begins line request bytes unbroken short means, less));
        fails = subst (λ (count : ℕ). HasFailed count (failure_count last)) unfailed fails;
        untouched = untouched;
      },
    )

-- bytes without an LF are no bytes, or the beginning of a request
unbroken_unanswered : (bytes : List ℕ) → IsUnbroken bytes → IsUnanswered bytes
unbroken_unanswered [] unbroken = inl refl
unbroken_unanswered (byte ∷ bytes) unbroken = inr (inl ((λ none. absurd cc), unbroken))

module _ {S W : Type 0} (pairs : ℕ) {source : SourceChange S} {before after : List ℕ} (old new : State) (out : SinkChange W) where
  -- the source failed within a line
  pub unread_line : ((bytes : List ℕ) × HasTaken source before after bytes × IsUnbroken bytes × (after ≡ [])) →
      HasFailed (source.failure_count source.old) (source.failure_count source.new) → out.new ≡ out.old →
      (bytes : List ℕ) × IsUnread pairs source before after old new out bytes
  unread_line (bytes, taken, unbroken, none) fails untouched = (
    bytes,
    record {
      taken = taken;
      none = none;
      unanswered = unbroken_unanswered bytes unbroken;
      fails = fails;
      untouched = untouched;
    },
  )

-- ---- what was replied

module _ {S W : Type 0} (pairs : ℕ) (source : SourceChange S) (before after : List ℕ) (old new : State) (out : SinkChange W) where
  -- what was written of the reply, or that the input is cut, makes the step
  pub step_replied : (reply : Option Reply) (written : Result Bool Refusal) → HasReply pairs source before after old new reply →
      OnOk written (Takes out (reply_text (reply_or_cut reply))) → OnErr written (TakesBeginning out (reply_text (reply_or_cut reply))) →
      TellsFailure (out.failure_count out.old) (out.failure_count out.new) written → IfOk written (λ more. more ≡ is_some reply) →
      IsStep pairs source before after old new out written
  step_replied (Some reply) (Ok more) (turn, has, is) takes begun tells some =
      subst (λ (b : Bool). IsStep pairs source before after old new out (Ok b)) (sym some)
      ((turn, has, subst (λ (said : Reply). Takes out (reply_text said)) (sym is) takes), tells.unfailed)
  step_replied (Some reply) (Err refusal) (turn, has, is) takes begun tells some =
      inr (tells.refused.0, inl (turn, has, subst (λ (said : Reply). TakesBeginning out (reply_text said)) (sym is) begun), tells.refused.1)
  step_replied None (Ok more) (bytes, has) takes begun tells some =
      subst (λ (b : Bool). IsStep pairs source before after old new out (Ok b)) (sym some)
      (inr (inl ((bytes, has, takes), tells.unfailed)))
  step_replied None (Err refusal) (bytes, has) takes begun tells some =
      inr (tells.refused.0, inr (bytes, has, begun), tells.refused.1)
