-- A dialogue so far, and how its steps end it.
use Rattle.std.proofs.Common.{◌≡◌, ◌∙◌, ℕ, ◌+◌, ◌-◌, ◌^◌, true, false, Option, None, Ok, Err, List, [], ◌∷◌, ◌++◌, length, append-nil, refl, sym, ap, subst, inl, inr}
use Rattle.std.specs.Io.KnownBytes.{Appends}
use Rattle.std.proofs.KnownBytes.{Appends-nil, Appends-trans, Consumes-whole}
use Rattle.plane.specs.Device.{HasFailed}
use Rattle.plane.specs.SinkChange.{SinkChange, Fails, IsUnfailed, Takes, TakesBeginning, change_of}
use Rattle.plane.specs.SourceChange.{GivesAll, SourceChange, reading_of}
use Rattle.plane.specs.declared.refusal.Refusal.{Refusal}
use Rattle.plane.proofs.Beginnings.{text_and_beginning}
use Rattle.pipe_lines.specs.Supply.{HasEnded, HasTaken}
use Rattle.pipe_lines.proofs.Takings.{taken_from_pending, taken_twice}
use Rattle.pipe_program.specs.Dialogue.{AreTurns, EndsDialogue, IsTurn, IsUnheard, Turn, asked_in, cut_text, open_after, said_in}
use Rattle.pipe_program.specs.Replies.{reply_text}
use Rattle.pipe_program.specs.States.{State}
use Rattle.pipe_program.specs.Steps.{HasEndless, HasNone, HasNotReplied, HasRepliedCut, IsStep}
use Rattle.pipe_program.proofs.Turns.{asked_more, count_more, follow_more, nothing_asked, nothing_opened, nothing_said, open_more, said_more}

-- so many turns are over: their requests were taken, and their replies went out
pub record HasTurns {S W : Type 0} (pairs : ℕ) (source : SourceChange S) (pending : List ℕ) (state : State) (out : SinkChange W)
    (count : ℕ) : Type 0 where
  pub turns : List Turn
  pub counted : length turns ≡ count
  pub follow : AreTurns pairs None turns
  pub opened : open_after None turns ≡ state
  pub taken : HasTaken source [] pending (asked_in turns)
  pub readable : source.failure_count source.new ≡ source.failure_count source.old
  pub takes : Takes out (said_in turns)
  pub unfailed : IsUnfailed out

-- a source gave the bytes that were taken, and those that are pending
given_then : {S : Type 0} (source : SourceChange S) (after bytes : List ℕ) → HasTaken source [] after bytes →
    Appends (source.given source.old) (source.given source.new) (bytes ++ after)
given_then source after bytes taken =
    subst (λ (all : List ℕ). Appends (source.given source.old) (source.given source.new) all) taken.parts taken.appends

-- nothing is pending
given_all : {S : Type 0} (source : SourceChange S) (after bytes : List ℕ) → HasTaken source [] after bytes → after ≡ [] →
    Appends (source.given source.old) (source.given source.new) bytes
given_all source after bytes taken none =
    subst (λ (all : List ℕ). Appends (source.given source.old) (source.given source.new) all)
    (ap (λ (rest : List ℕ). bytes ++ rest) none ∙ append-nil bytes) (given_then source after bytes taken)

-- the source gave all that was taken, to its end
all_given : {S : Type 0} {remaining given : S → Option (List ℕ)} {has_ended : S → Type 0} {failure_count : S → ℕ}
    {first mid last : S} {before after : List ℕ} (bytes : List ℕ) →
    HasTaken (reading_of remaining given has_ended failure_count first last) [] after bytes →
    HasEnded (reading_of remaining given has_ended failure_count mid last) before after → failure_count last ≡ failure_count first →
    GivesAll (reading_of remaining given has_ended failure_count first last) bytes
all_given {remaining = remaining} {given} {has_ended} {failure_count} {first} {mid} {last} {before} {after} bytes taken ended readable =
    let is : bytes ≡ taken.given = sym (taken.parts ∙ ap (λ (rest : List ℕ). bytes ++ rest) ended.none ∙ append-nil bytes) in
    record {
      whole = Consumes-whole (remaining first) (remaining last) taken.given (λ (left : List ℕ). bytes ≡ left) taken.consumes
          ended.nothing_left is;
      given = given_all (reading_of remaining given has_ended failure_count first last) after bytes taken ended.none;
      end = ended.ended;
      unfailed = readable;
    }

-- what is not touched has taken what it took before, and has not failed more
still_takes : {W : Type 0} (sunk : W → Option (List ℕ)) (fresh heard told : W) (said : List ℕ) → told ≡ heard →
    Appends (sunk fresh) (sunk heard) said → Appends (sunk fresh) (sunk told) said
still_takes {W} sunk fresh heard told said same takes = subst (λ (sink : W). Appends (sunk fresh) (sunk sink) said) (sym same) takes

still_unfailed : {W : Type 0} (failures : W → ℕ) (fresh heard told : W) → told ≡ heard →
    failures heard ≡ failures fresh → failures told ≡ failures fresh
still_unfailed failures fresh heard told same unfailed = ap failures same ∙ unfailed

module _ {S W : Type 0} (pairs : ℕ) {remaining given : S → Option (List ℕ)} {has_ended : S → Type 0} {failure_count : S → ℕ}
    {sunk : W → Option (List ℕ)} {out_failures : W → ℕ} where
  -- at the start there is no turn
  pub no_turns : (source : S) (out : W) (pending : List ℕ) → pending ≡ [] →
      HasTurns pairs (reading_of remaining given has_ended failure_count source source) pending None
      (change_of sunk out_failures out out) 0
  no_turns source out pending none = record {
    turns = [];
    counted = refl;
    follow = tt;
    opened = nothing_opened None;
    taken = taken_from_pending source [] pending (asked_in []) (sym (ap (λ (front : List ℕ). front ++ pending) nothing_asked ∙ none));
    readable = refl;
    takes = subst (λ (said : List ℕ). Appends (sunk out) (sunk out) said) (sym nothing_said) (Appends-nil (sunk out));
    unfailed = refl;
  }

  module _ {first mid last : S} {before after : List ℕ} {old new : State} {fresh heard told : W} {count : ℕ} where
    -- one turn more
    pub turn_more : HasTurns pairs (reading_of remaining given has_ended failure_count first mid) before old
        (change_of sunk out_failures fresh heard) count →
        IsStep pairs (reading_of remaining given has_ended failure_count mid last) before after old new
        (change_of sunk out_failures heard told) (Ok true) →
        failure_count last ≡ failure_count mid →
        HasTurns pairs (reading_of remaining given has_ended failure_count first last) after new (change_of sunk out_failures fresh told) (count + 1)
    turn_more so_far ((turn, has, takes), unfailed) readable = record {
      turns = so_far.turns ++ turn ∷ [];
      counted = count_more so_far.turns turn count so_far.counted;
      follow = follow_more pairs None so_far.turns turn so_far.follow
          (subst (λ (state : State). IsTurn pairs state turn) (sym so_far.opened) has.is);
      opened = open_more None so_far.turns turn ∙ has.then;
      taken = subst (λ (bytes : List ℕ). HasTaken (reading_of remaining given has_ended failure_count first last) [] after bytes)
          (sym (asked_more so_far.turns turn)) (taken_twice so_far.taken has.taken);
      readable = readable ∙ so_far.readable;
      takes = subst (λ (bytes : List ℕ). Appends (sunk fresh) (sunk told) bytes) (sym (said_more so_far.turns turn))
          (Appends-trans (sunk fresh) (sunk heard) (sunk told) (said_in so_far.turns) (reply_text turn.reply) so_far.takes takes);
      unfailed = unfailed ∙ so_far.unfailed;
    }

    -- the source has ended between two requests
    ends_at_none : HasTurns pairs (reading_of remaining given has_ended failure_count first mid) before old
        (change_of sunk out_failures fresh heard) count →
        HasNone pairs (reading_of remaining given has_ended failure_count mid last) before after old new
        (change_of sunk out_failures heard told) →
        failure_count last ≡ failure_count mid →
        EndsDialogue pairs (reading_of remaining given has_ended failure_count first last) (change_of sunk out_failures fresh told) (Ok tt)
    ends_at_none so_far none readable = inl (record {
      turns = so_far.turns;
      rest = [];
      said = said_in so_far.turns;
      follow = so_far.follow;
      all = all_given (asked_in so_far.turns ++ []) (taken_twice so_far.taken none.taken) none.ended (readable ∙ so_far.readable);
      end = inl (refl, refl);
      takes = still_takes sunk fresh heard told (said_in so_far.turns) none.untouched so_far.takes;
      unfailed = still_unfailed out_failures fresh heard told none.untouched so_far.unfailed;
    })

    -- the source has ended within a request
    ends_at_cut : HasTurns pairs (reading_of remaining given has_ended failure_count first mid) before old
        (change_of sunk out_failures fresh heard) count →
        HasRepliedCut pairs (reading_of remaining given has_ended failure_count mid last) before after old new
        (change_of sunk out_failures heard told) →
        IsUnfailed (change_of sunk out_failures heard told) → failure_count last ≡ failure_count mid →
        EndsDialogue pairs (reading_of remaining given has_ended failure_count first last) (change_of sunk out_failures fresh told) (Ok tt)
    ends_at_cut so_far (bytes, cut, takes) unfailed readable = inl (record {
      turns = so_far.turns;
      rest = bytes;
      said = said_in so_far.turns ++ cut_text;
      follow = so_far.follow;
      all = all_given (asked_in so_far.turns ++ bytes) (taken_twice so_far.taken cut.taken) cut.ended (readable ∙ so_far.readable);
      end = inr (cut.cut, refl);
      takes = Appends-trans (sunk fresh) (sunk heard) (sunk told) (said_in so_far.turns) cut_text so_far.takes takes;
      unfailed = unfailed ∙ so_far.unfailed;
    })

    -- a line goes on for more bytes than are counted
    ends_at_endless : HasTurns pairs (reading_of remaining given has_ended failure_count first mid) before old
        (change_of sunk out_failures fresh heard) count →
        (bytes : List ℕ) → HasEndless pairs (reading_of remaining given has_ended failure_count mid last) before after old new
        (change_of sunk out_failures heard told) bytes →
        EndsDialogue pairs (reading_of remaining given has_ended failure_count first last) (change_of sunk out_failures fresh told) (Ok tt)
    ends_at_endless so_far bytes endless = inr (record {
      turns = so_far.turns;
      rest = bytes;
      follow = so_far.follow;
      count = inr (endless.unbroken, endless.long);
      given = given_all (reading_of remaining given has_ended failure_count first last) after (asked_in so_far.turns ++ bytes)
          (taken_twice so_far.taken endless.taken) endless.none;
      takes = still_takes sunk fresh heard told (said_in so_far.turns) endless.untouched so_far.takes;
      unfailed = still_unfailed out_failures fresh heard told endless.untouched so_far.unfailed;
    })

    -- a step behind which there is no other ends the dialogue
    pub ends_well : HasTurns pairs (reading_of remaining given has_ended failure_count first mid) before old
        (change_of sunk out_failures fresh heard) count →
        IsStep pairs (reading_of remaining given has_ended failure_count mid last) before after old new
        (change_of sunk out_failures heard told) (Ok false) →
        failure_count last ≡ failure_count mid →
        EndsDialogue pairs (reading_of remaining given has_ended failure_count first last) (change_of sunk out_failures fresh told) (Ok tt)
    ends_well so_far (inl none) readable = ends_at_none so_far none readable
    ends_well so_far (inr (inl (cut, unfailed))) readable = ends_at_cut so_far cut unfailed readable
    ends_well so_far (inr (inr (bytes, endless))) readable = ends_at_endless so_far bytes endless

    -- the sink failed within the reply to a request, or within that to an input that is cut
    unheard : HasTurns pairs (reading_of remaining given has_ended failure_count first mid) before old
        (change_of sunk out_failures fresh heard) count →
        HasNotReplied pairs (reading_of remaining given has_ended failure_count mid last) before after old new
        (change_of sunk out_failures heard told) →
        Fails (change_of sunk out_failures heard told) →
        IsUnheard pairs (reading_of remaining given has_ended failure_count first last) (change_of sunk out_failures fresh told)
    unheard so_far (inl (turn, has, takes)) fails = record {
      turns = so_far.turns ++ turn ∷ [];
      rest = after;
      follow = follow_more pairs None so_far.turns turn so_far.follow
          (subst (λ (state : State). IsTurn pairs state turn) (sym so_far.opened) has.is);
      given = given_then (reading_of remaining given has_ended failure_count first last) after (asked_in (so_far.turns ++ turn ∷ []))
          (subst (λ (bytes : List ℕ). HasTaken (reading_of remaining given has_ended failure_count first last) [] after bytes)
          (sym (asked_more so_far.turns turn)) (taken_twice so_far.taken has.taken));
      fails = subst (λ (failures : ℕ). HasFailed failures (out_failures told)) so_far.unfailed fails;
      takes = inl (subst (λ (said : List ℕ). TakesBeginning (change_of sunk out_failures fresh told) said) (sym (said_more so_far.turns turn))
          (text_and_beginning (said_in so_far.turns) so_far.takes takes));
    }
    unheard so_far (inr (bytes, cut, takes)) fails = record {
      turns = so_far.turns;
      rest = bytes;
      follow = so_far.follow;
      given = given_all (reading_of remaining given has_ended failure_count first last) after (asked_in so_far.turns ++ bytes)
          (taken_twice so_far.taken cut.taken) cut.ended.none;
      fails = subst (λ (failures : ℕ). HasFailed failures (out_failures told)) so_far.unfailed fails;
      takes = inr (cut.cut, text_and_beginning (said_in so_far.turns) so_far.takes takes);
    }

    -- a step in which a device failed ends the dialogue
    pub ends_badly : (refusal : Refusal) →
        HasTurns pairs (reading_of remaining given has_ended failure_count first mid) before old
        (change_of sunk out_failures fresh heard) count →
        IsStep pairs (reading_of remaining given has_ended failure_count mid last) before after old new
        (change_of sunk out_failures heard told) (Err refusal) →
        EndsDialogue pairs (reading_of remaining given has_ended failure_count first last) (change_of sunk out_failures fresh told) (Err refusal)
    ends_badly refusal so_far (inl (is, (bytes, unread))) = inl (
      is,
      record {
        turns = so_far.turns;
        rest = bytes;
        follow = so_far.follow;
        given = given_all (reading_of remaining given has_ended failure_count first last) after (asked_in so_far.turns ++ bytes)
            (taken_twice so_far.taken unread.taken) unread.none;
        unanswered = unread.unanswered;
        fails = subst (λ (failures : ℕ). HasFailed failures (failure_count last)) so_far.readable unread.fails;
        takes = still_takes sunk fresh heard told (said_in so_far.turns) unread.untouched so_far.takes;
        unfailed = still_unfailed out_failures fresh heard told unread.untouched so_far.unfailed;
      },
    )
    ends_badly refusal so_far (inr (is, not_replied, fails)) = inr (is, unheard so_far not_replied fails)

  -- no more turns are counted
  pub ends_at_most : {first last : S} {pending : List ℕ} {state : State} {fresh told : W} →
      HasTurns pairs (reading_of remaining given has_ended failure_count first last) pending state
      (change_of sunk out_failures fresh told) (2 ^ 64 - 1) →
      EndsDialogue pairs (reading_of remaining given has_ended failure_count first last) (change_of sunk out_failures fresh told) (Ok tt)
  ends_at_most {first} {last} {pending} {state} {fresh} {told} so_far = inr (record {
    turns = so_far.turns;
    rest = pending;
    follow = so_far.follow;
    count = inl so_far.counted;
    given = given_then (reading_of remaining given has_ended failure_count first last) pending (asked_in so_far.turns) so_far.taken;
    takes = so_far.takes;
    unfailed = so_far.unfailed;
  })
