-- What was taken of a source through a buffer, by one call after another.
use Rattle.std.proofs.Common.{◌≡◌, ℕ, List, [], ◌++◌, ◌∙◌, sym, ap, append_assoc, append-nil, subst}
use Rattle.std.specs.Prelude.{Option}
use Rattle.std.proofs.KnownBytes.{Appends-nil, Appends-trans, Consumes-nil, Consumes-trans}
use Rattle.plane.specs.SourceChange.{reading_of}
use Rattle.pipe_lines.specs.Supply.{HasEnded, HasTaken}

-- the first bytes of what was pending and given, in two steps
two_parts : (before between after first second given more : List ℕ) → before ++ given ≡ first ++ between → between ++ more ≡ second ++ after →
    before ++ (given ++ more) ≡ (first ++ second) ++ after
two_parts before between after first second given more one two =
    sym (append_assoc before given more)
    ∙ ap (λ bytes. bytes ++ more) one
    ∙ append_assoc first between more
    ∙ ap (λ bytes. first ++ bytes) two
    ∙ sym (append_assoc first second after)

module _ {S : Type 0} {remaining given : S → Option (List ℕ)} {has_ended : S → Type 0} {failure_count : S → ℕ} where
  -- what two calls took, one after the other
  pub taken_twice : {old mid new : S} {before between after first second : List ℕ} →
      HasTaken (reading_of remaining given has_ended failure_count old mid) before between first →
      HasTaken (reading_of remaining given has_ended failure_count mid new) between after second →
      HasTaken (reading_of remaining given has_ended failure_count old new) before after (first ++ second)
  taken_twice {old} {mid} {new} {before} {between} {after} {first} {second} one two = record {
    given = one.given ++ two.given;
    consumes = Consumes-trans (remaining old) (remaining mid) (remaining new) one.given two.given one.consumes two.consumes;
    appends = Appends-trans (given old) (given mid) (given new) one.given two.given one.appends two.appends;
    parts = two_parts before between after first second one.given two.given one.parts two.parts;
  }

  -- where nothing is read, and what was pending comes first
  pub taken_from_pending : (at : S) (before after taken : List ℕ) → before ≡ taken ++ after →
      HasTaken (reading_of remaining given has_ended failure_count at at) before after taken
  taken_from_pending at before after taken is = record {
    given = [];
    consumes = Consumes-nil (remaining at);
    appends = Appends-nil (given at);
    parts = append-nil before ∙ is;
  }

  -- a call took none of what it read, and then some of that was taken
  pub taken_after_fill : {old mid new : S} {before between filled first : List ℕ} (second after : List ℕ) →
      HasTaken (reading_of remaining given has_ended failure_count old mid) before between first →
      HasTaken (reading_of remaining given has_ended failure_count mid new) between filled [] → filled ≡ second ++ after →
      HasTaken (reading_of remaining given has_ended failure_count old new) before after (first ++ second)
  taken_after_fill {new = new} {filled = filled} second after one none is =
      taken_twice one (taken_twice none (taken_from_pending new filled after second is))

  -- a call took none of what it read
  pub taken_before_fill : {old mid new : S} {before between after taken : List ℕ} →
      HasTaken (reading_of remaining given has_ended failure_count old mid) before between taken →
      HasTaken (reading_of remaining given has_ended failure_count mid new) between after [] →
      HasTaken (reading_of remaining given has_ended failure_count old new) before after taken
  taken_before_fill {old} {new = new} {before} {after = after} {taken} one none =
      subst (HasTaken (reading_of remaining given has_ended failure_count old new) before after) (append-nil taken) (taken_twice one none)

  -- an end that a call found, said of the calls before it too
  pub ended_at_fill : {old mid new : S} {before between after : List ℕ} →
      HasEnded (reading_of remaining given has_ended failure_count mid new) between after →
      HasEnded (reading_of remaining given has_ended failure_count old new) before after
  ended_at_fill found = record {
    none = found.none;
    nothing_left = found.nothing_left;
    ended = found.ended;
  }
