-- Calls of a source that are made only where bytes are wanting.
use Rattle.std.proofs.Common.{◌≡◌, ℕ, List, [], ◌++◌, ◌⊎◌, inl, inr, ◌∙◌, ap, sym, append-nil, subst}
use Rattle.std.specs.Prelude.{Option, Result}
use Rattle.plane.specs.SourceChange.{reading_of}
use Rattle.plane.specs.declared.device.traits.Failed.{Failed}
use Rattle.pipe_lines.specs.Supply.{HasTaken, IsOneRead, ReadsNoMore}

module _ {S : Type 0} (reads : S → List ℕ → Result ℕ Failed → S → List ℕ → Type 0)
    {remaining given : S → Option (List ℕ)} {has_ended : S → Type 0} {failure_count : S → ℕ} where
  -- one more call where nothing is pending, and what was taken is not enough; or none
  pub reads_on : (IsWanting : List ℕ → Type 0) {old mid new : S} {before between part : List ℕ} →
      HasTaken (reading_of remaining given has_ended failure_count old mid) before between part → IsWanting part →
      ReadsNoMore reads (reading_of remaining given has_ended failure_count old mid) before IsWanting →
      (new ≡ mid) ⊎ ((between ≡ []) × IsOneRead reads mid new) →
      ReadsNoMore reads (reading_of remaining given has_ended failure_count old new) before IsWanting
  reads_on IsWanting {old} {mid} {new} {before} {between} {part} taken wanting until (inl same) =
      subst (λ state. ReadsNoMore reads (reading_of remaining given has_ended failure_count old state) before IsWanting) (sym same) until
  reads_on IsWanting {old} {mid} {new} {before} {between} {part} taken wanting until (inr more) =
      inr (record {
        at = mid;
        given = taken.given;
        consumes = taken.consumes;
        appends = taken.appends;
        wanting = subst IsWanting (sym (taken.parts ∙ ap (λ rest. part ++ rest) more.0 ∙ append-nil part)) wanting;
        last = more.1;
      })
