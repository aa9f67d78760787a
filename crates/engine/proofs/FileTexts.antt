-- What the writers of patterns write is the text of the cells in their format.
use Rattle.std.proofs.Common.{◌≡◌, ◌⊎◌, ℕ, List, [], Option, Result, refl, sym, subst, ap, inl, inr}
use Rattle.std.specs.Prelude.{IfErr, OnOk}
use Rattle.std.specs.Io.KnownBytes.{Appends}
use Rattle.std.proofs.KnownBytes.{Appends-nil}
use Rattle.std.proofs.lemmas.Result.{IfErr-weaker, on_ok_weaker}
use Rattle.rule_text.specs.CountRule.{CountRule}
use Rattle.plane.specs.Centred.{IsSmallestLevel}
use Rattle.plane.specs.Device.{AppendsBeginning, IsWriteRefusal}
use Rattle.plane.specs.Listing.{IsListing, plane_of}
use Rattle.plane.specs.Plane.{Plane}
use Rattle.plane.specs.declared.cell.Cell.{Cell}
use Rattle.plane.specs.declared.refusal.Refusal.{Refusal}
use Rattle.plane.specs.declared.refusal.Refusal.TheVariants.{NoMemory}
use Rattle.plane.proofs.Same.{plane_equal}
use Rattle.pattern_writers.specs.McText.{BeginsMc, WritesMc, mc_text}
use Rattle.pattern_writers.specs.RleText.{BeginsRle, IsTooLarge, WritesRle, rle_text}
use Rattle.pattern_writers.specs.Output.{IsWriterRefusal}
use Rattle.engine.specs.Formats.{Exceeds, HasText, macrocell, no_file, rle}

-- a plane with these cells, and a file before and after
module _ (plane : Plane) (comments : List (List ℕ)) (rule : CountRule) (generation : ℕ) (old new : Option (List ℕ)) where
  -- ---- RLE

  rle_text_written : WritesRle plane comments rule generation old new → HasText rle plane comments rule generation (Appends old new)
  rle_text_written writes =
      record { cells = writes.cells; text = rle_text comments rule generation writes.cells; listing = writes.listing; fits = writes.fits; is = refl; holds = writes.appends }

  rle_text_begun : BeginsRle plane comments rule generation old new → HasText rle plane comments rule generation (AppendsBeginning old new)
  rle_text_begun begins =
      record { cells = begins.cells; text = rle_text comments rule generation begins.cells; listing = begins.listing; fits = begins.fits; is = refl; holds = begins.beginning }

  pub rle_written : (shown : Plane) (r : Result (Unit {0}) Refusal) → shown ≡ plane → OnOk r (WritesRle shown comments rule generation old new) →
      OnOk r (HasText rle plane comments rule generation (Appends old new))
  rle_written shown r same = on_ok_weaker r (λ writes. rle_text_written (subst (λ (p : Plane). WritesRle p comments rule generation old new) same writes))

  rle_refusal : {V : Type 0} (failure_count : V → ℕ) (before after : V) (refusal : Refusal) →
      IsWriterRefusal failure_count before after (IsTooLarge plane) (BeginsRle plane comments rule generation old new) refusal →
      IsWriterRefusal failure_count before after (Exceeds rle plane) (HasText rle plane comments rule generation (AppendsBeginning old new)) refusal
  rle_refusal failure_count before after refusal (inl (is, large, unchanged)) = inl (is, record { cells = large.cells; listing = large.listing; unfit = large.unfit }, unchanged)
  rle_refusal failure_count before after refusal (inr (inl memory)) = inr (inl memory)
  rle_refusal failure_count before after refusal (inr (inr (is, begins))) = inr (inr (is, rle_text_begun begins))

  pub rle_refused : {V : Type 0} (failure_count : V → ℕ) (before after : V) (shown : Plane) (r : Result (Unit {0}) Refusal) → shown ≡ plane →
      IfErr r (IsWriterRefusal failure_count before after (IsTooLarge shown) (BeginsRle shown comments rule generation old new)) →
      IfErr r (IsWriterRefusal failure_count before after (Exceeds rle plane) (HasText rle plane comments rule generation (AppendsBeginning old new)))
  rle_refused failure_count before after shown r same refused = IfErr-weaker r _ _ (rle_refusal failure_count before after)
      (subst (λ (p : Plane). IfErr r (IsWriterRefusal failure_count before after (IsTooLarge p) (BeginsRle p comments rule generation old new))) same refused)

  -- ---- macrocell

  module _ (listed : (cells : List Cell) × IsListing cells plane) where
    -- the macrocell text of a plane is that of its cells
    mc_text_has : (level : ℕ) (Holds : List ℕ → Type 0) → IsSmallestLevel level plane → Holds (mc_text comments rule generation level plane) →
        HasText macrocell plane comments rule generation Holds
    mc_text_has level Holds smallest holds =
        let same : plane ≡ plane_of listed.0 = sym (plane_equal (plane_of listed.0) plane (record { same = listed.1.live })) in
        record {
          cells = listed.0;
          text = mc_text comments rule generation level plane;
          listing = listed.1;
          fits = tt;
          is = record { level = level; smallest = subst (IsSmallestLevel level) same smallest; is = ap (mc_text comments rule generation level) same };
          holds = holds;
        }

    pub mc_written : (shown : Plane) (r : Result (Unit {0}) Refusal) → shown ≡ plane → OnOk r (WritesMc shown comments rule generation old new) →
        OnOk r (HasText macrocell plane comments rule generation (Appends old new))
    mc_written shown r same = on_ok_weaker r (λ of_shown.
        let writes = subst (λ (p : Plane). WritesMc p comments rule generation old new) same of_shown in mc_text_has writes.level (Appends old new) writes.smallest writes.appends)

    mc_refusal : {V : Type 0} (failure_count : V → ℕ) (before after : V) (refusal : Refusal) →
        (((refusal ≡ NoMemory) × (after ≡ before))
        ⊎ (IsWriteRefusal (failure_count before) (failure_count after) refusal × BeginsMc plane comments rule generation old new)) →
        IsWriterRefusal failure_count before after (Exceeds macrocell plane) (HasText macrocell plane comments rule generation (AppendsBeginning old new)) refusal
    mc_refusal failure_count before after refusal (inl memory) = inr (inl memory)
    mc_refusal failure_count before after refusal (inr (is, begins)) = inr (inr (is, mc_text_has begins.level (AppendsBeginning old new) begins.smallest begins.beginning))

    pub mc_refused : {V : Type 0} (failure_count : V → ℕ) (before after : V) (shown : Plane) (r : Result (Unit {0}) Refusal) → shown ≡ plane →
        IfErr r (λ refusal. ((refusal ≡ NoMemory) × (after ≡ before))
        ⊎ (IsWriteRefusal (failure_count before) (failure_count after) refusal × BeginsMc shown comments rule generation old new)) →
        IfErr r (IsWriterRefusal failure_count before after (Exceeds macrocell plane) (HasText macrocell plane comments rule generation (AppendsBeginning old new)))
    mc_refused failure_count before after shown r same refused = IfErr-weaker r _ _ (mc_refusal failure_count before after)
        (subst (λ (p : Plane). IfErr r (λ refusal. ((refusal ≡ NoMemory) × (after ≡ before))
        ⊎ (IsWriteRefusal (failure_count before) (failure_count after) refusal × BeginsMc p comments rule generation old new))) same refused)

    -- ---- no format

    pub nothing_written : old ≡ new → HasText no_file plane comments rule generation (Appends old new)
    nothing_written same = record {
      cells = listed.0;
      text = [];
      listing = listed.1;
      fits = tt;
      is = refl;
      holds = subst (λ (taken : Option (List ℕ)). Appends old taken []) same (Appends-nil old);
    }
