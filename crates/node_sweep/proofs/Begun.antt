-- Fresh words and notes, before anything is copied.
use Rattle.std.proofs.Common.{◌≡◌, ℕ, ◌<◌, List, length, ◌∙◌, ap, subst, arith, refl}
use Rattle.std.specs.Prelude.{replicate, slice_index, slice_set, ◌^◌}
use Rattle.std.proofs.lemmas.List.{get_or-set_same, get_or-set_other}
use Rattle.table_core.specs.declared.key.Key.{Key}
use Rattle.table_core.specs.declared.shape.Kind.TheVariants.{Pair}
use Rattle.table_core.specs.Good.{head}
use Rattle.table_core.specs.Layout.{result_of, size}
use Rattle.table_core.specs.Opening.{IsFresh}
use Rattle.table_core.proofs.Lists.{length_set}
use Rattle.table_core.proofs.Reopenings.{every_fresh_table}
use Rattle.table_core.proofs.Ways.{not_head}
use Rattle.node_sweep.specs.Copying.{AreBlankWords}
use Rattle.node_sweep.specs.Transfers.{IsUnderway, new_bits, number_count}
use Rattle.node_sweep.specs.declared.transfer.Fresh.{Fresh}
use Rattle.node_sweep.specs.declared.transfer.Transfer.{Transfer}
use Rattle.node_sweep.proofs.Swept.{many_zeros, none_there}

-- the head comes before zeros
module _ (key : Key) (words : List ℕ) (n name : ℕ) (is : words ≡ slice_set (replicate n 0) 0 name) (long : n ≡ size key.shape.bits) (names : name ≡ head key) (low : name < 2 ^ 64) where
  fresh : IsFresh key (slice_index words)
  fresh =
      let zeros = many_zeros n in
      let inside : 0 < length {A = ℕ} (replicate n 0) = omega arith in
      record {
        names = ap (λ ws. slice_index ws 0) is ∙ get_or-set_same (replicate n 0) 0 name 0 inside ∙ names;
        vacant = λ i other. ap (λ ws. slice_index ws i) is ∙ get_or-set_other (replicate n 0) 0 i name 0 other ∙ none_there (replicate n 0) n i refl;
      }

  pub blank : AreBlankWords key words
  blank = (
    record {
      long = ap (λ (ws : List ℕ). length ws) is ∙ length_set (replicate n 0) 0 name ∙ many_zeros n ∙ long;
      good = every_fresh_table key (slice_index words) (subst (λ h. h < 2 ^ 64) names low) fresh;
    },
    fresh,
  )

-- and nothing is noted
pub underway_begun : (transfer : Transfer) (fresh : Fresh) (m : ℕ) → AreBlankWords transfer.to fresh.words.items → fresh.copies.items ≡ replicate m 0 → m ≡ number_count transfer → IsUnderway transfer fresh
underway_begun transfer fresh m blank notes many = record {
  copying = record {
    good = blank.0;
    copied = λ i some. absurd (some (none_there fresh.copies.items m i notes));
    each = λ kind i slot some. absurd (some (blank.1.vacant i (not_head (new_bits transfer) kind i slot)));
    vacant = λ i slot. blank.1.vacant (result_of (new_bits transfer) i) (λ z. not_head (new_bits transfer) Pair i slot (omega arith));
  };
  long = ap (λ (cs : List ℕ). length cs) notes ∙ many_zeros m ∙ many;
}
