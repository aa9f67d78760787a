-- The words of a table without a square.
use Rattle.std.proofs.Common.{◌≡◌, ℕ, zero, suc, ◌+◌, ◌*◌, ◌^◌, ◌<◌, List, length, sym, ◌∙◌, ap, subst, arith, refl}
use Rattle.std.specs.Prelude.{replicate, slice_index}
use Rattle.rule_text.specs.CountRule.{CountRule, dead}
use Rattle.rule_text.specs.RuleCode.{code_of}
use Rattle.table_core.specs.declared.key.Key.{Key}
use Rattle.table_core.specs.declared.shape.Shape.{Shape}
use Rattle.table_core.specs.Good.{AreGoodWords, head}
use Rattle.table_core.specs.Layout.{size}
use Rattle.table_core.specs.Opening.{IsFresh}
use Rattle.table_core.proofs.Reopenings.{every_fresh_table}

zero_code : code_of dead + 2 ^ 20 * 0 ≡ 0
zero_code = refl

at_zeros : (n i : ℕ) → slice_index (replicate n 0) i ≡ 0
at_zeros zero i = refl
at_zeros (suc n) zero = refl
at_zeros (suc n) (suc i) = at_zeros n i

many_zeros : (n : ℕ) → length {A = ℕ} (replicate n 0) ≡ n
many_zeros zero = refl
many_zeros (suc n) = ap suc (many_zeros n)

module _ (shape : Shape) (rule : CountRule) (is : rule ≡ dead) (n : ℕ) (words : List ℕ) (all : words ≡ replicate n 0) (long : n ≡ size shape.bits) where
  abbrev the_key : Key
  the_key = record { shape = shape; rule = rule; exponent = 0 }

  no_head : head the_key ≡ 0
  no_head = ap (λ r. code_of r + 2 ^ 20 * 0) is ∙ zero_code

  none : (i : ℕ) → slice_index words i ≡ 0
  none i = ap (λ ws. slice_index ws i) all ∙ at_zeros n i

  pub vacant_fresh : IsFresh the_key (slice_index words)
  vacant_fresh = record { names = none 0 ∙ sym no_head; vacant = λ i other. none i }

  pub vacant_good : AreGoodWords the_key words
  vacant_good = record {
    long = ap length all ∙ many_zeros n ∙ long;
    good = every_fresh_table the_key (slice_index words) (subst (λ h. h < 2 ^ 64) (sym no_head) (omega arith)) vacant_fresh;
  }
