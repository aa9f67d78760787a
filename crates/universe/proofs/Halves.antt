-- A step in two halves, and what holds of results.
use Rattle.std.proofs.Common.{◌≡◌, ◌≢◌, ℕ, zero, suc, ◌+◌, ◌-◌, ◌^◌, refl, ◌∙◌, ap, subst, arith}
use Rattle.std.proofs.Math.Nat.{pow-suc}
use Rattle.std.proofs.lemmas.Result.{IfOk-at_ok}
use Rattle.std.specs.Prelude.{Result, Ok, Err, IfErr, IfOk, IfSome, Option, Some}
use Rattle.plane.specs.declared.refusal.Refusal.TheVariants.{NodesFull, NoMemory}

pub ok_then : {T E : Type 0} (P Q : T → Type 0) (r : Result T E) → ((x : T) → P x → Q x) → IfOk r P → IfOk r Q
ok_then P Q (Ok x) f h = f x h
ok_then P Q (Err e) f h = tt

pub err_then : {T E : Type 0} (P Q : E → Type 0) (r : Result T E) → ((x : E) → P x → Q x) → IfErr r P → IfErr r Q
err_then P Q (Ok x) f h = tt
err_then P Q (Err e) f h = f e h

-- a full table is no want of memory
pub memory-full : NoMemory ≡ NodesFull → ⊥
memory-full same = absurd cc

pub two_halves : (exponent : ℕ) → exponent ≢ 0 → 2 ^ (exponent - 1) + 2 ^ (exponent - 1) ≡ 2 ^ exponent
two_halves zero some = absurd (some refl)
two_halves (suc e) some =
    let down : suc e - 1 ≡ e = omega arith in
    let double = pow-suc 2 e in
    ap (λ n. 2 ^ n + 2 ^ n) down ∙ omega (arith, double)

-- what holds of a result's value holds of one that was found to be it
pub found_ok : {A E : Type 0} (P : A → Type 0) (result : Result A E) {found : Option A} {value : A} → IfSome found (λ v. result ≡ Ok v) → found ≡ Some value → IfOk result P → P value
found_ok P result some is ok = IfOk-at_ok P (subst (λ o. IfSome o (λ v. result ≡ Ok v)) is some) ok
