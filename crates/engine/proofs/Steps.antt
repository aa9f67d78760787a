-- Multiples of a step, and what is shown at them and between them.
use Rattle.std.proofs.Common.{◌≡◌, ℕ, ◌+◌, ◌-◌, ◌*◌, ◌/◌, ◌%◌, ◌<◌, ◌==◌, ◌^◌, false, not, ◌∙◌, ap, arith, add-mul, one-mul, div-le_self}
use Rattle.std.proofs.lemmas.Bool.Decides.{nat_tests}
use Rattle.std.proofs.lemmas.Nat.{div-add-mod', mod-mul-add}
use Rattle.engine.specs.Report.{is_shown}
use Rattle.engine.specs.declared.options.Options.{Options}

mul_next : (q step : ℕ) → (q + 1) * step ≡ q * step + step
mul_next q step = add-mul q 1 step ∙ ap (λ n. q * step + n) (one-mul step)

-- there is room for the number of the next multiple
pub next_fits : (done step gens : ℕ) → done < gens → gens < 2 ^ 64 → done / step + 1 < 2 ^ 64
next_fits done step gens below fits = let small = div-le_self done step in omega (arith, below, fits, small)

-- a number between a multiple and the next is none
no_multiple : (step q n : ℕ) → q * step < n → n < (q + 1) * step → (n % step == 0) ≡ false
no_multiple step q n above below =
    let next = mul_next q step in
    let is : n ≡ q * step + (n - q * step) = omega (arith, above) in
    let less : n - q * step < step = omega (arith, next, below, above) in
    let rest : n % step ≡ n - q * step = ap (λ m. m % step) is ∙ mod-mul-add q step (n - q * step) less in
    let some : 0 < n % step = omega (arith, rest, above) in
    grind (arith, nat_tests)

-- what lies after some generations, and before the next multiple and before all, is not shown
pub none_between : (options : Options) (done n : ℕ) → done < n → n < options.gens → n < (done / options.step + 1) * options.step → is_shown options n ≡ false
none_between options done n later before below =
    let whole = div-add-mod' done options.step in
    let above : done / options.step * options.step < n = omega (arith, whole, later) in
    let none = no_multiple options.step (done / options.step) n above below in
    grind (arith, nat_tests)

-- a multiple is shown, unless nothing is
pub multiple_shown : (options : Options) (q : ℕ) → 0 < options.step → is_shown options (q * options.step) ≡ not options.quiet
multiple_shown options q some =
    let same : q * options.step ≡ q * options.step + 0 = omega arith in
    let multiple : (q * options.step) % options.step ≡ 0 = ap (λ n. n % options.step) same ∙ mod-mul-add q options.step 0 some in
    grind (arith, nat_tests)
