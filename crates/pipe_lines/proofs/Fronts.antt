-- The first bytes of a line, of which no more are kept than there is room for.
use Rattle.std.proofs.Common.{◌≡◌, ℕ, ◌+◌, ◌-◌, ◌^◌, ◌<◌, ◌≤◌, List, ◌++◌, ◌∙◌, ◌⊎◌, inl, inr, length, take, min, ap, sym, arith, append-nil, length-append, length-take}
use Rattle.std.proofs.Math.Seq.{take-append-add}
use Rattle.std.proofs.lemmas.Bool.{cases_lt}
use Rattle.std.proofs.lemmas.List.{take-append-le, take_all}

-- the first bytes of a part and more are those of the part, and as many of the others as have room
front_of_more : (room : ℕ) (part more : List ℕ) → (room < length part) ⊎ (length part ≤ room) →
    take room part ++ take (room - length (take room part)) more ≡ take room (part ++ more)
front_of_more room part more (inl full) =
    let none : room - length (take room part) ≡ 0 = omega (arith, length-take room part) in
    ap (λ n. take room part ++ take n more) none
    ∙ append-nil (take room part)
    ∙ sym (take-append-le room part more (omega arith))
front_of_more room part more (inr fits) =
    let all : take room part ≡ part = take_all room part fits in
    let parted : length part + (room - length part) ≡ room = omega arith in
    ap (λ front. front ++ take (room - length front) more) all
    ∙ sym (take-append-add part more (room - length part))
    ∙ ap (λ n. take n (part ++ more)) parted

pub front_grows : (room : ℕ) (kept part more : List ℕ) → kept ≡ take room part →
    kept ++ take (room - length kept) more ≡ take room (part ++ more)
front_grows room kept part more is =
    ap (λ front. front ++ take (room - length front) more) is
    ∙ front_of_more room part more (cases_lt room (length part))

-- how long a part and more are, up to the largest number that is counted
pub count_grows : (part more : List ℕ) (count : ℕ) → count ≡ min (length part) (2 ^ 64 - 1) →
    min (count + length more) (2 ^ 64 - 1) ≡ min (length (part ++ more)) (2 ^ 64 - 1)
count_grows part more count is = omega (arith, length-append part more)
