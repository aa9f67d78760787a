-- The bytes of runs, one run after the other.
use Rattle.std.proofs.Common.{◌≡◌, ℕ, ℤ, ◌+◌, ◌<◌, ◌≤◌, List, ◌++◌, length, drop, get_or, append_assoc, append-nil, ◌∷◌, drop-cons, add-one, if◌then◌else◌, is_ok, Result, Ok, Err, OnOk, refl, sym, ◌∙◌, ap}
use Rattle.std.proofs.lemmas.List.{drop_all}
use Rattle.pipe_program.specs.RunBytes.{row_bytes, run_bytes}

drop_step : {X : Type 0} → (xs : List X) (i : ℕ) (d : X) → i < length xs → drop i xs ≡ get_or xs i d ∷ drop (i + 1) xs
drop_step xs i d h = rw (drop-cons xs i d h, add-one) refl

-- the bytes of one run more
pub row_bytes-more : (y : ℤ) (runs : List (ℤ × ℕ)) (i : ℕ) (d : ℤ × ℕ) (done : List ℕ) → i < length runs →
    done ++ row_bytes y (drop i runs) ≡ (done ++ run_bytes y (get_or runs i d)) ++ row_bytes y (drop (i + 1) runs)
unfolding row_bytes
row_bytes-more y runs i d done h = ap (λ (l : List (ℤ × ℕ)). done ++ row_bytes y l) (drop_step runs i d h) ∙ sym (append_assoc done (run_bytes y (get_or runs i d)) (row_bytes y (drop (i + 1) runs)))

-- no run is left
pub all_runs_pushed : (y : ℤ) (runs : List (ℤ × ℕ)) (i : ℕ) (done : List ℕ) → length runs ≤ i → done ++ row_bytes y (drop i runs) ≡ done
unfolding row_bytes
all_runs_pushed y runs i done end = ap (λ (l : List (ℤ × ℕ)). done ++ row_bytes y l) (drop_all i runs end) ∙ append-nil done

-- a run is pushed in three parts
pub three_pushed : {T E : Type 0} (r : Result T E) (items a b c one two three : List ℕ) → one ≡ items ++ a → two ≡ one ++ b → three ≡ (if is_ok r then (two ++ c) else two) → OnOk r (three ≡ items ++ ((a ++ b) ++ c))
three_pushed (Ok x) items a b c one two three first second third = third ∙ ap (λ (l : List ℕ). l ++ c) (second ∙ ap (λ (l : List ℕ). l ++ b) first) ∙ simp append_assoc
three_pushed (Err e) items a b c one two three first second third = tt
