-- What a list has after a map.
use Rattle.std.proofs.Common.{◌≡◌, ℕ, zero, suc, ◌<◌, List, [], ◌∷◌, map, length, subst, ap, arith}
use Rattle.std.specs.Prelude.{Contains, slice_index_or}
use Rattle.std.proofs.lemmas.List.Elements.{Contains-append_right}
use Rattle.table_core.proofs.Lists.{contains_here}

mapped_at : {X Y : Type 0} (f : X → Y) (xs : List X) (y : Y) (k : ℕ) → k < length (map f xs) → slice_index_or (map f xs) k y ≡ y →
    (x : X) × Contains xs x × (f x ≡ y)
mapped_at f [] y k less e = absurd (omega arith)
mapped_at f (x ∷ xs) y zero less e = (x, contains_here x xs, e)
mapped_at f (x ∷ xs) y (suc k) less e =
    let t = mapped_at f xs y k (omega arith) e in (t.0, Contains-append_right (x ∷ []) xs t.0 t.1, t.2)

-- each element comes of one that was there
pub mapped_from : {X Y : Type 0} (f : X → Y) (xs : List X) (y : Y) → Contains (map f xs) y → (x : X) × Contains xs x × (f x ≡ y)
mapped_from f xs y h = mapped_at f xs y h.0 h.1 h.2

has_mapped : {X Y : Type 0} (f : X → Y) (xs : List X) (x : X) (k : ℕ) → k < length xs → slice_index_or xs k x ≡ x → Contains (map f xs) (f x)
has_mapped f [] x k less e = absurd (omega arith)
has_mapped f (y ∷ ys) x zero less e = subst (λ z. Contains (f y ∷ map f ys) z) (ap f e) (contains_here (f y) (map f ys))
has_mapped f (y ∷ ys) x (suc k) less e = Contains-append_right (f y ∷ []) (map f ys) (f x) (has_mapped f ys x k (omega arith) e)

-- what comes of one that was there is there
pub mapped_to : {X Y : Type 0} (f : X → Y) (xs : List X) (x : X) → Contains xs x → Contains (map f xs) (f x)
mapped_to f xs x h = has_mapped f xs x h.0 h.1 h.2
