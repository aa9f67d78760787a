-- What holds of each element of a list.
use Rattle.std.proofs.Common.{List, [], ◌∷◌, ◌++◌}
use Rattle.std.specs.List.{AllByRecursion}

module _ {X : Type 0} where
  module _ (P : X → Type 0) where
    pub AllByRecursion-append : (xs ys : List X) → AllByRecursion P xs → AllByRecursion P ys → AllByRecursion P (xs ++ ys)
    AllByRecursion-append [] ys all more = more
    AllByRecursion-append (x ∷ xs) ys all more = (all.0, AllByRecursion-append xs ys all.1 more)

    pub AllByRecursion-middle : (xs : List X) (x : X) (ys : List X) → AllByRecursion P (xs ++ x ∷ ys) → P x
    AllByRecursion-middle [] x ys all = all.0
    AllByRecursion-middle (z ∷ xs) x ys all = AllByRecursion-middle xs x ys all.1

  pub AllByRecursion-weaker : (P Q : X → Type 0) → ((x : X) → P x → Q x) → (xs : List X) → AllByRecursion P xs → AllByRecursion Q xs
  AllByRecursion-weaker P Q weaker [] all = tt
  AllByRecursion-weaker P Q weaker (x ∷ xs) all = (weaker x all.0, AllByRecursion-weaker P Q weaker xs all.1)
