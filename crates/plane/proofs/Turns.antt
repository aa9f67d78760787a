-- The turns of a loop over a list: what is done, the item, and what is left.
use Rattle.std.proofs.Common.{◌≡◌, List, [], ◌∷◌, ◌++◌, Bor, map, sym, ◌∙◌, ap, append_assoc}
use Rattle.std.specs.List.{AllByRecursion}
use Rattle.std.specs.Map.Iter.{deref}
use Rattle.std.proofs.lemmas.List.{map-append}
use Rattle.plane.proofs.Elements.{AllByRecursion-append, AllByRecursion-middle, AllByRecursion-weaker}

module _ {X : Type 0} where
  -- the item goes from what is left to what is done
  pub one_done : (all : List X) (done : List (Bor X)) (x : Bor X) (left rest : List X) →
      map deref done ++ left ≡ all → left ≡ x.now ∷ rest → map deref (done ++ x ∷ []) ++ rest ≡ all
  one_done all done x left rest whole step =
      ap (λ l. l ++ rest) (map-append deref done (x ∷ [])) ∙ append_assoc (map deref done) (x.now ∷ []) rest
      ∙ ap (λ l. map deref done ++ l) (sym step) ∙ whole

  -- what holds of the whole list holds of the item
  pub holds_of_item : (P : X → Type 0) (all done : List X) (x : X) (left rest : List X) → done ++ left ≡ all → left ≡ x ∷ rest → AllByRecursion P all → P x
  holds_of_item P all done x left rest whole step holds =
      let is : all ≡ done ++ x ∷ rest = sym whole ∙ ap (λ l. done ++ l) step in
      AllByRecursion-middle P done x rest (rw is at holds)

  -- what holds of each item that is done, and of this one, holds of each item then
  pub holds_of_done : (P Q : X → Type 0) (done : List (Bor X)) (x : Bor X) → ((y : X) → P y → Q y) →
      AllByRecursion P (map deref done) → Q x.now → AllByRecursion Q (map deref (done ++ x ∷ []))
  holds_of_done P Q done x weaker holds here =
      rw (map-append deref done (x ∷ [])) (AllByRecursion-append Q (map deref done) (x.now ∷ []) (AllByRecursion-weaker P Q weaker (map deref done) holds) (here, tt))
