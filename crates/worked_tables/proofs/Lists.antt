-- A list with one more element, if there was memory for it.
use Rattle.std.proofs.Common.{◌≡◌, Bool, true, false, All, List, [], ◌∷◌, ◌++◌, cond, sym, subst}
use Rattle.std.proofs.lemmas.List.Elements.{All-push}

pub pushed : {X : Type 0} (P : X → Type 0) (ok : Bool) (xs ys : List X) (x : X) → ys ≡ cond ok (xs ++ x ∷ []) xs → All P xs → P x → All P ys
pushed P true xs ys x is each h = subst (All P) (sym is) (All-push P xs x each h)
pushed P false xs ys x is each h = subst (All P) (sym is) each
