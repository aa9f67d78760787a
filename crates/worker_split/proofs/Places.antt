-- What stands at a place of a round.
use Rattle.std.proofs.Common.{◌≡◌, ◌<◌, ◌⊎◌, ℕ, zero, suc, Bool, true, false, All, List, [], ◌∷◌, ◌++◌, length, set, take, sym, refl, ap, ◌∙◌, subst, ⊎_elim, cond, arith, Option, Some, None, MatchOption, replicate, inl, inr, Ok, Err}
use Rattle.std.specs.List.{AllZip, slice_get}
use Rattle.std.specs.Prelude.{IsTrue, IfOk, IfErr, IfSome, slice_index_or}
use Rattle.std.proofs.lemmas.Option.{slice_get-get_or}
use Rattle.plane.specs.declared.refusal.Refusal.TheVariants.{NodesFull}
use Rattle.std.specs.Option.{unwrap_or}
use Rattle.std.proofs.lemmas.List.Elements.{All-append, All-take, AllZip-push}
use Rattle.std.specs.declared.result.Result.{Result}
use Rattle.plane.specs.declared.refusal.Refusal.{Refusal}
use Rattle.squares.specs.declared.sq.Sq.{Sq}
use Rattle.squares.specs.Book.{Book, Keeps}
use Rattle.worker_split.specs.declared.members.Answer.{Answer}
use Rattle.worker_split.specs.Jobs.{HasFuture, IsJob}
use Rattle.worker_split.specs.Rounds.{IsAnswerAt, IsSettled, AreSettled, PlacesFit}
use Rattle.worker_split.proofs.Books.{has_future_kept, job_kept}

pub at_kept : (jobs : List Sq) (old new : Book) (place : ℕ) (future : Sq) → Keeps old new → IsAnswerAt jobs old place future → IsAnswerAt jobs new place future
at_kept jobs old new place future keeps a = record { job = a.job; at = a.at; is_job = job_kept old new a.job keeps a.is_job; is = has_future_kept old new a.job future keeps a.is_job a.is }

pub settled_kept : (jobs : List Sq) (old new : Book) (place : ℕ) (future : Result Sq Refusal) → Keeps old new → IsSettled jobs old place future → IsSettled jobs new place future
settled_kept jobs old new place (Ok f) keeps s = record { within = s.within; ok = at_kept jobs old new place f keeps s.ok; refusal = tt }
settled_kept jobs old new place (Err r) keeps s = record { within = s.within; ok = tt; refusal = (s.refusal.0, keeps.full s.refusal.1) }

pub answers_kept : (jobs : List Sq) (old new : Book) (answers : List Answer) → Keeps old new → AreSettled jobs old answers → AreSettled jobs new answers
answers_kept jobs old new answers keeps are = record { each = λ k d l. settled_kept jobs old new _ _ keeps (are.each k d l) }

-- settled answers name places of the round
pub places_within : (jobs : List Sq) (book : Book) (answers : List Answer) (count : ℕ) → count ≡ length jobs → AreSettled jobs book answers → All (λ (a : Answer). a.place < count) answers
places_within jobs book answers count e are k d less = let h = (are.each k d less).within in omega (arith, h, e)

pub places_kept : (jobs : List Sq) (old new : Book) (places : List (Option (Result Sq Refusal))) → Keeps old new → PlacesFit jobs old places → PlacesFit jobs new places
places_kept jobs old new places keeps fit place future e = settled_kept jobs old new place future keeps (fit place future e)

single : {X : Type 0} (P : X → Type 0) (x : X) → P x → All P (x ∷ [])
single P x h zero d l = h
single P x h (suc k) d l = absurd (omega (arith, l))

pub pushed : {X : Type 0} (P : X → Type 0) (ok : Bool) (xs ys : List X) (x : X) → ys ≡ cond ok (xs ++ x ∷ []) xs → All P xs → P x → All P ys
pushed P true xs ys x is each h = subst (All P) (sym is) (All-append P xs (x ∷ []) each (single P x h))
pushed P false xs ys x is each h = subst (All P) (sym is) each

get_set : {X : Type 0} (xs : List X) (i j : ℕ) (x y : X) → slice_get (set xs i x) j ≡ Some y → ((j ≡ i) × (x ≡ y)) ⊎ (slice_get xs j ≡ Some y)
get_set [] i j x y e = inr e
get_set (z ∷ zs) zero zero x y e = inl (refl, ap (λ o. unwrap_or o x) e)
get_set (z ∷ zs) zero (suc j) x y e = inr e
get_set (z ∷ zs) (suc i) zero x y e = inr e
get_set (z ∷ zs) (suc i) (suc j) x y e = ⊎_elim (λ (h : (j ≡ i) × (x ≡ y)). inl (ap suc h.0, h.1)) (λ (h : slice_get zs j ≡ Some y). inr h) (get_set zs i j x y e)

pub placed : (jobs : List Sq) (book : Book) (places : List (Option (Result Sq Refusal))) (place : ℕ) (future : Result Sq Refusal) → IsSettled jobs book place future → PlacesFit jobs book places → PlacesFit jobs book (set places place (Some future))
placed jobs book places place future a fit j y e = ⊎_elim (λ (h : (j ≡ place) × (Some future ≡ Some y)). subst (λ (p : ℕ × Result Sq Refusal). IsSettled jobs book p.0 p.1) (λ i. (sym h.0 i, ap (λ o. unwrap_or o future) h.1 i)) a)
    (λ (h : slice_get places j ≡ Some (Some y)). fit j y h) (get_set places place j (Some future) (Some y) e)

pub zip_kept : (old new : Book) (xs ys : List Sq) → Keeps old new → All (IsJob old) xs → AllZip (HasFuture old) xs ys → AllZip (HasFuture new) xs ys
zip_kept old new [] [] keeps all h = h
zip_kept old new [] (y ∷ ys) keeps all h = h
zip_kept old new (x ∷ xs) [] keeps all h = h
zip_kept old new (x ∷ xs) (y ∷ ys) keeps all h =
    (has_future_kept old new x y keeps (all 0 x (omega arith)) h.0, zip_kept old new xs ys keeps (λ k d l. all (suc k) d (omega (arith, l))) h.1)

none_some : {X : Type 0} (x : X) → None ≡ Some x → ⊥
none_some x e = subst (λ o. MatchOption o (Unit {0}) (λ _. ⊥)) e tt

take_next : (xs : List Sq) (k : ℕ) (x : Sq) → slice_get xs k ≡ Some x → take (suc k) xs ≡ take k xs ++ x ∷ []
take_next [] k x e = absurd (none_some x e)
take_next (z ∷ zs) zero x e = ap (λ y. y ∷ []) (ap (λ o. unwrap_or o x) e)
take_next (z ∷ zs) (suc k) x e = ap (λ l. z ∷ l) (take_next zs k x e)

all_taken : (P : Sq → Type 0) (k : ℕ) (xs : List Sq) → All P xs → All P (take k xs)
all_taken P k xs all = All-take P k xs all

pub zip_next : (old new : Book) (xs ys zs : List Sq) (k n : ℕ) (y : Sq) → n ≡ suc k → Keeps old new → All (IsJob old) xs → AllZip (HasFuture old) (take k xs) ys → IsAnswerAt xs new k y → zs ≡ ys ++ y ∷ [] → AllZip (HasFuture new) (take n xs) zs
zip_next old new xs ys zs k n y next keeps all h a is =
    let whole : AllZip (HasFuture new) (take k xs ++ a.job ∷ []) (ys ++ y ∷ []) = AllZip-push (HasFuture new) (take k xs) ys a.job y (zip_kept old new (take k xs) ys keeps (all_taken (IsJob old) k xs all) h) a.is in
    let front : take n xs ≡ take k xs ++ a.job ∷ [] = ap (λ i. take i xs) next ∙ take_next xs k a.job a.at in
    subst (λ (p : List Sq × List Sq). AllZip (HasFuture new) p.0 p.1) (λ i. (sym front i, sym is i)) whole

pub settled : (jobs : List Sq) (old new : Book) (place : ℕ) (r : Result Sq Refusal) (sq : Sq) → place < length jobs → slice_get jobs place ≡ Some sq → IsJob old sq → Keeps old new →
    IfOk r (HasFuture new sq) → IfErr r (λ f. (f ≡ NodesFull) × IsTrue new.is_full) → IsSettled jobs new place r
settled jobs old new place (Ok f) sq within at job keeps ok err = record { within = within; ok = record { job = sq; at = at; is_job = job_kept old new sq keeps job; is = ok }; refusal = tt }
settled jobs old new place (Err f) sq within at job keeps ok err = record { within = within; ok = tt; refusal = err }

never : (n place : ℕ) (future : Result Sq Refusal) → slice_get (replicate n None) place ≡ Some (Some future) → ⊥
never zero place future e = let no : ⊥ = cc in no
never (suc n) zero future e = none_some future (ap (λ o. unwrap_or o None) e)
never (suc n) (suc place) future e = never n place future e

pub none_placed : (jobs : List Sq) (book : Book) (places : List (Option (Result Sq Refusal))) (n : ℕ) → places ≡ replicate n None → PlacesFit jobs book places
none_placed jobs book places n is place future e = absurd (never n place future (subst (λ (xs : List (Option (Result Sq Refusal))). slice_get xs place ≡ Some (Some future)) is e))

-- what stands at a place fits
pub fits_at : (jobs : List Sq) (book : Book) (places : List (Option (Result Sq Refusal))) (k : ℕ) → k < length places → PlacesFit jobs book places → IfSome (slice_index_or places k None) (IsSettled jobs book k)
fits_at jobs book places k less fit = elim (slice_index_or places k None) as (λ o. slice_index_or places k None ≡ o → IfSome o (IsSettled jobs book k)) [
  | None ↦ λ is. tt
  | Some future ↦ λ is. fit k future (slice_get-get_or places k None less ∙ ap Some is)
] refl
