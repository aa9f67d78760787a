-- What a sink has taken, where bytes wait in a block.
use Rattle.std.proofs.Common.{◌≡◌, ℕ, ◌+◌, ◌<◌, List, [], ◌++◌, ap, sym, subst, ◌∙◌, append-nil, append_assoc, drop, flat_map, get_or, length}
use Rattle.std.proofs.lemmas.Bool.{false≢true}
use Rattle.std.specs.Prelude.{Option, Result, Ok, Err, IfErr, IsErr, IsErrAnd, OnErr}
use Rattle.std.specs.Io.KnownBytes.{Appends}
use Rattle.std.proofs.KnownBytes.{Appends-nil, Appends-trans}
use Rattle.pattern_writers.specs.Output.{AppendsBuffered}
use Rattle.pattern_writers.proofs.BodyText.{drop_step}
use Rattle.plane.proofs.Beginnings.{beginning_as, beginning_of_more, text_and_beginning}
use Rattle.plane.specs.Device.{AppendsBeginning, IsWriteRefusal, TellsFailure}
use Rattle.plane.specs.declared.refusal.Refusal.{Refusal}

-- nothing was put
pub buffered_none : (taken : Option (List ℕ)) (block : List ℕ) → AppendsBuffered taken block taken block []
buffered_none taken block = record { out = []; taken = Appends-nil taken; waiting = append-nil block }

-- a text and then another
pub buffered_more : {a b c : Option (List ℕ)} {p q r x y : List ℕ} → AppendsBuffered a p b q x → AppendsBuffered b q c r y → AppendsBuffered a p c r (x ++ y)
buffered_more {a} {b} {c} {p} {q} {r} {x} {y} first second = record {
  out = first.out ++ second.out;
  taken = Appends-trans a b c first.out second.out first.taken second.taken;
  waiting =
      sym (append_assoc p x y) ∙ ap (λ l. l ++ y) first.waiting ∙ append_assoc first.out q y
      ∙ ap (λ l. first.out ++ l) second.waiting ∙ sym (append_assoc first.out second.out r);
}

-- a text that was put into a block that was empty, and that has gone out
pub block_out : {before waiting : Option (List ℕ)} {first last text : List ℕ} (after : Option (List ℕ)) → first ≡ [] → AppendsBuffered before first waiting last text →
    Appends waiting after last → Appends before after text
block_out {before} {waiting} {first} {last} {text} after none put out =
    subst (Appends before after) (sym put.waiting ∙ ap (λ l. l ++ text) none) (Appends-trans before waiting after put.out last put.taken out)

-- a piece of which a beginning went out, before the rest of the text
pub first_broken_off : {b c : Option (List ℕ)} (waiting piece more : List ℕ) → AppendsBeginning b c (waiting ++ piece) → AppendsBeginning b c (waiting ++ (piece ++ more))
first_broken_off waiting piece more begun = beginning_as (append_assoc waiting piece more) (beginning_of_more more begun)

-- the same behind another part of the text
pub broken_off : {a b c : Option (List ℕ)} {p q before : List ℕ} (piece more text : List ℕ) → AppendsBuffered a p b q before → AppendsBeginning b c (q ++ piece) →
    text ≡ before ++ (piece ++ more) → AppendsBeginning a c (p ++ text)
broken_off {p = p} {q} {before} piece more text put begun is =
    beginning_as
    (ap (λ l. put.out ++ l) (append_assoc q piece more) ∙ sym (append_assoc put.out q (piece ++ more)) ∙ ap (λ l. l ++ (piece ++ more)) (sym put.waiting)
    ∙ append_assoc p before (piece ++ more) ∙ ap (λ l. p ++ l) (sym is))
    (text_and_beginning put.out put.taken (beginning_of_more more begun))

-- a block of which a beginning went out, behind the rest of a text
pub block_broken_off : {before waiting after : Option (List ℕ)} {first last text : List ℕ} → first ≡ [] → AppendsBuffered before first waiting last text →
    AppendsBeginning waiting after last → AppendsBeginning before after text
block_broken_off {text = text} none put begun = beginning_as (sym put.waiting ∙ ap (λ l. l ++ text) none) (text_and_beginning put.out put.taken begun)

-- a beginning behind a block that was empty
pub begun_first : {before after : Option (List ℕ)} {first text : List ℕ} → first ≡ [] → AppendsBeginning before after (first ++ text) → AppendsBeginning before after text
begun_first {text = text} none begun = beginning_as (ap (λ l. l ++ text) none) begun

-- what holds at an error
pub on_err : {T E P : Type 0} (made : Result T E) → P → OnErr made P
on_err (Ok value) p = tt
on_err (Err e) p = p

-- what holds of an error, and what holds at it
pub both_err : {T E : Type 0} (P : E → Type 0) (Q : Type 0) (made : Result T E) → IfErr made P → OnErr made Q → IfErr made (λ e. P e × Q)
both_err P Q (Ok value) p q = tt
both_err P Q (Err e) p q = (p, q)

-- the texts of some values, of which one more is a piece
pub one_more : {X : Type 0} (f : X → List ℕ) (xs : List X) (i : ℕ) (d : X) (before piece : List ℕ) → i < length xs → piece ≡ f (get_or xs i d) →
    flat_map f xs ≡ before ++ flat_map f (drop i xs) → flat_map f xs ≡ before ++ (piece ++ flat_map f (drop (i + 1) xs))
one_more f xs i d before piece inside is so_far =
    so_far ∙ ap (λ l. before ++ flat_map f l) (drop_step xs i d inside) ∙ ap (λ l. before ++ (l ++ flat_map f (drop (i + 1) xs))) (sym is)

-- a refusal that is passed on tells what it told
pub passed_on : {T U : Type 0} (start before after : ℕ) (refusal : Refusal) (made : Result T Refusal) → before ≡ start →
    IsErr made → IsErrAnd made (λ e. e ≡ refusal) → TellsFailure {T = U} before after (Err refusal) → TellsFailure start after made
passed_on start before after refusal (Ok value) from err same told = absurd (false≢true err)
passed_on start before after refusal (Err e) from err same told = record {
  unfailed = tt;
  refused = subst (IsWriteRefusal start after) (sym same) (subst (λ n. IsWriteRefusal n after refusal) from told.refused);
}

-- a call tells the same from an earlier count on that was still the count then
pub told_since : {T : Type 0} (start before after : ℕ) (made : Result T Refusal) → before ≡ start → TellsFailure before after made → TellsFailure start after made
told_since start before after made from told = subst (λ n. TellsFailure n after made) from told
