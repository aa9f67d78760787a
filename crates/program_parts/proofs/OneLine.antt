-- Texts without a line feed.
use Rattle.std.proofs.Common.{◌≡◌, ◌≢◌, ℕ, zero, suc, ◌<◌, List, [], ◌∷◌, ◌++◌, Bor, Option, Some, false, refl, sym, subst, arith}
use Rattle.std.specs.Option.{option_map}
use Rattle.std.specs.List.{All, slice_get}
use Rattle.std.specs.Prelude.{slice_index_or}
use Rattle.std.specs.Iterator.Runs.{EveryRun, Run, Trigger, YieldsRun}
use Rattle.std.specs.Str.{IsTrim}
use Rattle.std.specs.Str.Iter.{IsLinesRun, LacksByte, lines_rest, lines_steps}
use Rattle.std.proofs.lemmas.Grind.{get_or_default_zero}
use Rattle.std.proofs.lemmas.List.Elements.{All-append, All-cons, All-drop, All-nil, All-take}

-- no byte is a line feed
abbrev pub IsOneLine : List ℕ → Type 0
IsOneLine bytes = All (λ byte. byte ≢ 10) bytes

pub lacking : (bytes : List ℕ) → LacksByte 10 bytes → IsOneLine bytes
lacking bytes lacks = λ k d below. subst (λ byte. byte ≢ 10) (sym (get_or_default_zero bytes k d below)) (lacks k below)

-- ---- what one call of an iterator gives

one_item : {A : Type 0} (item : A) (k : ℕ) (d : A) → k < 1 → option_map (λ y. y) (slice_get (item ∷ []) k) ≡ Some (slice_index_or (item ∷ []) k d)
one_item item zero d below = refl
one_item item (suc k) d below = absurd (omega (arith, below))

one_step : {S A : Type 0} (steps : S → Option A → S → Type 0) (from to : S) (item : A) → steps from (Some item) to → Run steps
unfolding Trigger YieldsRun
one_step steps from to item step = record {
  from = from;
  items = item ∷ [];
  whole = false;
  len = 1;
  at = slice_get (item ∷ []);
  seen = tt;
  long = refl;
  reads = one_item item;
  gave = ((to, (to, step, refl), λ whole. absurd cc), λ k. refl);
}

-- a line of a text has none
pub line_lacks : (from to : _) (line : Bor (List ℕ)) → EveryRun lines_steps (λ p. IsLinesRun p (lines_rest p.from)) → lines_steps from (Some line) to → LacksByte 10 line.now
unfolding Trigger one_step
line_lacks from to line runs step = let read = runs (one_step lines_steps from to line step) tt in (read.2 0).1

-- nor has what is left of it without white space round it
pub trimmed : (bytes rest : List ℕ) → IsTrim bytes rest → IsOneLine bytes → IsOneLine rest
trimmed bytes rest trim one = subst IsOneLine (sym trim.2) (All-take (λ byte. byte ≢ 10) trim.1 _ (All-drop (λ byte. byte ≢ 10) trim.0 bytes one))

pub none_in : IsOneLine []
none_in = All-nil (λ byte. byte ≢ 10)

-- a text, a mark and a line of another
pub one_more : (text mark line : List ℕ) → IsOneLine text → IsOneLine mark → IsOneLine line → IsOneLine (text ++ (mark ++ line))
one_more text mark line first between second =
    All-append (λ byte. byte ≢ 10) text (mark ++ line) first (All-append (λ byte. byte ≢ 10) mark line between second)
