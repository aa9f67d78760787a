-- The runs of a body, one after the other.
use Rattle.std.proofs.Common.{◌≡◌, ℕ, List, [], ◌∷◌, map, drop, Option, None, Some, Result, Ok, Err, refl, ap, sym, ◌∙◌}
use Rattle.std.specs.Result.{ok_prefix}
use Rattle.plane.specs.declared.fault.Fault.{Fault}
use Rattle.plane.specs.declared.refusal.Refusal.{Refusal}
use Rattle.rle_reader.specs.declared.body.LocatedByte.{LocatedByte}
use Rattle.rle_reader.specs.Items.{Item, Items, ItemSlice, items_after, items_of, next_among, next_of, run_of, kept}
use Rattle.rle_reader.specs.Meaning.{runs_kept}
use Rattle.rle_reader.proofs.ItemLemmas.{as_kept, seen_some}

-- the runs of these items, as a machine keeps them
abbrev pub kept_runs : List ℕ → List Item → List ItemSlice
kept_runs source items = map kept (ok_prefix (map (run_of source) items))

pub runs_kept-is : (source : List ℕ) (body : List LocatedByte) → runs_kept source body ≡ kept_runs source (items_of body).items
unfolding runs_kept
runs_kept-is source body = refl

first_kept : (found : Result ItemSlice Refusal) (place : ℕ) (run : ItemSlice) (rest : List (Result ItemSlice Refusal)) → as_kept (seen_some found place) ≡ Ok (Some run) → map kept (ok_prefix (found ∷ rest)) ≡ run ∷ map kept (ok_prefix rest)
unfolding as_kept seen_some
first_kept (Ok slice) place run rest is = let same : kept slice ≡ run = cc in ap (λ r. r ∷ map kept (ok_prefix rest)) same
first_kept (Err refusal) place run rest is = cc

none_kept : (found : Result ItemSlice Refusal) (place : ℕ) (rest : List (Result ItemSlice Refusal)) (other : Result (Option ItemSlice) Fault) → as_kept (seen_some found place) ≡ other → ((run : ItemSlice) → other ≡ Ok (Some run) → ⊥) → map kept (ok_prefix (found ∷ rest)) ≡ []
unfolding as_kept seen_some
none_kept (Ok slice) place rest other is no_run = absurd (no_run (kept slice) (sym is))
none_kept (Err refusal) place rest other is no_run = refl

module _ (source : List ℕ) where
  pub kept_runs-first : (items : List Item) (over : List LocatedByte) (run : ItemSlice) → as_kept (next_among source items over) ≡ Ok (Some run) → kept_runs source items ≡ run ∷ kept_runs source (drop 1 items)
  unfolding as_kept next_among seen_some
  kept_runs-first [] [] run is = cc
  kept_runs-first [] (digit ∷ rest) run is = cc
  kept_runs-first (item ∷ items) over run is = first_kept (run_of source item) _ run (map (run_of source) items) is

  pub kept_runs-end : (items : List Item) (over : List LocatedByte) (other : Result (Option ItemSlice) Fault) → as_kept (next_among source items over) ≡ other → ((run : ItemSlice) → other ≡ Ok (Some run) → ⊥) → kept_runs source items ≡ []
  unfolding as_kept next_among seen_some
  kept_runs-end [] over other is no_run = refl
  kept_runs-end (item ∷ items) over other is no_run = none_kept (run_of source item) _ (map (run_of source) items) other is no_run

pub runs_kept-nil : (source : List ℕ) → runs_kept source [] ≡ []
unfolding runs_kept items_of
runs_kept-nil source = refl

-- the runs that are kept, one after the other
pub runs_kept-first : (source source' : List ℕ) (bytes later : List LocatedByte) (run : ItemSlice) → as_kept (next_of source (items_of bytes)) ≡ Ok (Some run) →
    source' ≡ source → items_of later ≡ items_after (items_of bytes) → runs_kept source bytes ≡ run ∷ runs_kept source' later
runs_kept-first source source' bytes later run is same rest =
    runs_kept-is source bytes
    ∙ kept_runs-first source (items_of bytes).items (items_of bytes).left_over run is
    ∙ ap (λ (f : Items). run ∷ kept_runs source f.items) (sym rest)
    ∙ ap (λ s. run ∷ kept_runs s (items_of later).items) (sym same)
    ∙ ap (λ r. run ∷ r) (sym (runs_kept-is source' later))

pub runs_kept-none : (source : List ℕ) (bytes : List LocatedByte) → as_kept (next_of source (items_of bytes)) ≡ Ok None → runs_kept source bytes ≡ []
runs_kept-none source bytes is =
    runs_kept-is source bytes ∙ kept_runs-end source (items_of bytes).items (items_of bytes).left_over (Ok None) is (λ run same. cc)
