use Rattle.std.proofs.Common.{false, ◌≡◌, ◌∷◌, None, Some, Ok, Err, OnSome, rules, ap, sym, subst, ◌∙◌}
use Rattle.std.specs.Option.{option_map}
use Rattle.rle_reader.specs.Body.{stripped_from}
use Rattle.rle_reader.specs.Items.{Items, ItemSlice, items_of, items_after}
use Rattle.rle_reader.specs.Meaning.{runs_kept}
use Rattle.rle_reader.specs.Seen.{run_seen, seen_next}
use Rattle.rle_reader.proofs.ItemLemmas.{as_kept}
use Rattle.rle_reader.proofs.RunLemmas.{kept_runs, runs_kept-is, runs_kept-nil, kept_runs-first, kept_runs-end}
use Rattle.rle_reader.proofs.runs.take_run.Goals as goal
use Rattle.rle_reader.proofs.runs.take_run.Goals.{in_default-via-in-Ok+in_default, in_default-via-in_default}

pub returns-in-Ok-Some : goal.returns-in-Ok-Some
unfolding as_kept
returns-in-Ok-Some c =
    let body = c.args.body.now in
    let next = c.next_run.new.body in
    let source = body.source.now in
    let located_bytes = stripped_from source body.at false in
    let found = items_of located_bytes in
    let later = items_of (stripped_from next.source.now next.at false) in
    let run = run_seen c.in-Ok-Some.run' in
    let rest : later ≡ items_after found = subst (λ o. OnSome o (later ≡ items_after found)) c.in-Ok-Some.field-0-is c.in-Ok-Some.ensures.rest in
    runs_kept-is source located_bytes
    ∙ kept_runs-first source found.items found.left_over run (sym c.in-Ok-Some.ensures.next ∙ ap (λ o. Ok (option_map run_seen o)) c.in-Ok-Some.field-0-is)
    ∙ ap (λ (f : Items). run ∷ kept_runs source f.items) (sym rest)
    ∙ ap (λ s. run ∷ kept_runs s later.items) (sym c.in-Ok-Some.ensures.source)
    ∙ ap (λ r. run ∷ r) (sym (runs_kept-is next.source.now (stripped_from next.source.now next.at false)))

pub returns-in_default : goal.returns-in_default
unfolding as_kept
returns-in_default c =
    let body = c.args.body.now in
    let source = body.source.now in
    let located_bytes = stripped_from source body.at false in
    let found = items_of located_bytes in
    let no_run : (run : ItemSlice) → seen_next c.next_run.result ≡ Ok (Some run) → ⊥ = λ run is. elim c.in_default.branch [
      | in_default-via-in-Ok+in_default w ↦
          let none : w.in_default.field-0 ≡ None = search rules in
          let same : Ok None ≡ Ok (Some run) = sym (ap seen_next w.in_default.is ∙ ap (λ next. Ok (option_map run_seen next)) none) ∙ is in
          cc
      | in_default-via-in_default w ↦ let same : Err w.in_default.field-0 ≡ Ok (Some run) = sym (ap seen_next w.in_default.is) ∙ is in cc
    ] in (
      runs_kept-is source located_bytes
          ∙ kept_runs-end source found.items found.left_over (seen_next c.next_run.result) (sym c.next_run.ensures.next) no_run,
      ap (runs_kept c.close.new.self.source.now) c.close.ensures.closed ∙ runs_kept-nil c.close.new.self.source.now,
    )
