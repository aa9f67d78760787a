use Rattle.std.proofs.Common.{◌≡◌, ◌≢◌, true, false, inl, inr, ◌-◌, length, ap, arith, rules, w64, SFits}
use Rattle.std.specs.Prelude.{IsTrue}
use Rattle.std.proofs.lemmas.Int.{to_z-of_z}
use Rattle.std.proofs.lemmas.Bool.{false≢true, cases_lt}
use Rattle.viewport.specs.RowRuns.{end_of}
use Rattle.viewport.proofs.RunsBeside.{grown_last, pushed_behind, pushed_first}
use Rattle.viewport.proofs.runs.add_run.Goals as goal
use Rattle.viewport.proofs.runs.add_run.Goals.{in-Some+else-ends_at, in_default}

not_true : IsTrue false → ⊥
not_true h = search rules

pub returns-then-ends_at : goal.returns-then-ends_at
returns-then-ends_at c =
    let first : SFits w64 c.args.first = search rules in
    let yes : IsTrue true = search rules in
    let touch = simp to_z-of_z at (c.if-ends_at.ensures.0 yes) in
    record { ok = rw c.longer.ensures (grown_last c.args.runs.now.items c.in-Some.last.now _ c.args.first c.args.count (ap (λ n. n - 1) c.args.runs.now.ok.0) c.in-Some.ensures.item.3.0 c.in-Some.ensures.value c.requires.some c.requires.before touch) }

pub returns : goal.returns
returns c =
    let first : SFits w64 c.args.first = search rules in
    elim c.match-last_mut.branch [
      | in-Some+else-ends_at w ↦
          let apart : end_of w.in-Some.last.now ≢ c.args.first = λ e. not_true (w.if-ends_at.ensures.1 (simp to_z-of_z e)) in
          record {
            ok = rw c.in_ok-push.ensures.items (rw w.runs-is (simp to_z-of_z
                (pushed_behind c.args.runs.now.items w.in-Some.last.now _ c.args.first c.args.count (ap (λ n. n - 1) c.args.runs.now.ok.0) w.in-Some.ensures.item.3.0 w.in-Some.ensures.value c.requires.some c.requires.before apart)));
          }
      | in_default w ↦
          let none : length c.args.runs.now.items ≡ 0 = elim (cases_lt 0 (length c.args.runs.now.items)) as (λ _. length c.args.runs.now.items ≡ 0) [
            | inl h ↦ absurd (false≢true (w.in_default.ensures.variant.1 (let len = c.args.runs.now.ok.0 in omega arith)))
            | inr h ↦ omega arith
          ] in
          record { ok = rw c.in_ok-push.ensures.items (rw w.runs-is (simp to_z-of_z (pushed_first c.args.runs.now.items c.args.first c.args.count none c.requires.some c.requires.before))) }
    ]
