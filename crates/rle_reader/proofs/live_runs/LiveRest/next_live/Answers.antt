use Rattle.std.proofs.Common.{◌≡◌, ◌∷◌, ◌++◌, ◌+◌, false, arith, rules, ap, sym, ◌∙◌, length}
use Rattle.plane.specs.declared.cell.Cell.{Cell}
use Rattle.rle_reader.specs.Body.{stripped_from}
use Rattle.rle_reader.specs.declared.item.Tag.TheVariants.{Live}
use Rattle.rle_reader.specs.LiveLeft.{live_left, live_rest}
use Rattle.rle_reader.specs.LiveRuns.{live_run}
use Rattle.rle_reader.proofs.LiveLemmas.{left_digit, left_passed, left_stop, left_end, no_run}
use Rattle.rle_reader.proofs.live_runs.LiveRest.next_live.Goals as goal
use Rattle.rle_reader.proofs.live_runs.LiveRest.next_live.Goals.{else-loop-self-test, then-loop-self-test+else-is_ascii_digit+in_default+then-not-is_skipped}

pub loop-self-preserved-then-is_ascii_digit : goal.loop-self-preserved-then-is_ascii_digit
loop-self-preserved-then-is_ascii_digit c =
    let rest = c.loop-self.self in
    ap (λ count. live_left rest.left rest.column rest.row count (stripped_from rest.source.now (rest.at + 1) false)) c.with_digit-count.ensures
    ∙ sym (left_digit rest.source.now rest.at c.loop-self-test.true rest.left rest.column rest.row c.loop-self.count
    (sym c.is_ascii_digit.ensures.value ∙ c.if-is_ascii_digit.true))
    ∙ c.loop-self.invariant

pub returns-then-eq : goal.returns-then-eq
returns-then-eq c =
    let rest = c.loop-self.self in
    let after = c.pass.new.self in
    let tag = c.in-Ok.tag in
    let live : tag ≡ Live = search rules in
    let cell : Cell = record { y = rest.row; x = rest.column } in
    sym c.loop-self.invariant
    ∙ left_passed rest.source.now after.source.now rest.at after.at rest.left rest.column rest.row after.left after.column after.row c.loop-self.count c.max.result tag
    c.loop-self-test.true (sym c.is_ascii_digit.ensures.value ∙ c.if-is_ascii_digit.false) (sym c.in-Ok.ensures) c.max.ensures
    c.pass.ensures.source c.pass.ensures.at c.pass.ensures.left c.pass.ensures.column c.pass.ensures.row
    ∙ ap (λ t. live_run cell t c.max.result ++ live_rest after) live
    ∙ ap (λ (first : Cell). (first, c.max.result) ∷ live_rest after) (sym c.cell.ensures)

pub loop-self-preserved : goal.loop-self-preserved
loop-self-preserved c =
    let rest = c.loop-self.self in
    let after = c.pass.new.self in
    let tag = c.in-Ok.tag in
    let other : tag ≡ Live → ⊥ = search rules in
    let cell : Cell = record { y = rest.row; x = rest.column } in
    sym (no_run cell tag c.max.result (live_rest after) other)
    ∙ sym (left_passed rest.source.now after.source.now rest.at after.at rest.left rest.column rest.row after.left after.column after.row c.loop-self.count c.max.result tag
    c.loop-self-test.true (sym c.is_ascii_digit.ensures.value ∙ c.if-is_ascii_digit.false) (sym c.in-Ok.ensures) c.max.ensures
    c.pass.ensures.source c.pass.ensures.at c.pass.ensures.left c.pass.ensures.column c.pass.ensures.row)
    ∙ c.loop-self.invariant

pub returns : goal.returns
returns c =
    let rest = c.loop-self.self in
    let closed = left_end rest.source.now (length rest.source.now) rest.left rest.column rest.row 0 (omega arith) in
    elim c.loop-self-test.branch [
      | else-loop-self-test w ↦
          (sym c.loop-self.invariant ∙ left_end rest.source.now rest.at rest.left rest.column rest.row c.loop-self.count w.loop-self-test.false, closed)
      | then-loop-self-test+else-is_ascii_digit+in_default+then-not-is_skipped w ↦ (
        sym c.loop-self.invariant ∙ left_stop rest.source.now rest.at w.loop-self-test.true rest.left rest.column rest.row c.loop-self.count w.in_default.field-0
            (sym w.is_ascii_digit.ensures.value ∙ w.if-is_ascii_digit.false) (sym w.is_skipped.ensures ∙ w.if-not-is_skipped.true) (search rules),
        closed,
      )
    ]
