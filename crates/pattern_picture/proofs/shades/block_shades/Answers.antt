use Rattle.std.proofs.Common.{◌≡◌, ℕ, ℤ, ◌+ℤ◌, ◌++◌, List, ap, ◌∙◌, refl, sym, arith, rules, w64, SFits}
use Rattle.std.proofs.lemmas.Int.{ints, to_z-of_z}
use Rattle.plane.specs.Centred.{centred}
use Rattle.plane.specs.Plane.{Plane}
use Rattle.plane.proofs.Same.{plane_equal}
use Rattle.squares.proofs.Kept.{keeps_none, keeps_trans, known_kept}
use Rattle.viewport.specs.Blocks.{block_counts}
use Rattle.pattern_picture.specs.Shades.{row_shades}
use Rattle.viewport.proofs.NearBlocks.{near_range}
use Rattle.pattern_picture.proofs.RowsOfShades.{row_drawn}
use Rattle.viewport.proofs.PictureLines.{none_drawn}
use Rattle.plane.specs.declared.refusal.Refusal.TheVariants.{NoMemory}
use Rattle.plane.proofs.SentErrors.{sent_on}
use Rattle.pattern_picture.proofs.shades.block_shades.Goals as goal

pub loop-step-init : goal.loop-step-init
loop-step-init g c =
    (c.new-shades.ensures.items ∙ sym (none_drawn (row_shades (centred c.args.sq.level ((g.L.Look.book c.args.look.now).cells c.args.sq)) c.args.blocks) c.args.blocks.top), keeps_none _, search rules)

pub overflow_add-blocks : goal.overflow_add-blocks
overflow_add-blocks g c =
    let near = near_range _ _ _ c.requires.rows in
    let low = near.low in let high = near.high in
    let top : SFits w64 c.args.blocks.top = omega (arith, ints, low, high) in
    let on : SFits w64 c.from.result = search rules in
    simp (to_z-of_z, c.from.ensures) (omega (arith, ints, low, high))

pub count_blocks-requires-clause-columns : goal.count_blocks-requires-clause-columns
count_blocks-requires-clause-columns g c = near_range _ _ _ c.requires.columns

pub loop-step-preserved : goal.loop-step-preserved
loop-step-preserved g c =
    let near = near_range _ _ _ c.requires.rows in
    let low = near.low in let high = near.high in
    let top : SFits w64 c.args.blocks.top = omega (arith, ints, low, high) in
    let on : SFits w64 c.from.result = search rules in
    let there : SFits w64 (c.args.blocks.top +ℤ c.from.result) = rw c.from.ensures (omega (arith, ints, low, high)) in
    let book = g.L.Look.book c.args.look.now in
    let now = g.L.Look.book c.loop-step.from.0.now in
    let keeps = c.loop-step.invariant.1 in
    let same : centred c.args.sq.level (now.cells c.args.sq) ≡ centred c.args.sq.level (book.cells c.args.sq) =
    ap (centred c.args.sq.level) (plane_equal (now.cells c.args.sq) (book.cells c.args.sq) (keeps.cells c.args.sq c.requires.known.known)) in
    let Row : Plane → ℤ → List ℕ = λ p z. block_counts p c.args.blocks.exponent z c.args.blocks.left c.args.blocks.width in
    let plane : Plane = centred c.args.sq.level (book.cells c.args.sq) in
    let counted = simp to_z-of_z at c.in_ok-count_blocks.ensures.ok in
    let place = ap (λ z. Row plane (c.args.blocks.top +ℤ z)) c.from.ensures in (
      row_drawn (centred c.args.sq.level (book.cells c.args.sq)) c.args.blocks c.loop-step.step c.loop-step.shades.items c.add_shades.new.shades.items c.deref.result.now
          c.loop-step.invariant.0 c.in_ok-add_shades.ensures.ok
          (c.deref.ensures.value ∙ counted ∙ ap (λ l. l ++ Row (centred c.args.sq.level (now.cells c.args.sq)) (c.args.blocks.top +ℤ c.from.result)) c.clear.ensures.items
          ∙ ap (λ (p : Plane). Row p (c.args.blocks.top +ℤ c.from.result)) same ∙ place),
      keeps_trans keeps c.in_ok-count_blocks.ensures.keeps,
      c.in_ok-count_blocks.ensures.counted,
    )

pub returns-clause-ok : goal.returns-clause-ok
returns-clause-ok g c =
    let all : c.loop-step.step ≡ c.args.blocks.height = omega arith in
    rw all at c.loop-step.invariant.0

pub count_blocks-requires-clause-known : goal.count_blocks-requires-clause-known
count_blocks-requires-clause-known g c = known_kept c.loop-step.invariant.1 c.requires.known

pub count_blocks-requires-clause-level : goal.count_blocks-requires-clause-level
count_blocks-requires-clause-level g c = c.requires.level

pub count_blocks-requires-clause-counted : goal.count_blocks-requires-clause-counted
count_blocks-requires-clause-counted g c = c.loop-step.invariant.2

pub returns-in_err-count_blocks-clause-memory : goal.returns-in_err-count_blocks-clause-memory
returns-in_err-count_blocks-clause-memory g c =
    sent_on (λ refusal. refusal ≡ NoMemory) c.from_residual.result NoMemory c.from_residual.ensures.1 refl

pub returns-in_err-add_shades-clause-memory : goal.returns-in_err-add_shades-clause-memory
returns-in_err-add_shades-clause-memory g c =
    sent_on (λ refusal. refusal ≡ NoMemory) c.from_residual-in_err-add_shades.result NoMemory c.from_residual-in_err-add_shades.ensures.1 refl
