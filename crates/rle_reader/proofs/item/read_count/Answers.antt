use Rattle.std.proofs.Common.{sym, ◌∙◌, arith, refl}
use Rattle.rle_reader.proofs.ItemLemmas.{read-first, read-more, read-left, count-next, count-end}
use Rattle.rle_reader.proofs.item.read_count.Goals as goal

pub loop-next-init : goal.loop-next-init
loop-next-init c = (
  refl,
  omega arith,
  read-first c.args.first _ c.with_digit-value.result
      (sym c.is_ascii_digit.ensures.value ∙ c.if-not-is_ascii_digit.false) c.with_digit-value.ensures,
)

pub loop-next-preserved : goal.loop-next-preserved
loop-next-preserved c = (
  c.in-Some.ensures.source ∙ c.loop-next.invariant.0,
  omega (arith, c.loop-next.invariant.1, c.in-Some.ensures.place),
  read-more _ _ c.loop-next.value c.with_digit-value-in-Some.result c.in-Some.next
      (read-left _ _ _ c.loop-next.value c.loop-next.invariant.2 c.in-Some.ensures.bytes)
      (sym c.is_ascii_digit-in-Some.ensures.value ∙ c.if-not-is_ascii_digit-2.false) c.with_digit-value-in-Some.ensures,
)

pub returns-then-not-is_ascii_digit-2-clause-count : goal.returns-then-not-is_ascii_digit-2-clause-count
returns-then-not-is_ascii_digit-2-clause-count c =
    count-next _ _ c.loop-next.value c.in-Some.next
    (read-left _ _ _ c.loop-next.value c.loop-next.invariant.2 c.in-Some.ensures.bytes)
    (sym c.is_ascii_digit-in-Some.ensures.value ∙ c.if-not-is_ascii_digit-2.true)

pub returns-clause-count : goal.returns-clause-count
returns-clause-count c =
    count-end _ _ _ c.loop-next.value c.loop-next.invariant.2 c.in_default.ensures.bytes.0 c.in_default.ensures.bytes.1
