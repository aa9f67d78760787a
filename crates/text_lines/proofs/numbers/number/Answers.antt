use Rattle.std.proofs.Common.{◌∙◌, sym, arith, ◌≡◌, ◌<◌, length}
use Rattle.std.proofs.lemmas.Bool.Decides.{nat_tests}
use Rattle.text_lines.proofs.NumberLemmas.{number_of-empty, read_on-next, read_on-stop, read_on-all}
use Rattle.text_lines.proofs.numbers.number.Goals as goal

pub returns-then-is_empty : goal.returns-then-is_empty
returns-then-is_empty c =
    let empty : length c.args.text.now ≡ 0 = grind (arith, nat_tests) in
    number_of-empty c.args.text.now empty

pub returns-then-not-is_ascii_digit : goal.returns-then-not-is_ascii_digit
returns-then-not-is_ascii_digit c =
    read_on-stop c.args.text.now c.loop-byte.value c.loop-byte.byte-index c.loop-byte.invariant.0
    c.loop-byte-test.true (sym c.is_ascii_digit.ensures.value ∙ c.if-not-is_ascii_digit.true)

pub loop-byte-preserved : goal.loop-byte-preserved
loop-byte-preserved c = (
  read_on-next c.args.text.now c.loop-byte.value c.loop-byte.byte-index c.loop-byte.invariant.0
      c.with_digit-value.result c.loop-byte-test.true
      (sym c.is_ascii_digit.ensures.value ∙ c.if-not-is_ascii_digit.false) c.with_digit-value.ensures,
  omega (arith, c.with_digit-value.ensures),
)

pub returns : goal.returns
returns c =
    let some : 0 < length c.args.text.now = grind (arith, nat_tests) in
    read_on-all c.args.text.now c.loop-byte.value c.loop-byte.byte-index c.loop-byte.invariant.0
    some c.loop-byte-test.false c.loop-byte.invariant.1
