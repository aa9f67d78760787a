use Rattle.macrocell_reader.proofs.InnerLemmas.{numbers-none, numbers-some}
use Rattle.macrocell_reader.proofs.inner.next_number.Goals as goal

pub returns-in_err-value : goal.returns-in_err-value
returns-in_err-value c =
    rw c.from_residual.ensures (numbers-none c.args.text.now c.trim_start-rest.result.now c.field_length-length.result
    c.trim_start-rest.ensures c.field_length-length.ensures c.in_err-value.ensures)

pub returns : goal.returns
returns c =
    numbers-some c.args.text.now c.trim_start-rest.result.now c.field_length-length.result
    c.trim_start-rest.ensures c.field_length-length.ensures c.in_ok-value.value c.in_ok-value.ensures
