use Rattle.std.proofs.Common.{sym, subst}
use Rattle.program_parts.specs.WindowText.{IsSigned}
use Rattle.program_parts.proofs.WindowTexts.{column_cut, column_not_cut, four_parts, no_signed, no_unsigned, row_cut, row_not_cut, signed, signed_back, sizes_cut, sizes_not_cut, unsigned}
use Rattle.program_parts.proofs.window_text.WindowNumbers.read.Goals as goal

pub returns-in_err-x-clause-none : goal.returns-in_err-x-clause-none
returns-in_err-x-clause-none c = λ _ window writes. column_not_cut c.args.text.now window writes c.in_err-x.ensures.cases

pub returns-in_err-y-clause-none : goal.returns-in_err-y-clause-none
returns-in_err-y-clause-none c = λ _ window writes.
    let column = column_cut c.args.text.now window writes c.in_ok-x.x c.in_ok-x.behind c.in_ok-x.ensures.cases in
    row_not_cut c.args.text.now window writes c.in_ok-x.behind.now column.1 c.in_err-y.ensures.cases

pub returns-in_err-width-clause-none : goal.returns-in_err-width-clause-none
returns-in_err-width-clause-none c = λ _ window writes.
    let column = column_cut c.args.text.now window writes c.in_ok-x.x c.in_ok-x.behind c.in_ok-x.ensures.cases in
    let row = row_cut c.args.text.now window writes c.in_ok-x.behind.now column.1 c.in_ok-y.y c.in_ok-y.behind c.in_ok-y.ensures.cases in
    sizes_not_cut c.args.text.now window writes c.in_ok-y.behind.now row.1 c.in_err-width.ensures.cases

pub returns-in_err-ok-clause-none : goal.returns-in_err-ok-clause-none
returns-in_err-ok-clause-none c = λ _ window writes.
    let column = column_cut c.args.text.now window writes c.in_ok-x.x c.in_ok-x.behind c.in_ok-x.ensures.cases in
    no_signed c.in_ok-x.x.now writes.x window.x c.parse.result (sym c.in_err-ok.ensures.value) c.parse.ensures.value.0 column.0 writes.column

pub returns-in_err-ok-2-clause-none : goal.returns-in_err-ok-2-clause-none
returns-in_err-ok-2-clause-none c = λ _ window writes.
    let column = column_cut c.args.text.now window writes c.in_ok-x.x c.in_ok-x.behind c.in_ok-x.ensures.cases in
    let row = row_cut c.args.text.now window writes c.in_ok-x.behind.now column.1 c.in_ok-y.y c.in_ok-y.behind c.in_ok-y.ensures.cases in
    no_signed c.in_ok-y.y.now writes.y window.y c.parse-2.result (sym c.in_err-ok-2.ensures.value) c.parse-2.ensures.value.0 row.0 writes.row

pub returns-in_err-ok-3-clause-none : goal.returns-in_err-ok-3-clause-none
returns-in_err-ok-3-clause-none c = λ _ window writes.
    let column = column_cut c.args.text.now window writes c.in_ok-x.x c.in_ok-x.behind c.in_ok-x.ensures.cases in
    let row = row_cut c.args.text.now window writes c.in_ok-x.behind.now column.1 c.in_ok-y.y c.in_ok-y.behind c.in_ok-y.ensures.cases in
    let sizes = sizes_cut c.args.text.now window writes c.in_ok-y.behind.now row.1 c.in_ok-width.width c.in_ok-width.height c.in_ok-width.ensures.cases in
    no_unsigned c.in_ok-width.width.now writes.width window.width c.parse-3.result (sym c.in_err-ok-3.ensures.value) c.parse-3.ensures.value.0 sizes.0 writes.columns

pub returns-in_err-ok-4-clause-none : goal.returns-in_err-ok-4-clause-none
returns-in_err-ok-4-clause-none c = λ _ window writes.
    let column = column_cut c.args.text.now window writes c.in_ok-x.x c.in_ok-x.behind c.in_ok-x.ensures.cases in
    let row = row_cut c.args.text.now window writes c.in_ok-x.behind.now column.1 c.in_ok-y.y c.in_ok-y.behind c.in_ok-y.ensures.cases in
    let sizes = sizes_cut c.args.text.now window writes c.in_ok-y.behind.now row.1 c.in_ok-width.width c.in_ok-width.height c.in_ok-width.ensures.cases in
    no_unsigned c.in_ok-width.height.now writes.height window.height c.parse-4.result (sym c.in_err-ok-4.ensures.value) c.parse-4.ensures.value.0 sizes.1 writes.rows

pub returns-clause-written : goal.returns-clause-written
returns-clause-written c =
    let column = signed c.in_ok-x.x.now c.in_ok-ok.field-0 c.parse.result (sym c.in_ok-ok.ensures.value) c.parse.ensures.value.0 in
    let row = signed c.in_ok-y.y.now c.in_ok-ok-2.field-0 c.parse-2.result (sym c.in_ok-ok-2.ensures.value) c.parse-2.ensures.value.0 in
    record {
      x = c.in_ok-x.x.now;
      y = c.in_ok-y.y.now;
      width = c.in_ok-width.width.now;
      height = c.in_ok-width.height.now;
      parts = four_parts c.args.text.now c.in_ok-x.x c.in_ok-y.y c.in_ok-width.width c.in_ok-width.height c.in_ok-x.behind c.in_ok-y.behind c.in_ok-x.ensures.cases c.in_ok-y.ensures.cases c.in_ok-width.ensures.cases;
      column = subst (IsSigned c.in_ok-x.x.now) (sym (signed_back c.in_ok-ok.field-0 column.2)) column;
      row = subst (IsSigned c.in_ok-y.y.now) (sym (signed_back c.in_ok-ok-2.field-0 row.2)) row;
      columns = unsigned c.in_ok-width.width.now c.in_ok-ok-3.field-0 c.parse-3.result (sym c.in_ok-ok-3.ensures.value) c.parse-3.ensures.value.0;
      rows = unsigned c.in_ok-width.height.now c.in_ok-ok-4.field-0 c.parse-4.result (sym c.in_ok-ok-4.ensures.value) c.parse-4.ensures.value.0;
    }
