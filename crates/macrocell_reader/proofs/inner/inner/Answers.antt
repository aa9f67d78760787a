use Rattle.std.proofs.Common.{◌≡◌, ◌<◌, ◌∙◌, ap, sym, length, arith}
use Rattle.std.proofs.lemmas.Bool.Decides.{nat_tests}
use Rattle.macrocell_reader.specs.Inner.{numbers}
use Rattle.macrocell_reader.proofs.InnerLemmas.{node_from, node_from-is, too_few-0, too_few-1, too_few-2, too_few-3, too_few-4, too_many, five_kept, fields_left, numbers-end, after}
use Rattle.macrocell_reader.proofs.inner.inner.Goals as goal

pub returns-in_err-level : goal.returns-in_err-level
returns-in_err-level c =
    c.from_residual.ensures ∙ sym (too_few-0 (numbers c.args.line.now) c.in_err-level.ensures) ∙ node_from-is (numbers c.args.line.now)

pub returns-in_err-nw : goal.returns-in_err-nw
returns-in_err-nw c =
    let a = c.in_ok-level.ensures in
    c.from_residual-in_err-nw.ensures
    ∙ sym (too_few-1 (numbers c.in_ok-level.rest.now) c.in_err-nw.ensures a.0)
    ∙ ap node_from (sym a.1) ∙ node_from-is (numbers c.args.line.now)

pub returns-in_err-ne : goal.returns-in_err-ne
returns-in_err-ne c =
    let a = c.in_ok-level.ensures in
    let b = c.in_ok-nw.ensures in
    c.from_residual-in_err-ne.ensures
    ∙ sym (too_few-2 (numbers c.in_ok-nw.rest.now) c.in_err-ne.ensures a.0 b.0)
    ∙ ap node_from (sym (after a.0 a.1 b.1)) ∙ node_from-is (numbers c.args.line.now)

pub returns-in_err-sw : goal.returns-in_err-sw
returns-in_err-sw c =
    let a = c.in_ok-level.ensures in
    let b = c.in_ok-nw.ensures in
    let d = c.in_ok-ne.ensures in
    c.from_residual-in_err-sw.ensures
    ∙ sym (too_few-3 (numbers c.in_ok-ne.rest.now) c.in_err-sw.ensures a.0 b.0 d.0)
    ∙ ap node_from (sym (after a.0 a.1 (after b.0 b.1 d.1))) ∙ node_from-is (numbers c.args.line.now)

pub returns-in_err-se : goal.returns-in_err-se
returns-in_err-se c =
    let a = c.in_ok-level.ensures in
    let b = c.in_ok-nw.ensures in
    let d = c.in_ok-ne.ensures in
    let e = c.in_ok-sw.ensures in
    c.from_residual-in_err-se.ensures
    ∙ sym (too_few-4 (numbers c.in_ok-sw.rest.now) c.in_err-se.ensures a.0 b.0 d.0 e.0)
    ∙ ap node_from (sym (after a.0 a.1 (after b.0 b.1 (after d.0 d.1 e.1)))) ∙ node_from-is (numbers c.args.line.now)

pub returns-then-not-is_empty : goal.returns-then-not-is_empty
returns-then-not-is_empty c =
    let a = c.in_ok-level.ensures in
    let b = c.in_ok-nw.ensures in
    let d = c.in_ok-ne.ensures in
    let e = c.in_ok-sw.ensures in
    let f = c.in_ok-se.ensures in
    let some : 0 < length c.trim_start.result.now = grind (arith, nat_tests) in
    let more = fields_left c.in_ok-se.rest.now c.trim_start.result.now c.trim_start.ensures some in
    sym (too_many a.0 b.0 d.0 e.0 f.0 more.0 more.1)
    ∙ ap node_from (sym (after a.0 a.1 (after b.0 b.1 (after d.0 d.1 (after e.0 e.1 (after f.0 f.1 more.2))))))
    ∙ node_from-is (numbers c.args.line.now)

pub returns : goal.returns
returns c =
    let a = c.in_ok-level.ensures in
    let b = c.in_ok-nw.ensures in
    let d = c.in_ok-ne.ensures in
    let e = c.in_ok-sw.ensures in
    let f = c.in_ok-se.ensures in
    let none : length c.trim_start.result.now ≡ 0 = grind (arith, nat_tests) in
    let end = numbers-end c.in_ok-se.rest.now c.trim_start.result.now c.trim_start.ensures none in
    five_kept a.0 b.0 d.0 e.0 f.0 c.min.result c.as_number.result c.as_number-2.result c.as_number-3.result c.as_number-4.result
    (omega arith) (omega arith) (omega arith) (omega arith) (omega arith)
    ∙ ap node_from (sym (after a.0 a.1 (after b.0 b.1 (after d.0 d.1 (after e.0 e.1 (after f.0 f.1 end))))))
    ∙ node_from-is (numbers c.args.line.now)
