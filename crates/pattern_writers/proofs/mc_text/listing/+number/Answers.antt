use Rattle.std.proofs.Common.{refl, sym, arith}
use Rattle.std.specs.Prelude.{Result, Ok, Err, IfOk, OnOk}
use Rattle.pattern_writers.specs.ListedNodes.{number_of}
use Rattle.pattern_writers.proofs.ListedQuarters.{inner_lists, leaf_lists, no_number, number_lists}
use Rattle.pattern_writers.proofs.mc_text.listing.+number.Goals as goal

-- three facts of a result that is Ok give a fourth
from_three : {T E : Type 0} (r : Result T E) (A : Type 0) (B C P : T → Type 0) → ((x : T) → A → B x → C x → P x) → OnOk r A → IfOk r B → IfOk r C → IfOk r P
from_three (Ok x) A B C P make a b c = make x a b c
from_three (Err e) A B C P make a b c = tt

pub number-returns-in-Some : goal.number-returns-in-Some
number-returns-in-Some g t c =
    number_lists (g.B.Look.book c.args.book.now) (g.met.B.Look.is_book c.args.book.now) c.args.list.now c.args.sq c.in-Some.number c.requires.known.known (sym c.in-Some.ensures)

pub number-returns-then-sq-eq-LEAF_LEVEL : goal.number-returns-then-sq-eq-LEAF_LEVEL
number-returns-then-sq-eq-LEAF_LEVEL g t c =
    let book = g.B.Look.book c.args.book.now in
    let new = no_number book (g.met.B.Look.is_book c.args.book.now) c.args.list.now c.args.sq (sym {b = number_of c.args.list.now c.args.sq} c.in_default.ensures) in
    from_three c.add.result _ _ _ _
    (λ number grown next up.
    leaf_lists book (g.met.B.Look.is_book c.args.book.now) c.args.list.now c.add.new.self c.args.sq c.bits.result number c.requires.known new.0 c.if-sq-eq-LEAF_LEVEL.true
    new.1 c.bits.ensures next grown up)
    c.add.ensures.node c.add.ensures.number c.add.ensures.noted

pub number-returns : goal.number-returns
number-returns g t c =
    let book = g.B.Look.book c.args.book.now in
    let new = no_number book (g.met.B.Look.is_book c.args.book.now) c.args.list.now c.args.sq (sym {b = number_of c.args.list.now c.args.sq} c.in_default.ensures) in
    from_three c.add-2.result _ _ _ _
    (λ number grown next up.
    inner_lists book (g.met.B.Look.is_book c.args.book.now) c.args.list.now c.numbers.new.list c.add-2.new.self c.args.sq c.parts.result c.in_ok-quarters.quarters number c.requires.known new.0 (omega arith)
    new.1 c.parts.ensures c.in_ok-quarters.ensures next grown up)
    c.add-2.ensures.node c.add-2.ensures.number c.add-2.ensures.noted

pub numbers-returns : goal.numbers-returns
numbers-returns g t c = record {
  number_nw = c.in_ok-nw.nw;
  number_ne = c.in_ok-ne.ne;
  number_sw = c.in_ok-sw.sw;
  number_se = c.in_ok-se.se;
  are = refl;
  with_nw = c.number.new.list;
  with_ne = c.number-2.new.list;
  with_sw = c.number-3.new.list;
  nw = c.in_ok-nw.ensures;
  ne = c.in_ok-ne.ensures;
  sw = c.in_ok-sw.ensures;
  se = c.in_ok-se.ensures;
}
