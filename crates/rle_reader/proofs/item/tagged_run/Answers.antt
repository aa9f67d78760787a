use Rattle.std.proofs.Common.{refl}
use Rattle.rle_reader.proofs.ItemLemmas.{item_slice-no_tag, item_slice-no_count, item_slice-counted}
use Rattle.rle_reader.proofs.item.tagged_run.Goals as goal

pub returns-in-Err : goal.returns-in-Err
returns-in-Err c =
    item_slice-no_tag c.args.source.now c.args.place c.args.count c.args.last c.in-Err.refusal c.fault_at.result c.in-Err.ensures c.fault_at.ensures

pub returns-then-count-eq0 : goal.returns-then-count-eq0
returns-then-count-eq0 c =
    item_slice-no_count c.args.source.now c.args.place c.args.count c.args.last c.in-Ok.tag c.fault_at-then-count-eq0.result
    c.in-Ok.ensures c.if-count-eq0.true c.fault_at-then-count-eq0.ensures

pub returns : goal.returns
returns c =
    item_slice-counted c.args.source.now c.args.place c.args.count c.args.last c.in-Ok.tag _ c.in-Ok.ensures c.if-count-eq0.false refl
