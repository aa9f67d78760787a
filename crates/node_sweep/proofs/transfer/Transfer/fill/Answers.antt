use Rattle.std.specs.Prelude.{◌^◌}
use Rattle.node_sweep.specs.Copies.{has_note}
use Rattle.node_sweep.specs.Transfers.{old_bits, old_table, wants}
use Rattle.node_sweep.proofs.Gathered.{all_copied, copy_noted, note_there, noted_keeping, reached_copied}
use Rattle.node_sweep.proofs.Recursing.{only_reached, root_wanted}
use Rattle.node_sweep.proofs.Underway.{copy_there}
use Rattle.node_sweep.proofs.transfer.Transfer.fill.Goals as goal

pub copy-requires-clause-wanted : goal.copy-requires-clause-wanted
copy-requires-clause-wanted c = root_wanted c.args.self.now.plan (old_table c.args.self.now) c.args.self.now.root

-- the root has a copy
root_there : (c : goal.After-drop-with_results) → has_note c.copy.new.fresh.copies.items c.args.self.now.root
root_there c = copy_there c.args.self.now c.copy.new.fresh c.copy.ensures.underway c.args.self.now.root c.in_ok-number.number c.args.rank c.in_ok-number.ensures.ok c.requires.block

pub returns-clause-ok : goal.returns-clause-ok
returns-clause-ok c =
    let transfer = c.args.self.now in
    let copies = c.copy.new.fresh.copies.items in
    let new = c.with_results-words.result.words.items in
    let noted = noted_keeping (old_table transfer) transfer.to (wants transfer) copies new (2 ^ old_bits transfer) c.with_results-words.ensures.kept in
    record {
      notes = copies;
      has_root = root_there c;
      all = all_copied transfer.old.key.now transfer.to transfer.old.words.now (has_note copies) copies new transfer.old.good.good transfer.same_rule transfer.same_exponent noted
          (λ rank n block is some. note_there copies n is some);
    }

pub returns-clause-reached : goal.returns-clause-reached
returns-clause-reached c = λ unplanned.
    let transfer = c.args.self.now in
    let old = old_table transfer in
    let copies = c.copy.new.fresh.copies.items in
    let new = c.with_results-words.result.words.items in
    let kept = c.with_results-words.ensures.kept in
    all_copied transfer.old.key.now transfer.to transfer.old.words.now (wants transfer) copies new transfer.old.good.good transfer.same_rule transfer.same_exponent kept
    (λ rank n block is some. reached_copied transfer.old.key.now transfer.to transfer.old.words.now (wants transfer) copies new transfer.old.good.good transfer.same_rule transfer.same_exponent
    (2 ^ old_bits transfer) kept c.args.rank transfer.root n c.requires.block (root_there c) (only_reached transfer.plan old transfer.root n unplanned is) some)

pub returns-clause-root : goal.returns-clause-root
returns-clause-root c =
    let transfer = c.args.self.now in
    copy_noted transfer.old.key.now transfer.to transfer.old.words.now (wants transfer) c.copy.new.fresh.copies.items c.with_results-words.result.words.items transfer.old.good.good
    transfer.same_rule transfer.same_exponent c.with_results-words.ensures.kept transfer.root c.in_ok-number.number (root_there c) c.in_ok-number.ensures.ok.noted
