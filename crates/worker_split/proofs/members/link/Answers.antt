use Rattle.std.proofs.Common.{◌∙◌}
use Rattle.worker_split.proofs.Linking.{end_given, end_made}
use Rattle.worker_split.proofs.members.link.Goals as goal

pub returns-in_err-stealer : goal.returns-in_err-stealer
returns-in_err-stealer c = end_made c.args.members.now c.args.j _ c.stealer.new.self c.requires.1 c.stealer.ensures.count c.stealer.ensures.share c.stealer.ensures.left

pub returns-in_err-push : goal.returns-in_err-push
returns-in_err-push c =
    let old = c.args.members.now in
    let made = end_made old c.args.j _ c.stealer.new.self c.requires.1 c.stealer.ensures.count c.stealer.ensures.share c.stealer.ensures.left in
    end_given old _ c.args.i _ c.push.new.self c.in_ok-stealer.stealer _ made c.requires.0 c.push.ensures.items
    (λ count all. c.in_ok-stealer.ensures.stealer_count ∙ (all c.args.j _ c.requires.1).queues.own)

pub returns : goal.returns
returns c =
    let old = c.args.members.now in
    let made = end_made old c.args.j _ c.stealer.new.self c.requires.1 c.stealer.ensures.count c.stealer.ensures.share c.stealer.ensures.left in
    end_given old _ c.args.i _ c.push.new.self c.in_ok-stealer.stealer _ made c.requires.0 c.push.ensures.items
    (λ count all. c.in_ok-stealer.ensures.stealer_count ∙ (all c.args.j _ c.requires.1).queues.own)
