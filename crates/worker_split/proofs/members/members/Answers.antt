use Rattle.std.proofs.Common.{◌∙◌, ◌++◌, ◌∷◌, [], ◌+◌, ◌/◌, ◌-◌, List, ap, map, refl, subst, sym, rules, arith}
use Rattle.std.proofs.lemmas.List.{map-append}
use Rattle.worker_split.specs.declared.members.Member.{Member}
use Rattle.worker_split.specs.Rounds.{IsIdle}
use Rattle.job_queues.specs.Shares.{share_in}
use Rattle.worker_split.specs.Shares.{shares_of}
use Rattle.worker_split.proofs.Cutting.{AreCut, all_cut, next_cut, none_cut}
use Rattle.worker_split.proofs.Places.{pushed}
use Rattle.worker_split.proofs.members.members.Goals as goal

pub loop-k-preserved : goal.loop-k-preserved
loop-k-preserved c =
    let was = c.loop-k.invariant in
    let f = λ (member : Member). share_in member.own in
    let all = c.loop-k.all.items in
    let high = c.loop-k.low + (c.args.count - c.loop-k.low) / (c.args.workers - c.loop-k.k) in
    let within = c.loop-k-test.true in (
      search rules,
      search rules,
      pushed (IsIdle c.args.count) _ _ _ _ c.push.ensures.items was.2 c.in_ok-idle_member.ensures.idle,
      λ some. next_cut (c.args.count / c.args.workers) c.args.count (c.args.workers - c.loop-k.k) _ c.loop-k.low high (shares_of all) _ (omega (arith, within)) (was.3 some) refl
          (ap (map f) c.in_ok-push.ensures.items ∙ (map-append f all _ ∙ ap (λ s. map f all ++ s ∷ []) c.in_ok-idle_member.ensures.share)),
    )

pub loop-k-init : goal.loop-k-init
loop-k-init c = (
  omega arith,
  search rules,
  search rules,
  λ some. subst (λ (all : List Member). AreCut (c.args.count / c.args.workers) c.args.count (c.args.workers - 0) 0 (shares_of all)) (sym c.new-all.ensures.items) (none_cut c.args.count c.args.workers (c.args.workers - 0) (omega arith) some),
)

pub returns-clause-shares : goal.returns-clause-shares
returns-clause-shares c some = all_cut (c.args.count / c.args.workers) c.args.count _ _ _ (omega arith) (c.loop-k.invariant.3 some)
