-- Workers that are linked with one another.
use Rattle.std.proofs.Common.{◌≡◌, ◌<◌, ℕ, Bool, All, List, [], ◌∷◌, ◌++◌, cond, get_or, length, set, refl, sym, ◌∙◌, subst}
use Rattle.std.proofs.lemmas.List.{length-set}
use Rattle.std.proofs.lemmas.List.Elements.{All-set}
use Rattle.std.proofs.Math.Seq.{map-set_same}
use Rattle.std.specs.Prelude.{Vec}
use Rattle.std.specs.declared.alloc.Global.{Global}
use Rattle.worker_split.specs.declared.members.Member.{Member}
use Rattle.job_queues.specs.declared.queues.JobQueue.{JobQueue}
use Rattle.job_queues.specs.declared.queues.JobStealer.{JobStealer}
use Rattle.worker_split.specs.Rounds.{IsIdle, StayIdle}
use Rattle.job_queues.specs.Shares.{left_in, share_in}
use Rattle.worker_split.proofs.Places.{pushed}

pub stay_same : (members : List Member) → StayIdle members members
stay_same members = record { len = refl; shares = refl; idle = λ count all. all }

pub stay_on : {first second third : List Member} → StayIdle first second → StayIdle second third → StayIdle first third
stay_on before now = record { len = now.len ∙ before.len; shares = now.shares ∙ before.shares; idle = λ count all. now.idle count (before.idle count all) }

-- one of the workers is changed
stay_set : (members : List Member) (i : ℕ) (new d : Member) → share_in new.own ≡ share_in (get_or members i d).own → ((count : ℕ) → All (IsIdle count) members → IsIdle count new) → StayIdle members (set members i new)
stay_set members i new d share idle = record {
  len = length-set members i new;
  shares = map-set_same (λ (member : Member). share_in member.own) members i new d share;
  idle = λ count all. All-set (IsIdle count) members i new (idle count all) all;
}

-- an end of a worker's queue was made
pub end_made : (members : List Member) (j : ℕ) (d : Member) (own : JobQueue) → j < length members → own.count ≡ (get_or members j d).own.count → share_in own ≡ share_in (get_or members j d).own → left_in own ≡ left_in (get_or members j d).own →
    StayIdle members (set members j (record (get_or members j d) { own = own }))
end_made members j d own within same share left =
    stay_set members j (record (get_or members j d) { own = own }) d share (λ count all. let one = all j d within in record {
      queues = record { own = same ∙ one.queues.own; others = one.queues.others };
      left = left ∙ (one.left ∙ sym share);
      at = one.at;
      counted = one.counted;
      answers = one.answers;
    })

-- and another worker got it
pub end_given : (old members : List Member) (i : ℕ) (d : Member) (others : Vec JobStealer Global) (end : JobStealer) (ok : Bool) → StayIdle old members → i < length old →
    others.items ≡ cond ok ((get_or members i d).others.items ++ end ∷ []) (get_or members i d).others.items → ((count : ℕ) → All (IsIdle count) old → end.count ≡ count) →
    StayIdle old (set members i (record (get_or members i d) { others = others }))
end_given old members i d others end ok stay within is fits = record {
  len = length-set members i _ ∙ stay.len;
  shares = map-set_same (λ (member : Member). share_in member.own) members i (record (get_or members i d) { others = others }) d refl ∙ stay.shares;
  idle = λ count all.
      let now = stay.idle count all in
      let one = now i d (subst (λ n. i < n) (sym stay.len) within) in
      All-set (IsIdle count) members i (record (get_or members i d) { others = others }) (record {
        queues = record { own = one.queues.own; others = pushed (λ (other : JobStealer). other.count ≡ count) ok _ _ end is one.queues.others (fits count all) };
        left = one.left;
        at = one.at;
        counted = one.counted;
        answers = one.answers;
      }) now;
}
