use Rattle.std.proofs.Common.{◌≡◌, ◌∙◌, ◌++◌, All, drop, length, take, ap, subst, sym, rules, arith}
use lib.Seq.{take-append_seam}
use Rattle.worker_split.specs.Rounds.{IsIdle}
use Rattle.worker_split.specs.Shares.{AreShares, shares_of}
use Rattle.worker_split.proofs.members.room_for.Goals as goal

pub returns : goal.returns
returns c =
    let count = c.args.count in
    let begun = c.in_ok-members.members in
    let new = c.link_all.new.members in
    let rest = drop (length new) begun.items in
    let value = c.as_mut_slice.ensures.value in
    let linked = c.link_all.ensures in
    let len = linked.len in
    let slice_len = c.as_mut_slice.ensures.len in
    let all : begun.len ≡ length new = omega (arith, len, slice_len) in
    let same : take begun.len (new ++ rest) ≡ new = ap (λ n. take n (new ++ rest)) all ∙ take-append_seam new rest in
    let idle : All (IsIdle count) c.as_mut_slice.result.now = subst (All (IsIdle count)) (sym value) c.in_ok-members.ensures.idle in
    let shares : shares_of (take begun.len (new ++ rest)) ≡ shares_of begun.items = ap shares_of same ∙ (linked.shares ∙ ap shares_of value) in
    record {
      len = ap length same ∙ (len ∙ (ap length value ∙ c.in_ok-members.ensures.len));
      idle = subst (All (IsIdle count)) (sym same) (linked.idle count idle);
      shares = λ some. subst (AreShares count) (sym shares) (c.in_ok-members.ensures.shares some);
      places = search rules;
      futures = search rules;
      reserved = search rules;
    }
