-- Each move keeps the rule of a deque of jobs.
use Rattle.std.proofs.Common.{◌≡◌, ◌≢◌, ◌+◌, ℕ, zero, suc, true, false, true≢false, All, List, [], ◌∷◌, ◌++◌, length, set, sym, refl, ap, ◌∙◌, subst, ⊎_elim, append_assoc, arith, get_or, ◌≤◌}
use Rattle.std.specs.Prelude.{Contains, IfSome, MatchOption, Option, Some, None}
use mathlib.Core.Option.{some, some-ne-none}
use lib.ListN.{get_elem?}
use Rattle.std.proofs.lemmas.List.{length-set}
use Rattle.std.proofs.lemmas.List.Elements.{All-contains_itself, Contains-append_left, Contains-append_right}
use Rattle.crossbeam_deque.specs.Tasks.{Pushes, Takes, Finds, Forks}
use Rattle.crossbeam_deque.proofs.Lists.{at_set, at_snoc}
use Rattle.job_queues.specs.declared.queues.Seen.{Seen}
use Rattle.job_queues.specs.Queues.{seen, IsEnd, Knows, AllKnow, AreTaken}
use Rattle.job_queues.specs.Shares.{jobs_between}
use Rattle.job_queues.proofs.Ranges.{one_more_job}

only_one : (views : List Seen) (i j : ℕ) (a b : Seen) → length views ≡ 1 → get_elem? views i ≡ some a → get_elem? views j ≡ some b → i ≡ j
only_one [] i j a b one at other = absurd (some-ne-none a (sym at))
only_one (v ∷ []) zero zero a b one at other = refl
only_one (v ∷ []) zero (suc j) a b one at other = absurd (some-ne-none b (sym other))
only_one (v ∷ []) (suc i) j a b one at other = absurd (some-ne-none a (sym at))
only_one (v ∷ w ∷ vs) i j a b one at other = absurd (omega (arith, one))

-- an end of what stands behind others is an end of the whole
end_behind : (xs ys all : List ℕ) → IsEnd (xs ++ ys) all → IsEnd ys all
end_behind xs ys all e = (e.0 ++ xs, e.1 ∙ sym (append_assoc e.0 xs ys))

end_of_end : (xs ys all : List ℕ) → IsEnd xs ys → IsEnd ys all → IsEnd xs all
end_of_end xs ys all e f = (f.0 ++ e.0, f.1 ∙ (ap (λ l. f.0 ++ l) e.1 ∙ sym (append_assoc f.0 e.0 xs)))

end_more : (xs all more : List ℕ) → IsEnd xs all → IsEnd (xs ++ more) (all ++ more)
end_more xs all more e = (e.0, ap (λ l. l ++ more) e.1 ∙ append_assoc e.0 xs more)

-- the first jobs of an end are among all
among_all : (xs ys all : List ℕ) → IsEnd (xs ++ ys) all → All (Contains all) xs
among_all xs ys all e k d less =
    let x = get_or xs k d in
    subst (λ l. Contains l x) (sym e.1) (Contains-append_right e.0 (xs ++ ys) x (Contains-append_left xs ys x (All-contains_itself xs k d less)))

pub begins : AllKnow [] (seen true [] [] ∷ [])
begins =
    let v = seen true [] [] in
    let known : Knows [] (v ∷ []) v = record { share = ([], refl); left = ([], refl); alone = λ _. (refl, refl) } in
    λ j u e. ⊎_elim (λ (x : (j ≡ 0) × (v ≡ u)). subst (λ y. Knows [] (v ∷ []) y) x.1 known)
    (λ (x : (j ≢ 0) × (get_elem? (v ∷ []) j ≡ some u)). absurd (x.0 (only_one (v ∷ []) j 0 u v refl x.1 refl))) (at_set (v ∷ []) 0 j v u e)

pub pushes : (port : ℕ) (v : Seen) (x : ℕ) → v.alone ≡ true → Pushes AllKnow port v (x ∷ []) (λ w. w ≡ seen true (v.share ++ x ∷ []) (v.left ++ x ∷ []))
pushes port v x alone items views h at =
    let w = seen true (v.share ++ x ∷ []) (v.left ++ x ∷ []) in
    let mine = h port v at in
    let one = mine.alone alone in
    let known : Knows (items ++ x ∷ []) (set views port w) w = record {
      share = end_more v.left v.share (x ∷ []) mine.share;
      left = end_more items v.left (x ∷ []) mine.left;
      alone = λ _. (length-set views port w ∙ one.0, ap (λ l. l ++ x ∷ []) one.1);
    } in (
      w,
      λ j u e. ⊎_elim (λ (y : (j ≡ port) × (w ≡ u)). subst (λ z. Knows (items ++ x ∷ []) (set views port w) z) y.1 known)
          (λ (y : (j ≢ port) × (get_elem? views j ≡ some u)). absurd (y.0 (only_one views j port u v one.0 y.1 at))) (at_set views port j w u e),
      refl,
    )

pub takes : (port : ℕ) (v : Seen) → Takes AllKnow port v 1 (AreTaken v)
takes port v xs items views _ _ h at =
    let w = seen v.alone v.share items in
    let vs = set views port w in
    let mine = h port v at in
    let known : Knows items vs w = record {
      share = end_behind xs items v.share (end_of_end (xs ++ items) v.left v.share mine.left mine.share);
      left = ([], refl);
      alone = λ a. (length-set views port w ∙ (mine.alone a).0, refl);
    } in
    let others : (j : ℕ) (u : Seen) → j ≢ port → get_elem? views j ≡ some u → Knows items vs u = λ j u other there.
    let theirs = h j u there in
    record {
      share = theirs.share;
      left = end_behind xs items u.left theirs.left;
      alone = λ a. absurd (other (only_one views j port u v (theirs.alone a).0 there at));
    } in (
      w,
      λ j u e. ⊎_elim (λ (y : (j ≡ port) × (w ≡ u)). subst (λ z. Knows items vs z) y.1 known)
          (λ (y : (j ≢ port) × (get_elem? views j ≡ some u)). others j u y.0 y.1) (at_set views port j w u e),
      record {
        share = refl;
        alone = refl;
        of_share = among_all xs items v.share (end_of_end (xs ++ items) v.left v.share mine.left mine.share);
        first = mine.left;
        next = λ a. sym (mine.alone a).1;
      },
    )

-- the only pass finds no job only if it knows that none is left
pub finds : (port : ℕ) (v : Seen) → Finds AllKnow port v (v.alone ≡ true → v.left ≡ [])
finds port v views h at alone = sym ((h port v at).alone alone).1

pub forks : (port : ℕ) (v : Seen) → Forks AllKnow port v (seen false v.share v.left) (seen false v.share v.left)
forks port v items views h at =
    let l = seen false v.share v.left in
    let vs = set views port l in
    let mine = h port v at in
    let known : Knows items (vs ++ l ∷ []) l = record { share = mine.share; left = mine.left; alone = λ p. absurd (true≢false (sym p)) } in
    let others : (j : ℕ) (u : Seen) → j ≢ port → get_elem? views j ≡ some u → Knows items (vs ++ l ∷ []) u = λ j u other there.
    let theirs = h j u there in
    record { share = theirs.share; left = theirs.left; alone = λ a. absurd (other (only_one views j port u v (theirs.alone a).0 there at)) } in
    λ j u e. ⊎_elim (λ (x : get_elem? vs j ≡ some u). ⊎_elim (λ (y : (j ≡ port) × (l ≡ u)). subst (λ z. Knows items (vs ++ l ∷ []) z) y.1 known)
    (λ (y : (j ≢ port) × (get_elem? views j ≡ some u)). others j u y.0 y.1) (at_set views port j l u x))
    (λ (is : l ≡ u). subst (λ z. Knows items (vs ++ l ∷ []) z) is known) (at_snoc vs l u j e)

-- the one job that was taken is of the share, and the first that was left
pub one_taken : (v w : Seen) (job : ℕ) → AreTaken v (job ∷ []) w → Contains v.share job × IsEnd (job ∷ w.left) v.left
one_taken v w job taken = (taken.of_share 0 job (omega arith), taken.first)

-- what an owner that asked for a job knows before and after
abbrev pub HasTaken : Option ℕ → Seen → Seen → Type 0
HasTaken result v w =
    MatchOption result ((w ≡ v) × (v.alone ≡ true → v.left ≡ [])) (λ job. AreTaken v (job ∷ []) w)

pub taken_of_share : (result : Option ℕ) (v w : Seen) → HasTaken result v w → IfSome result (Contains v.share)
taken_of_share None v w taken = tt
taken_of_share (Some job) v w taken = (one_taken v w job taken).0

pub taken_first : (result : Option ℕ) (v w : Seen) → HasTaken result v w → MatchOption result (w.left ≡ v.left) (λ job. IsEnd (job ∷ w.left) v.left)
taken_first None v w taken = ap (λ (s : Seen). s.left) taken.0
taken_first (Some job) v w taken = taken.first

pub taken_next : (result : Option ℕ) (v w : Seen) → HasTaken result v w → v.alone ≡ true → MatchOption result (v.left ≡ []) (λ job. v.left ≡ job ∷ w.left)
taken_next None v w taken = taken.1
taken_next (Some job) v w taken = taken.next

-- one job more was pushed
pub next_push : (low job : ℕ) (v w : Seen) → low ≤ job → v.share ≡ jobs_between low job → v.left ≡ jobs_between low job → w ≡ seen true (v.share ++ job ∷ []) (v.left ++ job ∷ []) →
    (w.alone ≡ true) × (w.share ≡ jobs_between low (job + 1)) × (w.left ≡ jobs_between low (job + 1))
next_push low job v w le share left is =
    let more : (xs : List ℕ) → xs ≡ jobs_between low job → xs ++ job ∷ [] ≡ jobs_between low (job + 1) = λ xs was. ap (λ l. l ++ job ∷ []) was ∙ sym (one_more_job low job le) in (
      ap (λ (s : Seen). s.alone) is,
      ap (λ (s : Seen). s.share) is ∙ more v.share share,
      ap (λ (s : Seen). s.left) is ∙ more v.left left,
    )
