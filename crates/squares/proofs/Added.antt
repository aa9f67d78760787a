-- The fields of a plain book once a node was added, or refused.
use Rattle.std.proofs.Common.{◌≡◌, ◌≢◌, ℕ, suc, ◌^◌, ◌<◌, List, [], ◌∷◌, ◌++◌, length, sym, ◌∙◌, ap, subst}
use Rattle.std.specs.Prelude.{Some, None, Result, Ok, Err, IfOk, OnErr}
use Rattle.std.specs.BTreeMap.{BTreeMap, get, Updates, IsUnchanged}
use Rattle.std.specs.Ordering.{nat_cmp}
use Rattle.std.proofs.lemmas.List.{length-map}
use Rattle.std.proofs.lemmas.Map.Lookups.{exact_unsigned}
use Rattle.rule_text.specs.CountRule.{CountRule}
use Rattle.squares.specs.declared.node.PlainNode.{PlainNode}
use Rattle.squares.specs.declared.node.PlainNode.TheVariants.{Leaf, Inner}
use Rattle.squares.specs.declared.node.Quarters.{Quarters}
use Rattle.squares.specs.declared.node.Record.{Record}
use Rattle.squares.specs.declared.sq.Num.{Num}
use Rattle.squares.specs.Nodes.{node_at, nodes_of, quarters_order, AreFutures, AreNodeQuarters, HasNumbers, IsGood}
use Rattle.squares.proofs.NodeLists.{node_pushed}
use Rattle.squares.proofs.NumberMaps.{exact_quarters, inner_apart, leaves_apart, no_inner, no_leaf, numbers_added, numbers_kept, numbers_same}
use Rattle.squares.proofs.PlainLaws.{nodes_pushed}
use Rattle.squares.proofs.PlainQuads.{good_quad}
use Rattle.squares.proofs.Pushed.{good_leaf, pushed_futures}

-- the nodes are good, the maps have their numbers, and each result is the future of its square
pub record AreSound (rule : CountRule) (exponent : ℕ) (records : List Record) (leaves : BTreeMap ℕ Num) (inner : BTreeMap Quarters Num) : Type 0 where
  pub good : IsGood (nodes_of records)
  pub leaves_listed : HasNumbers nat_cmp Leaf (nodes_of records) leaves
  pub inner_listed : HasNumbers quarters_order Inner (nodes_of records) inner
  pub futures : AreFutures rule exponent records

last_number : (old : List Record) (num : Num) → num.0 ≡ suc (length old) → num.0 ≡ suc (length (nodes_of old))
last_number old num is = is ∙ ap suc (sym (length-map old (λ (r : Record). r.node)))

-- the nodes with one more
pub one_more : (old new : List Record) (node : PlainNode) → new ≡ old ++ record { node = node; future = None } ∷ [] → nodes_of new ≡ nodes_of old ++ node ∷ []
one_more old new node is = ap nodes_of is ∙ nodes_pushed old _

-- a node that was added stands under its number
pub added_there : (old new : List Record) (node : PlainNode) (num : Num) → num.0 ≡ suc (length old) → new ≡ old ++ record { node = node; future = None } ∷ [] → node_at (nodes_of new) num.0 ≡ Some node
added_there old new node num number is = node_pushed (nodes_of old) (nodes_of new) node num.0 (one_more old new node is) (sym (last_number old num number))

module _ (rule : CountRule) (exponent : ℕ) (old new : List Record) (leaves : BTreeMap ℕ Num) (inner : BTreeMap Quarters Num) (sound : AreSound rule exponent old leaves inner) where
  more_futures : (node : PlainNode) → new ≡ old ++ record { node = node; future = None } ∷ [] → AreFutures rule exponent new
  more_futures node is = subst (AreFutures rule exponent) (sym is) (pushed_futures rule exponent old node sound.good sound.futures)

  pub leaf_added : {E : Type 0} (r : Result Num E) (word : ℕ) (noted : BTreeMap ℕ Num) → word ≢ 0 → word < 2 ^ 64 → get nat_cmp leaves word ≡ None →
      IfOk r (λ num. num.0 ≡ suc (length old)) → IfOk r (λ num. new ≡ old ++ record { node = Leaf word; future = None } ∷ []) → IfOk r (λ num. Updates nat_cmp leaves noted word (Some num)) →
      OnErr r (new ≡ old) → OnErr r (IsUnchanged leaves noted) → AreSound rule exponent new noted inner
  leaf_added (Ok num) word noted some fits none number is up same unchanged =
      let all = one_more old new (Leaf word) is in record {
        good = subst IsGood (sym all) (good_leaf (nodes_of old) leaves word some fits sound.leaves_listed none sound.good);
        leaves_listed = subst (λ ns. HasNumbers nat_cmp Leaf ns noted) (sym all)
            (numbers_added nat_cmp exact_unsigned Leaf leaves_apart (nodes_of old) leaves noted word num (last_number old num number) sound.leaves_listed none up);
        inner_listed = subst (λ ns. HasNumbers quarters_order Inner ns inner) (sym all) (numbers_kept quarters_order Inner (nodes_of old) inner (Leaf word) (no_inner word) sound.inner_listed);
        futures = more_futures (Leaf word) is;
      }
  leaf_added (Err e) word noted some fits none number is up same unchanged = record {
    good = subst (λ (rs : List Record). IsGood (nodes_of rs)) (sym same) sound.good;
    leaves_listed = subst (λ (rs : List Record). HasNumbers nat_cmp Leaf (nodes_of rs) noted) (sym same) (numbers_same nat_cmp Leaf (nodes_of old) leaves noted unchanged sound.leaves_listed);
    inner_listed = subst (λ (rs : List Record). HasNumbers quarters_order Inner (nodes_of rs) inner) (sym same) sound.inner_listed;
    futures = subst (AreFutures rule exponent) (sym same) sound.futures;
  }

  pub quad_added : {E : Type 0} (r : Result Num E) (q : Quarters) (noted : BTreeMap Quarters Num) → AreNodeQuarters (nodes_of old) q → get quarters_order inner q ≡ None →
      IfOk r (λ num. num.0 ≡ suc (length old)) → IfOk r (λ num. new ≡ old ++ record { node = Inner q; future = None } ∷ []) → IfOk r (λ num. Updates quarters_order inner noted q (Some num)) →
      OnErr r (new ≡ old) → OnErr r (IsUnchanged inner noted) → AreSound rule exponent new leaves noted
  quad_added (Ok num) q noted known none number is up same unchanged =
      let all = one_more old new (Inner q) is in record {
        good = subst IsGood (sym all) (good_quad (nodes_of old) inner q known sound.inner_listed none sound.good);
        leaves_listed = subst (λ ns. HasNumbers nat_cmp Leaf ns leaves) (sym all) (numbers_kept nat_cmp Leaf (nodes_of old) leaves (Inner q) (no_leaf q) sound.leaves_listed);
        inner_listed = subst (λ ns. HasNumbers quarters_order Inner ns noted) (sym all)
            (numbers_added quarters_order exact_quarters Inner inner_apart (nodes_of old) inner noted q num (last_number old num number) sound.inner_listed none up);
        futures = more_futures (Inner q) is;
      }
  quad_added (Err e) q noted known none number is up same unchanged = record {
    good = subst (λ (rs : List Record). IsGood (nodes_of rs)) (sym same) sound.good;
    leaves_listed = subst (λ (rs : List Record). HasNumbers nat_cmp Leaf (nodes_of rs) leaves) (sym same) sound.leaves_listed;
    inner_listed = subst (λ (rs : List Record). HasNumbers quarters_order Inner (nodes_of rs) noted) (sym same) (numbers_same quarters_order Inner (nodes_of old) inner noted unchanged sound.inner_listed);
    futures = subst (AreFutures rule exponent) (sym same) sound.futures;
  }
