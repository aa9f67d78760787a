-- A book with one node more.
use Rattle.std.proofs.Common.{◌≡◌, ◌≢◌, ℕ, suc, ◌-◌, ◌^◌, ◌<◌, List, [], ◌∷◌, ◌++◌, length, take, sym, ◌∙◌, ap, subst, arith, refl, ⊎_elim}
use Rattle.std.specs.Prelude.{Some, None, slice_get, Contains}
use Rattle.std.specs.BTreeMap.{BTreeMap, get}
use Rattle.std.specs.Ordering.{nat_cmp}
use Rattle.std.proofs.lemmas.List.{take_at}
use Rattle.rule_text.specs.CountRule.{CountRule}
use Rattle.squares.specs.Book.{AddsSquares, IsFuture, Keeps, KeepsResults, numbered}
use Rattle.squares.specs.declared.node.PlainNode.{PlainNode}
use Rattle.squares.specs.declared.node.PlainNode.TheVariants.{Leaf, Inner}
use Rattle.squares.specs.declared.node.Quarters.{Quarters}
use Rattle.squares.specs.declared.node.Record.{Record}
use Rattle.squares.specs.declared.sq.Num.{Num}
use Rattle.squares.specs.Nodes.{nodes_of, node_at, level_of, plain_book, future_at, AreNodeQuarters, AreFutures, HasNumbers, IsGood}
use Rattle.squares.proofs.NodeLists.{known_later, node_snoc}
use Rattle.squares.proofs.NumberMaps.{leaves_apart, no_inner, not_there}
use Rattle.squares.proofs.Places.{get_push}
use Rattle.squares.proofs.PlainLaws.{keeps_more, later_future, nodes_pushed}
use Rattle.squares.proofs.RecordLists.{push_results, node_of_record, record_of_node, future_of_record}

-- the quarters of a node are known in a longer list
known_longer : (nodes others : List PlainNode) (q : Quarters) → AreNodeQuarters nodes q → AreNodeQuarters (nodes ++ others) q
known_longer nodes others q h = record {
  low = h.low;
  high = h.high;
  nw = known_later nodes others (q.level - 1) q.nw.0 h.nw;
  ne = known_later nodes others (q.level - 1) q.ne.0 h.ne;
  sw = known_later nodes others (q.level - 1) q.sw.0 h.sw;
  se = known_later nodes others (q.level - 1) q.se.0 h.se;
  some = h.some;
}

pub good_pushed : (nodes : List PlainNode) (last : PlainNode) → ((n : ℕ) → ¬ (node_at nodes n ≡ Some last)) → ((w : ℕ) → last ≡ Leaf w → (w ≢ 0) × (w < 2 ^ 64)) → ((q : Quarters) → last ≡ Inner q → AreNodeQuarters nodes q) →
    IsGood nodes → IsGood (nodes ++ last ∷ [])
good_pushed nodes last new leaf inner h = record {
  leaf = λ n w at. ⊎_elim (λ t. h.leaf n w t) (λ t. leaf w t.1) (node_snoc nodes last (Leaf w) n at);
  inner = λ n q at. known_longer nodes (last ∷ []) q (⊎_elim (λ t. h.inner n q t) (λ t. inner q t.1) (node_snoc nodes last (Inner q) n at));
  distinct = λ n m node at_n at_m. ⊎_elim
      (λ t. ⊎_elim (λ u. h.distinct n m node t u) (λ u. absurd (new n (t ∙ ap (λ x. Some x) (sym u.1)))) (node_snoc nodes last node m at_m))
      (λ t. ⊎_elim (λ u. absurd (new m (u ∙ ap (λ x. Some x) (sym t.1)))) (λ u. t.0 ∙ sym u.0) (node_snoc nodes last node m at_m))
      (node_snoc nodes last node n at_n);
}

-- a leaf that had no number
pub good_leaf : (nodes : List PlainNode) (leaves : BTreeMap ℕ Num) (word : ℕ) → word ≢ 0 → word < 2 ^ 64 → HasNumbers nat_cmp Leaf nodes leaves → get nat_cmp leaves word ≡ None → IsGood nodes → IsGood (nodes ++ Leaf word ∷ [])
good_leaf nodes leaves word some fits listed none good = good_pushed nodes (Leaf word) (not_there nat_cmp Leaf nodes leaves word listed none)
    (λ w e. subst (λ v. (v ≢ 0) × (v < 2 ^ 64)) (leaves_apart word w e) (some, fits)) (λ q e. absurd (no_inner word q e)) good

-- what is left when the last record is taken off again
pub popped : (records : List Record) (last : Record) (pushed rest : List Record) (number len : ℕ) → pushed ≡ records ++ last ∷ [] → number ≡ suc (length records) → len ≡ number → rest ≡ take (len - 1) pushed → rest ≡ records
popped records last pushed rest number len items is size taken =
    let before : length records ≡ number - 1 = omega arith in
    taken ∙ ap (λ n. take (n - 1) pushed) size ∙ ap (take (number - 1)) items ∙ take_at records _ (number - 1) before

module _ (rule : CountRule) (exponent : ℕ) (records : List Record) (node : PlainNode) (good : IsGood (nodes_of records)) where
  pub pushed_results : KeepsResults (plain_book rule exponent records) (plain_book rule exponent (records ++ record { node = node; future = None } ∷ []))
  pushed_results = record { results = push_results 0 records (record { node = node; future = None }) refl; learned = refl }

  pub pushed_keeps : Keeps (plain_book rule exponent records) (plain_book rule exponent (records ++ record { node = node; future = None } ∷ []))
  pushed_keeps = keeps_more rule exponent records (records ++ record { node = node; future = None } ∷ []) (node ∷ []) good (nodes_pushed records (record { node = node; future = None }))
      (λ sq h. subst (λ results. Contains results sq) (sym pushed_results.results) h)

  pub pushed_adds : AddsSquares (plain_book rule exponent records) (plain_book rule exponent (records ++ record { node = node; future = None } ∷ []))
  pushed_adds = record { keeps = pushed_keeps; results = pushed_results }

  old_future : (i : ℕ) (r : Record) (num : Num) → slice_get records i ≡ Some r → r.future ≡ Some num → AreFutures rule exponent records →
      (3 < level_of r.node) × IsFuture (plain_book rule exponent (records ++ record { node = node; future = None } ∷ [])) (numbered (level_of r.node) (suc i)) (numbered (level_of r.node - 1) num.0)
  old_future i r num at some h =
      let there : node_at (nodes_of records) (suc i) ≡ Some r.node = node_of_record records i r at in
      let was = h.futures (suc i) r.node num there (future_of_record records i r at ∙ some) in
      (was.0, later_future rule exponent records (records ++ record { node = node; future = None } ∷ []) good pushed_keeps (suc i) r.node num there (omega arith) was.1)

  pub pushed_futures : AreFutures rule exponent records → AreFutures rule exponent (records ++ record { node = node; future = None } ∷ [])
  pushed_futures h = record {
    futures = λ n m num at has.
        let new = records ++ record { node = node; future = None } ∷ [] in
        let k = record_of_node new n m at in
        let kept : k.1.future ≡ Some num = sym (future_of_record new k.0 k.1 k.3) ∙ ap (future_at new) (sym k.2) ∙ has in
        let was = ⊎_elim (λ t. old_future k.0 k.1 num t kept h)
        (λ t. let none : None ≡ Some num = ap (λ (r : Record). r.future) t.1 ∙ kept in let no : ⊥ = cc in absurd no)
        (get_push records (record { node = node; future = None }) k.1 k.0 k.3) in
        subst (λ i. (3 < level_of m) × IsFuture (plain_book rule exponent new) (numbered (level_of m) i) (numbered (level_of m - 1) num.0)) (sym k.2)
        (subst (λ (x : PlainNode). (3 < level_of x) × IsFuture (plain_book rule exponent new) (numbered (level_of x) (suc k.0)) (numbered (level_of x - 1) num.0)) k.4 was);
  }
