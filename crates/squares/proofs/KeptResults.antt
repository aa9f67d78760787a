-- A book with one result more.
use Rattle.std.proofs.Common.{◌≡◌, ◌≢◌, ℕ, suc, ◌+◌, ◌-◌, ◌<◌, ◌⊎◌, true, false, List, [], sym, ◌∙◌, ap, subst, arith, refl, inl, inr, ⊎_elim}
use Rattle.std.specs.Prelude.{IsTrue, Option, Some, None, is_some, slice_get, slice_index_or, slice_set, Contains}
use Rattle.std.proofs.lemmas.Bool.{cases_eq, false≢true}
use Rattle.std.proofs.lemmas.List.{append-nil}
use Rattle.rule_text.specs.CountRule.{CountRule}
use Rattle.squares.specs.Book.{IsKnown, IsFuture, Keeps, HasResult, AddsResult, Gains, numbered}
use Rattle.squares.specs.declared.node.PlainNode.{PlainNode}
use Rattle.squares.specs.declared.node.Record.{Record}
use Rattle.squares.specs.declared.sq.Num.{Num}
use Rattle.squares.specs.declared.sq.Sq.{Sq}
use Rattle.squares.specs.Nodes.{nodes_of, node_at, level_of, knows_number, plain_book, results_from, future_at, AreFutures, IsGood}
use Rattle.squares.proofs.NodeLists.{stands}
use Rattle.squares.proofs.Places.{read_there, set_same, set_other}
use Rattle.squares.proofs.PlainLaws.{keeps_more, later_future}
use Rattle.squares.proofs.RecordLists.{nodes_set, set_results, set_gains, node_of_record, record_of_node, record_there, future_of_record, kept_of, listed}
use Rattle.squares.proofs.Results.{future_kept}

-- the record of a nonempty square
pub record_of_square : (records : List Record) (level n : ℕ) → IsTrue (knows_number (nodes_of records) level n) → n ≢ 0 → (r : Record) × (slice_get records (n - 1) ≡ Some r) × (level_of r.node ≡ level)
record_of_square records level n h some = ⊎_elim (λ e. absurd (some e))
    (λ t. let k = record_there records n t.0 t.1 in (k.0, k.1, ap level_of k.2 ∙ t.2)) (stands (nodes_of records) level n h)

-- a number other than 0 of a record
number_is : (n : ℕ) → n ≢ 0 → suc (n - 1) ≡ n
number_is n some = omega arith

sq_is : (sq : Sq) (level n : ℕ) → level ≡ sq.level → n ≡ sq.num.0 → sq ≡ numbered level n
sq_is sq level n e f = λ i. record { level = sym e i; num = record { 0 = sym f i } }

some_is : (o : Option Num) (num : Num) → o ≡ Some num → is_some o ≡ true
some_is None num e = let no : ⊥ = cc in absurd no
some_is (Some x) num e = refl

-- the result of a square that has one is known
pub has_result : (records : List Record) (rule : CountRule) (exponent : ℕ) (sq : Sq) (r : Record) (num : Num) → sq.num.0 ≢ 0 → slice_get records (sq.num.0 - 1) ≡ Some r → level_of r.node ≡ sq.level → r.future ≡ Some num → HasResult (plain_book rule exponent records) sq
has_result records rule exponent sq r num some at level kept = inr (listed 0 records (sq.num.0 - 1) sq (record {
  kept = r;
  at = at;
  has = some_is r.future num kept;
  is = sq_is sq (level_of r.node) (suc (0 + (sq.num.0 - 1))) level (omega arith);
}))

-- no result of a square without one is known
pub no_result : (records : List Record) (rule : CountRule) (exponent : ℕ) (sq : Sq) (r : Record) → sq.num.0 ≢ 0 → slice_get records (sq.num.0 - 1) ≡ Some r → r.future ≡ None → ¬ HasResult (plain_book rule exponent records) sq
no_result records rule exponent sq r some at none h = ⊎_elim some
    (λ t.
    let k = kept_of 0 records sq t in
    let number : sq.num.0 ≡ suc (0 + k.0) = ap (λ (s : Sq). s.num.0) k.1.is in
    let place : k.0 ≡ sq.num.0 - 1 = omega arith in
    let same : Some k.1.kept ≡ Some r = sym k.1.at ∙ ap (slice_get records) place ∙ at in
    let one : k.1.kept ≡ r = cc in
    let nothing : is_some k.1.kept.future ≡ false = ap (λ (x : Record). is_some x.future) one ∙ ap (λ (o : Option Num). is_some o) none in
    false≢true (sym nothing ∙ k.1.has)) h

-- the future of a square, by its record
pub future_is : (records : List Record) (rule : CountRule) (exponent : ℕ) (sq : Sq) (r : Record) (num : Num) → AreFutures rule exponent records → sq.num.0 ≢ 0 → slice_get records (sq.num.0 - 1) ≡ Some r → level_of r.node ≡ sq.level → r.future ≡ Some num →
    IsFuture (plain_book rule exponent records) sq (numbered (sq.level - 1) num.0)
future_is records rule exponent sq r num futures some at level kept =
    let n = sq.num.0 - 1 in
    let is = (futures.futures (suc n) r.node num (node_of_record records n r at) (future_of_record records n r at ∙ kept)).1 in
    let same : numbered (level_of r.node) (suc n) ≡ sq = sym (sq_is sq (level_of r.node) (suc n) level (number_is sq.num.0 some)) in
    subst (λ l. IsFuture (plain_book rule exponent records) sq (numbered (l - 1) num.0)) level
    (subst (λ (s : Sq). IsFuture (plain_book rule exponent records) s (numbered (level_of r.node - 1) num.0)) same is)

-- a record that was read gets a result
module _ (rule : CountRule) (exponent : ℕ) (records : List Record) (sq : Sq) (r : Record) (num : Num) (good : IsGood (nodes_of records))
    (some : sq.num.0 ≢ 0) (there : IsTrue (knows_number (nodes_of records) sq.level sq.num.0)) (read : r ≡ slice_index_or records (sq.num.0 - 1) r) where
  found : (x : Record) × (slice_get records (sq.num.0 - 1) ≡ Some x) × (level_of x.node ≡ sq.level)
  found = record_of_square records sq.level sq.num.0 there some

  same : r ≡ found.0
  same = read_there records (sq.num.0 - 1) found.0 r found.1 read

  at : slice_get records (sq.num.0 - 1) ≡ Some r
  at = found.1 ∙ ap (λ (x : Record). Some x) (sym same)

  level : level_of r.node ≡ sq.level
  level = ap (λ (x : Record). level_of x.node) same ∙ found.2

  pub kept_nodes : nodes_of (slice_set records (sq.num.0 - 1) (record { node = r.node; future = Some num })) ≡ nodes_of records
  kept_nodes = nodes_set records (sq.num.0 - 1) r (record { node = r.node; future = Some num }) at refl

  pub kept_good : IsGood (nodes_of (slice_set records (sq.num.0 - 1) (record { node = r.node; future = Some num })))
  kept_good = subst IsGood (sym kept_nodes) good

  kept_gains : (o : Option Num) → r.future ≡ o →
      (results_from 0 (slice_set records (sq.num.0 - 1) (record { node = r.node; future = Some num })) ≡ results_from 0 records) ⊎ Gains (results_from 0 records) (results_from 0 (slice_set records (sq.num.0 - 1) (record { node = r.node; future = Some num }))) sq
  kept_gains None e = inr (set_gains records (sq.num.0 - 1) r (record { node = r.node; future = Some num }) sq at refl (ap (λ (x : Option Num). is_some x) e) refl (sq_is sq (level_of r.node) (suc (sq.num.0 - 1)) level (number_is sq.num.0 some)))
  kept_gains (Some x) e = inl (set_results 0 records (sq.num.0 - 1) r (record { node = r.node; future = Some num }) at refl (ap (λ (y : Option Num). is_some y) e))

  pub kept_adds : AddsResult (plain_book rule exponent records) (plain_book rule exponent (slice_set records (sq.num.0 - 1) (record { node = r.node; future = Some num }))) sq
  kept_adds = record {
    known = has_result (slice_set records (sq.num.0 - 1) (record { node = r.node; future = Some num })) rule exponent sq (record { node = r.node; future = Some num }) num some (set_same records (sq.num.0 - 1) r (record { node = r.node; future = Some num }) at) level refl;
    learned = refl;
    results = kept_gains r.future refl;
  }

  still_listed : (other : Sq) → Contains (results_from 0 records) other → Contains (results_from 0 (slice_set records (sq.num.0 - 1) (record { node = r.node; future = Some num }))) other
  still_listed other h = ⊎_elim (λ e. subst (λ results. Contains results other) (sym e) h) (λ gains. (gains.has other).1 (inr h)) kept_adds.results

  pub kept_keeps : Keeps (plain_book rule exponent records) (plain_book rule exponent (slice_set records (sq.num.0 - 1) (record { node = r.node; future = Some num })))
  kept_keeps = keeps_more rule exponent records (slice_set records (sq.num.0 - 1) (record { node = r.node; future = Some num })) [] good (kept_nodes ∙ sym (append-nil (nodes_of records))) still_listed

  kept_future : (i : ℕ) (s : Record) (f : Num) → slice_get (slice_set records (sq.num.0 - 1) (record { node = r.node; future = Some num })) i ≡ Some s → s.future ≡ Some f →
      IsKnown (plain_book rule exponent records) sq.level sq → 3 < sq.level → IsFuture (plain_book rule exponent records) sq (numbered (sq.level - 1) num.0) → AreFutures rule exponent records →
      (3 < level_of s.node) × IsFuture (plain_book rule exponent (slice_set records (sq.num.0 - 1) (record { node = r.node; future = Some num }))) (numbered (level_of s.node) (suc i)) (numbered (level_of s.node - 1) f.0)
  kept_future i s f there has known above future futures =
      let new = slice_set records (sq.num.0 - 1) (record { node = r.node; future = Some num }) in
      ⊎_elim
      (λ e.
      let same : Some s ≡ Some (record { node = r.node; future = Some num }) = sym there ∙ ap (slice_get new) e ∙ set_same records (sq.num.0 - 1) r (record { node = r.node; future = Some num }) at in
      let one : s ≡ record { node = r.node; future = Some num } = cc in
      let number : Some f ≡ Some num = sym has ∙ ap (λ (x : Record). x.future) one in
      let given : f ≡ num = cc in
      let at_level : level_of s.node ≡ sq.level = ap (λ (x : Record). level_of x.node) one ∙ level in
      let later = future_kept (plain_book rule exponent records) (plain_book rule exponent new) sq (numbered (sq.level - 1) num.0) kept_keeps known future in
      let square : sq ≡ numbered (level_of s.node) (suc i) = sq_is sq (level_of s.node) (suc i) at_level (ap suc e ∙ number_is sq.num.0 some) in (
        omega arith,
        subst (λ (q : Sq). IsFuture (plain_book rule exponent new) q (numbered (level_of s.node - 1) f.0)) square
            (subst (λ l. IsFuture (plain_book rule exponent new) sq (numbered (l - 1) f.0)) (sym at_level)
            (subst (λ (m : Num). IsFuture (plain_book rule exponent new) sq (numbered (sq.level - 1) m.0)) (sym given) later)),
      ))
      (λ apart.
      let old : slice_get records i ≡ Some s = sym (set_other records (sq.num.0 - 1) i (record { node = r.node; future = Some num }) apart) ∙ there in
      let node : node_at (nodes_of records) (suc i) ≡ Some s.node = node_of_record records i s old in
      let was = futures.futures (suc i) s.node f node (future_of_record records i s old ∙ has) in
      (was.0, later_future rule exponent records new good kept_keeps (suc i) s.node f node (omega arith) was.1))
      (cases_eq i (sq.num.0 - 1))

  pub kept_futures : IsKnown (plain_book rule exponent records) sq.level sq → 3 < sq.level → IsFuture (plain_book rule exponent records) sq (numbered (sq.level - 1) num.0) → AreFutures rule exponent records →
      AreFutures rule exponent (slice_set records (sq.num.0 - 1) (record { node = r.node; future = Some num }))
  kept_futures known above future futures = record {
    futures = λ n m f here has.
        let new = slice_set records (sq.num.0 - 1) (record { node = r.node; future = Some num }) in
        let k = record_of_node new n m here in
        let kept : k.1.future ≡ Some f = sym (future_of_record new k.0 k.1 k.3) ∙ ap (future_at new) (sym k.2) ∙ has in
        subst (λ i. (3 < level_of m) × IsFuture (plain_book rule exponent new) (numbered (level_of m) i) (numbered (level_of m - 1) f.0)) (sym k.2)
        (subst (λ (x : PlainNode). (3 < level_of x) × IsFuture (plain_book rule exponent new) (numbered (level_of x) (suc k.0)) (numbered (level_of x - 1) f.0)) k.4 (kept_future k.0 k.1 f k.3 kept known above future futures));
  }
