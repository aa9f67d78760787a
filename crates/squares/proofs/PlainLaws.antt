-- Good records are a book.
use Rattle.std.proofs.Common.{◌≡◌, ◌≢◌, ℕ, suc, ◌+◌, ◌-◌, ◌^◌, ◌<◌, ◌≤◌, Bool, true, false, List, [], ◌∷◌, ◌++◌, sym, ◌∙◌, ap, subst, arith, refl}
use Rattle.std.specs.Prelude.{IsTrue, Option, Some, None, is_some, Contains, nat_le, ◌&&◌}
use Rattle.std.proofs.lemmas.Bool.{le-leb, false≢true}
use Rattle.std.proofs.lemmas.List.{map-append}
use Rattle.rule_text.specs.CountRule.{CountRule, IsRule}
use Rattle.plane.specs.Plane.{Plane}
use Rattle.plane.specs.Square.{IsSame, IsSquare, bits_plane, cut, empty}
use Rattle.plane.proofs.Cuts.{cut_same, cut_empty}
use Rattle.plane.proofs.Same.{same_refl, same_sym, same_trans}
use Rattle.squares.specs.Book.{IsBook, IsKnown, Shows, IsEmpty, IsFuture, Keeps, AreQuarters, numbered}
use Rattle.squares.specs.declared.node.PlainNode.{PlainNode}
use Rattle.squares.specs.declared.node.PlainNode.TheVariants.{Inner, Leaf}
use Rattle.squares.specs.declared.node.Quarters.{Quarters}
use Rattle.squares.specs.declared.node.Record.{Record}
use Rattle.squares.specs.declared.sq.Num.{Num}
use Rattle.squares.specs.declared.sq.Sq.{Sq}
use Rattle.squares.specs.Nodes.{nodes_of, node_at, level_of, knows_number, leaf_plane, plane_at, plain_book, results_from, AreFutures, IsGood}
use Rattle.squares.proofs.NodeLaws.{plane_square, zero_plane, one_number, all_joined, node_is, at_nw, at_ne, at_sw, at_se}
use Rattle.squares.proofs.NodeLists.{known_later, node_known, not_zero, plane_later, level_at, levels, at_height}
use Rattle.squares.proofs.RecordLists.{kept_of, results_once, node_of_record, future_of_record}
use Rattle.squares.proofs.Results.{future_kept}
use Rattle.squares.proofs.SquareNumbers.{same_sq}

both : (a b : Bool) → a ≡ true → b ≡ true → (a && b) ≡ true
both true b h k = k
both false b h k = absurd (false≢true h)

pub zero_known : (nodes : List PlainNode) (level : ℕ) → 3 ≤ level → level ≤ 65 → IsTrue (knows_number nodes level 0)
zero_known nodes level low high = both (nat_le 3 level) (nat_le level 65) (le-leb 3 level low) (le-leb level 65 high)

-- a number of good nodes is a known square
pub is_known : (rule : CountRule) (exponent : ℕ) (records : List Record) → IsGood (nodes_of records) → (level n : ℕ) → IsTrue (knows_number (nodes_of records) level n) → IsKnown (plain_book rule exponent records) level (numbered level n)
is_known rule exponent records good level n h = let k = levels (nodes_of records) good level n h in record { known = h; at_level = refl; low = k.0; high = k.1 }

-- a node of a leaf shows its cells
pub leaf_shows : (rule : CountRule) (exponent : ℕ) (records : List Record) (n word : ℕ) → IsGood (nodes_of records) → node_at (nodes_of records) n ≡ Some (Leaf word) → Shows (plain_book rule exponent records) 3 (bits_plane word) (numbered 3 n)
leaf_shows rule exponent records n word good at = record {
  known = is_known rule exponent records good 3 n (node_known (nodes_of records) 3 n (Leaf word) (not_zero (nodes_of records) n _ at) at refl);
  cells = subst (λ o. IsSame (leaf_plane o) (bits_plane word)) (sym at) (same_refl (bits_plane word));
}

some_from : (o : Option Num) → is_some o ≡ true → (num : Num) × (o ≡ Some num)
some_from None e = absurd (false≢true e)
some_from (Some num) e = (num, refl)

-- a square whose result is kept
kept_square : (rule : CountRule) (exponent : ℕ) (records : List Record) → IsGood (nodes_of records) → AreFutures rule exponent records →
    (sq : Sq) → Contains (results_from 0 records) sq → IsTrue (knows_number (nodes_of records) sq.level sq.num.0) × (3 < sq.level) × (¬ IsEmpty sq)
kept_square rule exponent records good futures sq h =
    let k = kept_of 0 records sq h in
    let i = k.0 in
    let number : sq.num.0 ≡ suc i = ap (λ (s : Sq). s.num.0) k.1.is ∙ ap suc (let z : 0 + i ≡ i = omega arith in z) in
    let level : sq.level ≡ level_of k.1.kept.node = ap (λ (s : Sq). s.level) k.1.is in
    let at : node_at (nodes_of records) (suc i) ≡ Some k.1.kept.node = node_of_record records i k.1.kept k.1.at in
    let num = some_from k.1.kept.future k.1.has in
    let more = futures.futures (suc i) k.1.kept.node num.0 at (future_of_record records i k.1.kept k.1.at ∙ num.1) in
    let above : 3 < level_of k.1.kept.node = more.0 in (
      subst (λ n. IsTrue (knows_number (nodes_of records) sq.level n)) (sym number) (node_known (nodes_of records) sq.level (suc i) k.1.kept.node (omega arith) at (sym level)),
      omega arith,
      (λ none. let no : suc i ≡ 0 = sym number ∙ none in omega arith),
    )

pub book_good : (rule : CountRule) (exponent : ℕ) (records : List Record) → IsRule rule → IsGood (nodes_of records) → AreFutures rule exponent records → IsBook (plain_book rule exponent records)
book_good rule exponent records is_rule good futures = let nodes = nodes_of records in record {
  rule = is_rule;
  levels = λ sq s. levels nodes good sq.level sq.num.0 s;
  square = λ sq s.
      let low = (levels nodes good sq.level sq.num.0 s).0 in
      let e : sq.level - 3 + 3 ≡ sq.level = omega arith in
      subst (λ l. IsSquare (2 ^ l) (plane_at nodes (sq.level - 3) sq.num.0)) e (plane_square nodes (sq.level - 3) sq.num.0);
  one_number = λ a b s t level same.
      let low = (levels nodes good b.level b.num.0 t).0 in
      same_sq a b level
      (one_number nodes good (b.level - 3) a.num.0 b.num.0 (at_height nodes b.level a.num.0 low (subst (λ l. IsTrue (knows_number nodes l a.num.0)) level s))
      (at_height nodes b.level b.num.0 low t) (subst (λ l. IsSame (plane_at nodes (l - 3) a.num.0) (plane_at nodes (b.level - 3) b.num.0)) level same));
  zero_known = λ level low high. zero_known nodes level low high;
  zero_empty = λ level. zero_plane nodes (level - 3);
  results = λ sq h. kept_square rule exponent records good futures sq h;
  results_once = λ i j sq h k. results_once 0 records i j sq h k;
}

-- what is known of some records is known of more
pub keeps_more : (rule : CountRule) (exponent : ℕ) (old new : List Record) (more : List PlainNode) → IsGood (nodes_of old) → nodes_of new ≡ nodes_of old ++ more →
    ((sq : Sq) → Contains (results_from 0 old) sq → Contains (results_from 0 new) sq) → Keeps (plain_book rule exponent old) (plain_book rule exponent new)
keeps_more rule exponent old new more good e results = record {
  rule = refl;
  exponent = refl;
  known = λ sq s. subst (λ nodes. IsTrue (knows_number nodes sq.level sq.num.0)) (sym e) (known_later (nodes_of old) more sq.level sq.num.0 s);
  cells = λ sq s.
      let low = (levels (nodes_of old) good sq.level sq.num.0 s).0 in
      subst (λ nodes. IsSame (plane_at nodes (sq.level - 3) sq.num.0) (plane_at (nodes_of old) (sq.level - 3) sq.num.0)) (sym e)
      (plane_later (nodes_of old) more good (sq.level - 3) sq.num.0 (at_height (nodes_of old) sq.level sq.num.0 low s));
  results = results;
  learned = omega arith;
  facts = λ fact told. told;
  full = λ s. s;
  memory = refl;
  store = refl;
}

-- the futures of some records are those of more
pub later_future : (rule : CountRule) (exponent : ℕ) (old new : List Record) → IsGood (nodes_of old) → Keeps (plain_book rule exponent old) (plain_book rule exponent new) →
    (n : ℕ) (node : PlainNode) (num : Num) → node_at (nodes_of old) n ≡ Some node → n ≢ 0 → IsFuture (plain_book rule exponent old) (numbered (level_of node) n) (numbered (level_of node - 1) num.0) →
    IsFuture (plain_book rule exponent new) (numbered (level_of node) n) (numbered (level_of node - 1) num.0)
later_future rule exponent old new good keeps n node num at some is =
    future_kept (plain_book rule exponent old) (plain_book rule exponent new) (numbered (level_of node) n) (numbered (level_of node - 1) num.0) keeps
    (is_known rule exponent old good (level_of node) n (node_known (nodes_of old) (level_of node) n node some at refl)) is

pub nodes_pushed : (records : List Record) (last : Record) → nodes_of (records ++ last ∷ []) ≡ nodes_of records ++ last.node ∷ []
nodes_pushed records last = map-append (λ (r : Record). r.node) records (last ∷ [])

-- the quarters of the empty square
module _ (rule : CountRule) (exponent : ℕ) (records : List Record) (good : IsGood (nodes_of records)) where
  quarter_shown : (level n left top : ℕ) (plane : Plane) → IsTrue (knows_number (nodes_of records) (level - 1) n) → IsSame (plane_at (nodes_of records) (level - 1 - 3) n) (cut (2 ^ (level - 1)) left top plane) →
      Shows (plain_book rule exponent records) (level - 1) (cut (2 ^ (level - 1)) left top plane) (numbered (level - 1) n)
  quarter_shown level n left top plane h same = record { known = is_known rule exponent records good (level - 1) n h; cells = same }

  pub zero_quarters : (level n : ℕ) → 3 < level → level ≤ 65 → n ≡ 0 →
      AreQuarters (plain_book rule exponent records) level (plane_at (nodes_of records) (level - 3) n) (numbered (level - 1) 0 ∷ numbered (level - 1) 0 ∷ numbered (level - 1) 0 ∷ numbered (level - 1) 0 ∷ [])
  zero_quarters level n low high e =
      let nodes = nodes_of records in
      let known : IsTrue (knows_number nodes (level - 1) 0) = zero_known nodes (level - 1) (omega arith) (omega arith) in
      let s = 2 ^ (level - 1) in
      let whole : IsSame (plane_at nodes (level - 3) n) empty = subst (λ m. IsSame (plane_at nodes (level - 3) m) empty) (sym e) (zero_plane nodes (level - 3)) in
      let part = λ (left top : ℕ). same_trans (zero_plane nodes (level - 1 - 3)) (same_sym (same_trans (cut_same s left top _ _ whole) (cut_empty s left top))) in
      record {
        nw = quarter_shown level 0 0 0 (plane_at nodes (level - 3) n) known (part 0 0);
        ne = quarter_shown level 0 s 0 (plane_at nodes (level - 3) n) known (part s 0);
        sw = quarter_shown level 0 0 s (plane_at nodes (level - 3) n) known (part 0 s);
        se = quarter_shown level 0 s s (plane_at nodes (level - 3) n) known (part s s);
      }

  pub node_quarters : (level n : ℕ) (q : Quarters) → 3 < level → IsTrue (knows_number (nodes_of records) level n) → node_at (nodes_of records) n ≡ Some (Inner q) →
      AreQuarters (plain_book rule exponent records) level (plane_at (nodes_of records) (level - 3) n) (numbered (level - 1) q.nw.0 ∷ numbered (level - 1) q.ne.0 ∷ numbered (level - 1) q.sw.0 ∷ numbered (level - 1) q.se.0 ∷ [])
  node_quarters level n q above h at =
      let nodes = nodes_of records in
      let k = good.inner n q at in
      let same_level : q.level ≡ level = level_at nodes level n (Inner q) h at in
      let known = λ (m : ℕ) (g : IsTrue (knows_number nodes (q.level - 1) m)). subst (λ l. IsTrue (knows_number nodes (l - 1) m)) same_level g in
      let more = level - 1 - 3 in
      let low : level - 3 ≡ suc (level - 1 - 3) = omega arith in
      let side : more + 3 ≡ level - 1 = omega arith in
      let shown = plane_at nodes (level - 3) n in
      let whole : IsSame (all_joined nodes more q) shown = same_sym (subst (λ m. IsSame (plane_at nodes m n) (all_joined nodes more q)) (sym low) (node_is nodes more q n at)) in
      record {
        nw = quarter_shown level q.nw.0 0 0 shown (known q.nw.0 k.nw) (subst (λ m. IsSame (plane_at nodes more q.nw.0) (cut (2 ^ m) 0 0 shown)) side (same_trans (at_nw nodes more q) (cut_same (2 ^ (more + 3)) 0 0 _ _ whole)));
        ne = quarter_shown level q.ne.0 (2 ^ (level - 1)) 0 shown (known q.ne.0 k.ne) (subst (λ m. IsSame (plane_at nodes more q.ne.0) (cut (2 ^ m) (2 ^ m) 0 shown)) side (same_trans (at_ne nodes more q) (cut_same (2 ^ (more + 3)) (2 ^ (more + 3)) 0 _ _ whole)));
        sw = quarter_shown level q.sw.0 0 (2 ^ (level - 1)) shown (known q.sw.0 k.sw) (subst (λ m. IsSame (plane_at nodes more q.sw.0) (cut (2 ^ m) 0 (2 ^ m) shown)) side (same_trans (at_sw nodes more q) (cut_same (2 ^ (more + 3)) 0 (2 ^ (more + 3)) _ _ whole)));
        se = quarter_shown level q.se.0 (2 ^ (level - 1)) (2 ^ (level - 1)) shown (known q.se.0 k.se) (subst (λ m. IsSame (plane_at nodes more q.se.0) (cut (2 ^ m) (2 ^ m) (2 ^ m) shown)) side (same_trans (at_se nodes more q) (cut_same (2 ^ (more + 3)) (2 ^ (more + 3)) (2 ^ (more + 3)) _ _ whole)));
      }
