-- Lists of records, and the results that they keep.
use Rattle.std.proofs.Common.{◌≡◌, ℕ, zero, suc, ◌+◌, ◌-◌, ◌<◌, ◌⊎◌, Bool, true, false, cond, List, [], ◌∷◌, ◌++◌, length, sym, ◌∙◌, ap, subst, arith, refl, inl, inr, ⊎_elim}
use Rattle.std.specs.Prelude.{Option, Some, is_some, slice_get, slice_set, slice_index_or, Contains, option_map, option_and_then}
use Rattle.std.proofs.lemmas.Bool.{false≢true}
use Rattle.std.proofs.lemmas.Bool.{cases_eq}
use Rattle.squares.specs.declared.node.PlainNode.{PlainNode}
use Rattle.squares.specs.declared.node.Record.{Record}
use Rattle.squares.specs.declared.sq.Sq.{Sq}
use Rattle.squares.proofs.Places.{set_same, set_other}
use Rattle.squares.specs.Book.{Gains, numbered}
use Rattle.squares.specs.Nodes.{nodes_of, node_at, level_of, results_from, future_at}

-- the i-th record keeps a result, and is that of this square, where the first has the number behind
-- n
pub record IsKept (n : ℕ) (records : List Record) (i : ℕ) (sq : Sq) : Type 0 where
  pub kept : Record
  pub at : slice_get records i ≡ Some kept
  pub has : is_some kept.future ≡ true
  pub is : sq ≡ numbered (level_of kept.node) (suc (n + i))

first_is : {X : Type 0} (x : X) (xs : List X) → Contains (x ∷ xs) x
first_is x xs = (0, omega arith, refl)

rest_has : {X : Type 0} (x y : X) (xs : List X) → Contains xs y → Contains (x ∷ xs) y
rest_has x y xs h = (suc h.0, (let less = h.1 in omega arith), h.2)

has_cases : {X : Type 0} (x y : X) (xs : List X) → Contains (x ∷ xs) y → (x ≡ y) ⊎ Contains xs y
has_cases x y xs h = cases x y xs h.0 h.1 h.2
  where
    cases : {X : Type 0} (x y : X) (xs : List X) (k : ℕ) → k < length (x ∷ xs) → slice_index_or (x ∷ xs) k y ≡ y → (x ≡ y) ⊎ Contains xs y
    cases x y xs zero less e = inl e
    cases x y xs (suc k) less e = inr (k, omega arith, e)

none_has : {X : Type 0} (y : X) → Contains [] y → ⊥
none_has y h = let less = h.1 in omega arith

numbered_next : (level n i : ℕ) → numbered level (suc (suc n + i)) ≡ numbered level (suc (n + suc i))
numbered_next level n i = ap (λ k. numbered level (suc k)) (let e : suc n + i ≡ n + suc i = omega arith in e)

kept_next : (n : ℕ) (r : Record) (rs : List Record) (i : ℕ) (sq : Sq) → IsKept (suc n) rs i sq → IsKept n (r ∷ rs) (suc i) sq
kept_next n r rs i sq h = record { kept = h.kept; at = h.at; has = h.has; is = h.is ∙ numbered_next (level_of h.kept.node) n i }

kept_here : (n : ℕ) (r : Record) (rs : List Record) (sq : Sq) → is_some r.future ≡ true → numbered (level_of r.node) (suc n) ≡ sq → IsKept n (r ∷ rs) 0 sq
kept_here n r rs sq some e = record { kept = r; at = refl; has = some; is = sym e ∙ ap (λ k. numbered (level_of r.node) (suc k)) (let z : n ≡ n + 0 = omega arith in z) }

kept_step : (n : ℕ) (r : Record) (rs : List Record) (sq : Sq) (b : Bool) → is_some r.future ≡ b → (Contains (results_from (suc n) rs) sq → (i : ℕ) × IsKept (suc n) rs i sq) →
    Contains (cond b (numbered (level_of r.node) (suc n) ∷ results_from (suc n) rs) (results_from (suc n) rs)) sq → (i : ℕ) × IsKept n (r ∷ rs) i sq
kept_step n r rs sq true e rest h = ⊎_elim (λ t. (0, kept_here n r rs sq e t)) (λ t. let k = rest t in (suc k.0, kept_next n r rs k.0 sq k.1)) (has_cases _ sq _ h)
kept_step n r rs sq false e rest h = let k = rest h in (suc k.0, kept_next n r rs k.0 sq k.1)

pub kept_of : (n : ℕ) (records : List Record) (sq : Sq) → Contains (results_from n records) sq → (i : ℕ) × IsKept n records i sq
kept_of n [] sq h = absurd (none_has sq h)
kept_of n (r ∷ rs) sq h = kept_step n r rs sq (is_some r.future) refl (kept_of (suc n) rs sq) h

there : (b : Bool) (x sq : Sq) (xs : List Sq) → Contains xs sq → Contains (cond b (x ∷ xs) xs) sq
there true x sq xs h = rest_has x sq xs h
there false x sq xs h = h

here : (b : Bool) (x sq : Sq) (xs : List Sq) → b ≡ true → sq ≡ x → Contains (cond b (x ∷ xs) xs) sq
here true x sq xs e is = subst (Contains (x ∷ xs)) (sym is) (first_is x xs)
here false x sq xs e is = absurd (false≢true e)

pub listed : (n : ℕ) (records : List Record) (i : ℕ) (sq : Sq) → IsKept n records i sq → Contains (results_from n records) sq
listed n [] i sq h = let at = h.at in let no : ⊥ = cc in absurd no
listed n (r ∷ rs) zero sq h =
    let at = h.at in
    let same : h.kept ≡ r = cc in
    let kept : is_some r.future ≡ true = ap (λ (x : Record). is_some x.future) (sym same) ∙ h.has in
    here (is_some r.future) _ sq _ kept (h.is ∙ ap (λ (x : Record). numbered (level_of x.node) (suc (n + 0))) same ∙ ap (λ k. numbered (level_of r.node) (suc k)) (let z : n + 0 ≡ n = omega arith in z))
listed n (r ∷ rs) (suc i) sq h =
    there (is_some r.future) _ sq _ (listed (suc n) rs i sq (record { kept = h.kept; at = h.at; has = h.has; is = h.is ∙ sym (numbered_next (level_of h.kept.node) n i) }))

some_record : (a b : Record) → Some a ≡ Some b → a ≡ b
some_record a b e = cc

pub nodes_set : (records : List Record) (i : ℕ) (old new : Record) → slice_get records i ≡ Some old → new.node ≡ old.node → nodes_of (slice_set records i new) ≡ nodes_of records
nodes_set [] i old new at e = refl
nodes_set (r ∷ rs) zero old new at e = ap (λ n. n ∷ nodes_of rs) (e ∙ ap (λ (x : Record). x.node) (some_record old r (sym at)))
nodes_set (r ∷ rs) (suc i) old new at e = ap (λ ns. r.node ∷ ns) (nodes_set rs i old new at e)

cond_at : {A : Type 0} (b c : Bool) (x y : A) → b ≡ c → cond b x y ≡ cond c x y
cond_at b c x y e = ap (λ t. cond t x y) e

more_length : (b : Bool) (x : Sq) (xs ys : List Sq) → length xs ≡ suc (length ys) → length (cond b (x ∷ xs) xs) ≡ suc (length (cond b (x ∷ ys) ys))
more_length true x xs ys e = ap suc e
more_length false x xs ys e = e

set_length : (n : ℕ) (records : List Record) (i : ℕ) (old new : Record) → slice_get records i ≡ Some old → is_some old.future ≡ false → is_some new.future ≡ true →
    length (results_from n (slice_set records i new)) ≡ suc (length (results_from n records))
set_length n [] i old new at none some = let no : ⊥ = cc in absurd no
set_length n (r ∷ rs) zero old new at none some =
    let was : is_some r.future ≡ false = ap (λ (x : Record). is_some x.future) (some_record r old at) ∙ none in
    ap length (cond_at (is_some new.future) true (numbered (level_of new.node) (suc n) ∷ results_from (suc n) rs) (results_from (suc n) rs) some)
    ∙ ap (λ xs. suc (length xs)) (sym (cond_at (is_some r.future) false (numbered (level_of r.node) (suc n) ∷ results_from (suc n) rs) (results_from (suc n) rs) was))
set_length n (r ∷ rs) (suc i) old new at none some = more_length (is_some r.future) _ _ _ (set_length (suc n) rs i old new at none some)

same_rest : (b : Bool) (x : Sq) (xs ys : List Sq) → xs ≡ ys → cond b (x ∷ xs) xs ≡ cond b (x ∷ ys) ys
same_rest b x xs ys e = ap (λ zs. cond b (x ∷ zs) zs) e

-- a result instead of a result
pub set_results : (n : ℕ) (records : List Record) (i : ℕ) (old new : Record) → slice_get records i ≡ Some old → new.node ≡ old.node → is_some old.future ≡ is_some new.future →
    results_from n (slice_set records i new) ≡ results_from n records
set_results n [] i old new at e some = refl
set_results n (r ∷ rs) zero old new at e some =
    let same : old ≡ r = some_record old r (sym at) in
    ap (λ m. cond (is_some new.future) (numbered (level_of m) (suc n) ∷ results_from (suc n) rs) (results_from (suc n) rs)) (e ∙ ap (λ (x : Record). x.node) same)
    ∙ cond_at (is_some new.future) (is_some r.future) _ _ (sym some ∙ ap (λ (x : Record). is_some x.future) same)
set_results n (r ∷ rs) (suc i) old new at e some = same_rest (is_some r.future) _ _ _ (set_results (suc n) rs i old new at e some)

-- the first result of a record
pub set_gains : (records : List Record) (i : ℕ) (old new : Record) (sq : Sq) → slice_get records i ≡ Some old → new.node ≡ old.node → is_some old.future ≡ false → is_some new.future ≡ true →
    sq ≡ numbered (level_of new.node) (suc i) → Gains (results_from 0 records) (results_from 0 (slice_set records i new)) sq
set_gains records i old new sq at node none some is = record {
  length = set_length 0 records i old new at none some;
  has = λ q. (
    (λ h. let k = kept_of 0 (slice_set records i new) q h in ⊎_elim
        (λ e. let same : k.1.kept ≡ new = some_record k.1.kept new (sym k.1.at ∙ ap (slice_get (slice_set records i new)) e ∙ set_same records i old new at) in
        inl (k.1.is ∙ ap (λ (x : Record). numbered (level_of x.node) (suc (0 + k.0))) same ∙ ap (λ m. numbered (level_of new.node) (suc m)) (let z : 0 + k.0 ≡ i = omega arith in z) ∙ sym is))
        (λ apart. inr (listed 0 records k.0 q (record { kept = k.1.kept; at = sym (set_other records i k.0 new apart) ∙ k.1.at; has = k.1.has; is = k.1.is })))
        (cases_eq k.0 i)),
    (λ h. ⊎_elim
        (λ e. listed 0 (slice_set records i new) i q (record { kept = new; at = set_same records i old new at; has = some; is = e ∙ is ∙ ap (λ m. numbered (level_of new.node) (suc m)) (let z : i ≡ 0 + i = omega arith in z) }))
        (λ t. let k = kept_of 0 records q t in listed 0 (slice_set records i new) k.0 q (record {
          kept = k.1.kept;
          at = set_other records i k.0 new (λ e. let same : k.1.kept ≡ old = some_record k.1.kept old (sym k.1.at ∙ ap (slice_get records) e ∙ at) in false≢true (sym none ∙ ap (λ (x : Record). is_some x.future) (sym same) ∙ k.1.has)) ∙ k.1.at;
          has = k.1.has;
          is = k.1.is;
        })) h),
  );
}

-- a record without a result comes last
push_cond : (b : Bool) (x : Sq) → b ≡ false → cond b (x ∷ []) [] ≡ []
push_cond true x e = absurd (false≢true (sym e))
push_cond false x e = refl

pub push_results : (n : ℕ) (records : List Record) (last : Record) → is_some last.future ≡ false → results_from n (records ++ last ∷ []) ≡ results_from n records
push_results n [] last none = push_cond (is_some last.future) _ none
push_results n (r ∷ rs) last none = same_rest (is_some r.future) _ _ _ (push_results (suc n) rs last none)

-- each square stands once
some_square : (a b : Sq) → Some a ≡ Some b → a ≡ b
some_square a b e = cc

first_number : (n level : ℕ) (sq : Sq) → Some (numbered level (suc n)) ≡ Some sq → sq.num.0 ≡ suc n
first_number n level sq e = ap (λ (s : Sq). s.num.0) (sym (some_square (numbered level (suc n)) sq e))

above_step : (n : ℕ) (b : Bool) (level : ℕ) (rest : List Sq) → ((i : ℕ) (sq : Sq) → slice_get rest i ≡ Some sq → suc n < sq.num.0) →
    (i : ℕ) (sq : Sq) → slice_get (cond b (numbered level (suc n) ∷ rest) rest) i ≡ Some sq → n < sq.num.0
above_step n true level rest f zero sq h = let e = first_number n level sq h in omega arith
above_step n true level rest f (suc i) sq h = let k = f i sq h in omega arith
above_step n false level rest f i sq h = let k = f i sq h in omega arith

above : (n : ℕ) (records : List Record) (i : ℕ) (sq : Sq) → slice_get (results_from n records) i ≡ Some sq → n < sq.num.0
above n [] i sq h = let no : ⊥ = cc in absurd no
above n (r ∷ rs) i sq h = above_step n (is_some r.future) (level_of r.node) (results_from (suc n) rs) (above (suc n) rs) i sq h

once_step : (n : ℕ) (b : Bool) (level : ℕ) (rest : List Sq) → ((i : ℕ) (sq : Sq) → slice_get rest i ≡ Some sq → suc n < sq.num.0) →
    ((i j : ℕ) (sq : Sq) → slice_get rest i ≡ Some sq → slice_get rest j ≡ Some sq → i ≡ j) →
    (i j : ℕ) (sq : Sq) → slice_get (cond b (numbered level (suc n) ∷ rest) rest) i ≡ Some sq → slice_get (cond b (numbered level (suc n) ∷ rest) rest) j ≡ Some sq → i ≡ j
once_step n true level rest f once zero zero sq h k = refl
once_step n true level rest f once zero (suc j) sq h k = let e = first_number n level sq h in let less = f j sq k in absurd (omega arith)
once_step n true level rest f once (suc i) zero sq h k = let e = first_number n level sq k in let less = f i sq h in absurd (omega arith)
once_step n true level rest f once (suc i) (suc j) sq h k = ap suc (once i j sq h k)
once_step n false level rest f once i j sq h k = once i j sq h k

pub results_once : (n : ℕ) (records : List Record) (i j : ℕ) (sq : Sq) → slice_get (results_from n records) i ≡ Some sq → slice_get (results_from n records) j ≡ Some sq → i ≡ j
results_once n [] i j sq h k = let no : ⊥ = cc in absurd no
results_once n (r ∷ rs) i j sq h k = once_step n (is_some r.future) (level_of r.node) (results_from (suc n) rs) (above (suc n) rs) (results_once (suc n) rs) i j sq h k

-- the record, the node and the future under a number
pub node_of_record : (records : List Record) (i : ℕ) (r : Record) → slice_get records i ≡ Some r → node_at (nodes_of records) (suc i) ≡ Some r.node
node_of_record [] i r h = let no : ⊥ = cc in absurd no
node_of_record (x ∷ xs) zero r h = ap (λ (o : Option Record). option_map (λ (s : Record). s.node) o) h
node_of_record (x ∷ xs) (suc i) r h = node_of_record xs i r h

pub record_of_node : (records : List Record) (n : ℕ) (node : PlainNode) → node_at (nodes_of records) n ≡ Some node → (i : ℕ) × (r : Record) × (n ≡ suc i) × (slice_get records i ≡ Some r) × (r.node ≡ node)
record_of_node records zero node h = let no : ⊥ = cc in absurd no
record_of_node [] (suc i) node h = let no : ⊥ = cc in absurd no
record_of_node (x ∷ xs) (suc zero) node h = (0, x, refl, refl, cc)
record_of_node (x ∷ xs) (suc (suc i)) node h = let k = record_of_node xs (suc i) node h in (suc k.0, k.1, ap suc k.2, k.3, k.4)

pub future_of_record : (records : List Record) (i : ℕ) (r : Record) → slice_get records i ≡ Some r → future_at records (suc i) ≡ r.future
future_of_record records i r h = ap (λ (o : Option Record). option_and_then (λ (s : Record). s.future) o) h

-- the record under a number that stands for a square
pub record_there : (records : List Record) (n : ℕ) (node : PlainNode) → node_at (nodes_of records) n ≡ Some node → (r : Record) × (slice_get records (n - 1) ≡ Some r) × (r.node ≡ node)
record_there records n node h =
    let k = record_of_node records n node h in
    let place : k.0 ≡ n - 1 = let e = k.2 in omega arith in
    (k.1, subst (λ i. slice_get records i ≡ Some k.1) place k.3, k.4)
