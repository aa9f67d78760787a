-- A search along a word's way.
use Rattle.std.proofs.Common.{◌≡◌, ◌≢◌, ℕ, ◌+◌, ◌^◌, ◌<◌, ◌≤◌, ◌⊎◌, cond, sym, ◌∙◌, ap, subst, arith, refl, ⊎_elim}
use Rattle.std.specs.Prelude.{◌==◌}
use Rattle.std.proofs.lemmas.Bool.{eq-eqb, ne_eqb}
use Rattle.plane.specs.Plane.{Plane}
use Rattle.table_core.specs.declared.key.Key.{Key}
use Rattle.table_core.specs.declared.knowledge.Knowledge.{Knowledge}
use Rattle.table_core.specs.declared.shape.Kind.{Kind}
use Rattle.table_core.specs.declared.shape.Kind.TheVariants.{Leaf, Pair}
use Rattle.table_core.specs.Layout.{IsSlot, way, first_part, second_part}
use Rattle.table_core.specs.Knowledge.{HasSeen, Grows}
use Rattle.table_core.specs.Lawful.{KnowsBoth, KnowsPartsFor, MayClaim}
use Rattle.table_core.specs.Learning.{LearnsWord, MeetsWord}
use Rattle.table_core.proofs.Comparisons.{same_or_other}
use Rattle.table_core.proofs.Knowing.{knows_grown}
use Rattle.table_core.proofs.Ways.{way_is_slot}
use Rattle.table_core.specs.FullWays.{HasSeenAnother, KnowsFullWay}
use Rattle.node_table.specs.declared.at.At.{At}
use Rattle.node_table.specs.declared.table.NodeTable.{NodeTable}
use Rattle.node_table.specs.DesksAtWork.{KnowsAllOf, LearnsBlocks, StaysAt}
use Rattle.node_table.specs.Numbers.{KeepsTold, IsNumber}
use Rattle.node_table.specs.Refusals.{HasNoRoom, known_by}
use Rattle.node_table.proofs.Working.{learns_none, learns_trans, still_so, told_refl}

-- a desk that was at work so has seen other words since at so many places of the word's way
pub record Sought (old now : At) (kind : Kind) (word place : ℕ) : Type 0 where
  pub learns : LearnsBlocks old now
  pub before : (earlier : ℕ) → earlier < place → HasSeenAnother (known_by now.desk) (way old.table.now.key.shape.bits kind word earlier) word

-- no result is learned from a word
pub meets_told : (key : Key) (a b : Knowledge) (index word : ℕ) → MeetsWord key a index word b → KeepsTold a b
meets_told key a b index word m = ⊎_elim
    (λ e. subst (KeepsTold a) (sym (m.none e)) (told_refl a))
    (λ some. subst (KeepsTold a) (sym (m.some some).is) (record { results = refl; learned = refl }))
    (same_or_other word 0)

pub learns_met : {old new : At} {index word : ℕ} → StaysAt old new → KnowsAllOf old.desk new.desk → MeetsWord old.table.now.key (known_by old.desk) index word (known_by new.desk) → LearnsBlocks old new
learns_met {old} {new} {index} {word} here grows met = record { here = here; grows = grows; told = meets_told old.table.now.key (known_by old.desk) (known_by new.desk) index word met }

pub sought_start : (at : At) (kind : Kind) (word : ℕ) → Sought at at kind word 0
sought_start at kind word = record { learns = learns_none at; before = λ earlier less. absurd (omega arith) }

seen_now : (key : Key) (a b : Knowledge) (index word : ℕ) → word ≢ 0 → MeetsWord key a index word b → HasSeen b index word
seen_now key a b index word some m =
    subst (λ (k : Knowledge). HasSeen k index word) (sym (m.some some).is) (0, omega arith, refl)

both_grown : (a b : Knowledge) (rank word : ℕ) (one two : Plane) → Grows a b → KnowsBoth a rank word one two → KnowsBoth b rank word one two
both_grown a b rank word one two g h = record { first = knows_grown a b rank (first_part word) one g h.first; second = knows_grown a b rank (second_part word) two g h.second }

parts_grown : (a b : Knowledge) (kind : Kind) (word : ℕ) → Grows a b → KnowsPartsFor a kind word → KnowsPartsFor b kind word
parts_grown a b Leaf word g h = tt
parts_grown a b Pair word g h = record { rank = h.rank; low = h.low; one = h.one; two = h.two; both = both_grown a b h.rank word h.one h.two g h.both }

pub in_slot : (key : Key) (kind : Kind) (word place index : ℕ) → index ≡ way key.shape.bits kind word place → IsSlot key.shape.bits kind index
in_slot key kind word place index e =
    subst (IsSlot key.shape.bits kind) (sym e) (way_is_slot key.shape.bits kind word place key.shape.range.0 (let r = key.shape.range.1 in omega arith))

-- what a desk meets on the way
module _ {old now after : At} {kind : Kind} {word place index found : ℕ} (sought : Sought old now kind word place) (there : index ≡ way old.table.now.key.shape.bits kind word place) (here : StaysAt now after) (grows : KnowsAllOf now.desk after.desk) (meets : MeetsWord now.table.now.key (known_by now.desk) index found (known_by after.desk)) where
  abbrev key : Key
  key = old.table.now.key

  met : MeetsWord key (known_by now.desk) index found (known_by after.desk)
  met = subst (λ (t : NodeTable). MeetsWord t.key (known_by now.desk) index found (known_by after.desk)) sought.learns.here.table meets

  pub still_learns : LearnsBlocks old after
  still_learns = learns_trans sought.learns (learns_met here grows meets)

  -- the places before are still known
  pub still_sought : Sought old after kind word place
  still_sought = record {
    learns = still_learns;
    before = λ earlier less. let was = sought.before earlier less in (was.0, grows.words _ was.1, was.2, was.3);
  }

  -- the word was found, or placed
  pub is_number : word ≢ 0 → found ≡ word → IsNumber key.shape.bits (known_by old.desk) (known_by after.desk) kind word index
  is_number some e =
      let slot : IsSlot key.shape.bits kind index = in_slot key kind word place index there in
      let learns : LearnsWord key (known_by now.desk) index word (known_by after.desk) = subst (λ w. LearnsWord key (known_by now.desk) index w (known_by after.desk)) e (met.some (λ z. some (sym e ∙ z))) in
      record {
        slot = slot;
        leaf = λ k. learns.leaf (subst (λ a. IsSlot key.shape.bits a index) k slot);
        pair = λ rank one two k both. learns.pair rank one two (subst (λ a. IsSlot key.shape.bits a index) k slot) (both_grown (known_by old.desk) (known_by now.desk) rank word one two sought.learns.grows both);
      }

  -- another word stands there: the search goes on
  pub goes_on : found ≢ 0 → found ≢ word → Sought old after kind word (place + 1)
  goes_on some other = record {
    learns = still_learns;
    before = λ earlier less. ⊎_elim
        (λ e. (found, subst (λ i. HasSeen (known_by after.desk) i found) (there ∙ ap (way key.shape.bits kind word) (sym e)) (seen_now key (known_by now.desk) (known_by after.desk) index found some met), some, other))
        (λ n. let was = sought.before earlier (omega arith) in (was.0, grows.words _ was.1, was.2, was.3))
        (same_or_other earlier place);
  }

  -- another word was known to stand there: it is met
  pub other_met : KnowsFullWay key.shape.bits (known_by old.desk) kind word → place < 256 → (found ≢ 0) × (found ≢ word)
  other_met full short =
      let other = full.full place short in
      let e : found ≡ other.0 = (met.agrees other.0 (subst (λ i. HasSeen (known_by now.desk) i other.0) (sym there) (sought.learns.grows.words _ other.1))).0 in
      (λ none. other.2 (sym e ∙ none), λ same. other.3 (sym e ∙ same))

  -- a zero was found: a claim is lawful there
  pub may_claim : word ≢ 0 → word < 2 ^ 64 → place < 256 → KnowsPartsFor (known_by old.desk) kind word → MayClaim after.table.now.key.shape.bits (known_by after.desk) index word
  may_claim some fits less parts =
      let may : MayClaim key.shape.bits (known_by after.desk) index word = record {
        kind = kind;
        some = some;
        fits = fits;
        place = place;
        short = less;
        here = sym there;
        before = λ earlier less. let was = still_sought.before earlier less in (was.0, was.1, was.3);
        parts = parts_grown (known_by old.desk) (known_by after.desk) kind word still_learns.grows parts;
      } in
      still_so (λ _ t. MayClaim t.key.shape.bits (known_by after.desk) index word) still_learns.here may

-- where another word stands at each place, there is no room
pub all_sought : {old now : At} {kind : Kind} {word place : ℕ} → word ≢ 0 → 256 ≤ place → Sought old now kind word place → HasNoRoom now.table.now now.desk kind word
all_sought {old} {now} {kind} {word} some far sought =
    let lack : HasNoRoom old.table.now now.desk kind word = record { some = some; way = record { full = λ p less. sought.before p (omega arith) } } in
    still_so (λ _ t. HasNoRoom t now.desk kind word) sought.learns.here lack

-- what a claim leaves
pub left_word : (r w : ℕ) → (r ≡ 0) ⊎ ((r ≢ 0) × (r ≡ w)) → cond (r == 0) w r ≡ w
left_word r w h = ⊎_elim (λ e. ap (λ b. cond b w r) (eq-eqb r 0 e)) (λ t. ap (λ b. cond b w r) (ne_eqb r 0 t.0) ∙ t.1) h

pub left_other : (r w : ℕ) → r ≢ 0 → cond (r == 0) w r ≡ r
left_other r w some = ap (λ b. cond b w r) (ne_eqb r 0 some)
