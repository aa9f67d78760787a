-- A way without a free slot stays so.
use Rattle.std.proofs.Common.{◌≡◌, ◌≢◌, ℕ, sym, ◌∙◌, subst}
use Rattle.table_core.specs.declared.key.Key.{Key}
use Rattle.table_core.specs.declared.knowledge.Knowledge.{Knowledge}
use Rattle.table_core.specs.declared.shape.Kind.{Kind}
use Rattle.table_core.specs.Layout.{IsSlot, way}
use Rattle.table_core.specs.Blocks.{Words}
use Rattle.table_core.specs.Good.{IsGood, KeepsWords}
use Rattle.table_core.specs.Knowledge.{HasSeenAll, IsTrueOf}
use Rattle.table_core.specs.FullWays.{EveryFullWayStays, HasSeenAnother, KnowsFullWay}
use Rattle.table_core.proofs.Knowing.{seen_true}

another_grown : (old new : Knowledge) (index word : ℕ) → HasSeenAll old new → HasSeenAnother old index word → HasSeenAnother new index word
another_grown old new index word grows other = (other.0, grows (index, other.0) other.1, other.2, other.3)

-- the word isn't where another one was seen
not_there : (key : Key) (words later : Words) (known : Knowledge) (index word : ℕ) → IsTrueOf key.shape.bits words known → KeepsWords words later → HasSeenAnother known index word → later index ≢ word
not_there key words later known index word true_of keeps other there =
    let seen : words index ≡ other.0 = (seen_true key.shape.bits words known index other.0 true_of other.1).0 in
    let stays : later index ≡ words index = keeps.kept index (λ none. other.2 (sym seen ∙ none)) in
    other.3 (sym seen ∙ (sym stays ∙ there))

nowhere : (key : Key) (words later : Words) (known : Knowledge) (kind : Kind) (word : ℕ) → word ≢ 0 → IsTrueOf key.shape.bits words known → KnowsFullWay key.shape.bits known kind word → KeepsWords words later → IsGood key later →
    (index : ℕ) → IsSlot key.shape.bits kind index → later index ≢ word
nowhere key words later known kind word some true_of full keeps good index slot there =
    let on = good.on_way kind index slot (λ none. some (sym there ∙ none)) in
    let here : way key.shape.bits kind word on.place ≡ index = subst (λ w. way key.shape.bits kind w on.place ≡ index) there on.here in
    not_there key words later known index word true_of keeps (subst (λ i. HasSeenAnother known i word) here (full.full on.place on.short)) there

pub every_full_way_stays : EveryFullWayStays
every_full_way_stays key words known kind word some true_of full = record {
  stays = λ after grows. record { full = λ place short. another_grown known after _ word grows (full.full place short) };
  nowhere = λ later keeps good. nowhere key words later known kind word some true_of full keeps good;
}
