use Rattle.std.proofs.Common.{◌≡◌, ◌+◌, ◌<◌, ◌∙◌, ap, sym, subst, arith, length, List, ℕ, Vec, Global}
use Rattle.std.specs.Prelude.{slice_index, slice_set, ◌^◌}
use Rattle.std.proofs.lemmas.Result.{IfOk-from_err}
use Rattle.std.proofs.lemmas.List.{get_or_read}
use Rattle.table_core.specs.declared.key.Key.{Key}
use Rattle.table_core.specs.declared.shape.Shape.{Shape}
use Rattle.table_core.specs.Layout.{size, result_of}
use Rattle.table_core.specs.Good.{AreGoodWords, head}
use Rattle.table_core.specs.Opening.{Reopens}
use Rattle.table_core.proofs.Lists.{length_set}
use Rattle.table_core.proofs.Reopenings.{every_reopening}
use Rattle.node_table.specs.declared.still.Still.{Still}
use Rattle.node_table.specs.Stills.{words_of}
use Rattle.node_table.proofs.Reopening.{IsThrough, rules_decided, through_kept, through_none, through_gone, through_same, through_all, through_start}
use Rattle.node_table.proofs.still.Still.reopen.Goals.{then-index-ne0+then-not-keeps_result, else-index-ne0, else-index-ne0-via-then-index-ne0+else-not-keeps_result, else-index-ne0-via-else-index-ne0}
use Rattle.node_table.proofs.still.Still.reopen.Goals as goal

good_again : (was : Still) (key : Key) (new : List ℕ) → key.shape ≡ was.key.shape → length new ≡ size was.key.shape.bits → Reopens was.key key (words_of was) (slice_index new) → AreGoodWords key new
good_again was key new shape long reopens = record {
  long = long ∙ ap (λ (s : Shape). size s.bits) (sym shape);
  good = (every_reopening was.key key (words_of was) (slice_index new) was.good.good reopens).good;
}

begun : (was : Still) (key : Key) (items : List ℕ) (name : ℕ) → items ≡ was.words → name ≡ head key → name < 2 ^ 64 → IsThrough was key (slice_set items 0 name) 0
begun was key items name same = through_start was key (slice_set items 0 name) name (ap (λ (ws : List ℕ). slice_set ws 0 name) same)

pub of_words-requires : goal.of_words-requires
of_words-requires c =
    let was = c.args.self.now in
    let new = slice_set c.in_ok-words.words.items 0 c.head.result in
    let h = begun was c.args.key c.in_ok-words.words.items c.head.result c.in_ok-words.ensures c.head.ensures c.head.type_inv in
    let reopens = through_same was c.args.key new (c.has_rule_of-one_rule.ensures.0 c.if-one_rule.true) c.if-self-key.true c.requires h in
    good_again was c.args.key new c.requires h.long reopens

pub loop-slot-preserved : goal.loop-slot-preserved
loop-slot-preserved c =
    let was = c.args.self.now in
    let key = c.args.key in
    let h = c.loop-slot.invariant in
    let at = c.index-pair.ensures.index in
    let slot = c.index-pair.ensures.slot in
    let pair = c.index-pair.result in
    let items = c.loop-slot.words.items in
    let vec = λ (v : Vec ℕ Global). v.items in
    let beside = c.result_index-beside.ensures.index in
    let range = c.result_index-beside.ensures.range in
    let inside : c.result_index-beside.result < length items = let long = h.long in omega arith in
    elim c.if-index-ne0.branch [
      | then-index-ne0+then-not-keeps_result w ↦
          let is : c.if-index-ne0.words.items ≡ slice_set items (result_of was.key.shape.bits pair) 0 =
          ap vec w.words-is ∙ ap (λ i. slice_set items i 0) beside in
          through_gone was key items c.loop-slot.slot pair h at slot c.if-index-ne0.words.items is
          (ap (λ (xs : List ℕ). length xs) is ∙ length_set items (result_of was.key.shape.bits pair) 0 ∙ h.long) w.if-not-keeps_result.ensures
      | else-index-ne0 w ↦
          subst (λ (xs : List ℕ). IsThrough was key xs (c.loop-slot.slot + 1)) (sym (ap vec w.words-is)) (elim w.else-index-ne0.branch [
            | else-index-ne0-via-then-index-ne0+else-not-keeps_result v ↦ through_kept was key items c.loop-slot.slot pair h at slot v.if-not-keeps_result.ensures
            | else-index-ne0-via-else-index-ne0 v ↦
                through_none was key items c.loop-slot.slot pair h at slot (rules_decided was key c.has_rule_of-one_rule.result c.has_rule_of-one_rule.ensures)
                (ap (slice_index items) (sym beside) ∙ sym (get_or_read items _ _ inside c.index.ensures 0) ∙ v.if-index-ne0.false)
          ])
    ]

pub of_words-requires-2 : goal.of_words-requires-2
of_words-requires-2 c =
    let was = c.args.self.now in
    let new = c.loop-slot.words.items in
    let reopens = through_all was c.args.key new c.loop-slot.slot (let far = c.loop-slot-test.false in let count = c.slot_count-slot-end.ensures in omega arith) c.requires c.loop-slot.invariant in
    good_again was c.args.key new c.requires c.loop-slot.invariant.long reopens

pub returns : goal.returns
returns c =
    let was = c.args.self.now in
    let key = c.args.key in
    let reopens = through_all was key c.loop-slot.words.items c.loop-slot.slot (let far = c.loop-slot-test.false in let count = c.slot_count-slot-end.ensures in omega arith) c.requires c.loop-slot.invariant in
    record {
      same_key = c.of_words-2.ensures.same_key;
      reopens = subst (λ (ws : List ℕ). Reopens was.key key (words_of was) (slice_index ws)) (sym c.of_words-2.ensures.same_words) reopens;
    }

pub returns-in_err-words : goal.returns-in_err-words
returns-in_err-words c = IfOk-from_err c.from_residual.result _ c.from_residual.ensures.0

pub loop-slot-init : goal.loop-slot-init
loop-slot-init c = begun c.args.self.now c.args.key c.in_ok-words.words.items c.head.result c.in_ok-words.ensures c.head.ensures c.head.type_inv

pub returns-then-self-key : goal.returns-then-self-key
returns-then-self-key c =
    let was = c.args.self.now in
    let key = c.args.key in
    let new = slice_set c.in_ok-words.words.items 0 c.head.result in
    let h = begun was key c.in_ok-words.words.items c.head.result c.in_ok-words.ensures c.head.ensures c.head.type_inv in
    let reopens = through_same was key new (c.has_rule_of-one_rule.ensures.0 c.if-one_rule.true) c.if-self-key.true c.requires h in
    record {
      same_key = c.of_words.ensures.same_key;
      reopens = subst (λ (ws : List ℕ). Reopens was.key key (words_of was) (slice_index ws)) (sym c.of_words.ensures.same_words) reopens;
    }

pub keeps_result-requires-clause-rule : goal.keeps_result-requires-clause-rule
keeps_result-requires-clause-rule c = c.has_rule_of-one_rule.ensures
