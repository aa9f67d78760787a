use Rattle.std.proofs.Common.{◌∙◌, List, ℕ, ap, sym, subst, arith, refl}
use Rattle.std.specs.Prelude.{slice_index}
use Rattle.std.proofs.lemmas.List.{with_items_is}
use Rattle.table_core.specs.Good.{AreGoodWords, KeepsWords, PartsStand}
use Rattle.node_sweep.specs.Table.{table_by}
use Rattle.node_sweep.specs.Copies.{HasFullWay}
use Rattle.node_sweep.specs.Placing.{IsSought}
use Rattle.node_sweep.specs.Transfers.{new_bits, wants}
use Rattle.node_sweep.proofs.Notes.{number_inside, parts_stand, word_nonzero}
use Rattle.node_sweep.proofs.Underway.{no_room, now_noted, still_underway, underway_as}
use Rattle.node_sweep.proofs.transfer.Transfer.note.Goals as goal

pub place-requires-clause-some : goal.place-requires-clause-some
place-requires-clause-some c =
    let transfer = c.args.self.now in
    word_nonzero transfer.old.key.now transfer.to transfer.old.words.now (wants transfer) c.args.fresh.now.words.items transfer.old.good.good c.requires.underway.copying.good c.args.kind c.args.number c.args.word c.requires.some c.requires.word

pub place-requires-clause-parts : goal.place-requires-clause-parts
place-requires-clause-parts c =
    let transfer = c.args.self.now in
    subst (λ (ws : List ℕ). PartsStand (new_bits transfer) (slice_index ws) c.args.kind c.args.word) (sym c.as_mut_slice.ensures.value)
    (parts_stand transfer.old.key.now transfer.to transfer.old.words.now (wants transfer) c.args.fresh.now.words.items transfer.old.good.good c.requires.underway.copying.good c.args.kind c.args.number c.args.word c.requires.some c.requires.word)

pub returns-clause-underway : goal.returns-clause-underway
returns-clause-underway c =
    still_underway c.args.self.now c.args.fresh.now c.requires.underway _ c.args.kind c.args.number c.args.word c.in-Some.index c.requires.some c.requires.wanted c.requires.word
    c.as_mut_slice.result.now c.place.new.words c.in-Some.ensures.some c.as_mut_slice.ensures.value
    (with_items_is c.args.fresh.now.words c.place.new.words (c.place.auto.words ∙ c.as_mut_slice.ensures.len)) refl

pub returns-clause-ok : goal.returns-clause-ok
returns-clause-ok c =
    now_noted c.args.self.now c.args.fresh.now c.requires.underway _ c.args.kind c.args.number c.args.word c.in-Some.index c.requires.some c.requires.wanted c.requires.word
    c.as_mut_slice.result.now c.place.new.words c.in-Some.ensures.some c.as_mut_slice.ensures.value
    (with_items_is c.args.fresh.now.words c.place.new.words (c.place.auto.words ∙ c.as_mut_slice.ensures.len)) refl

pub place-requires-clause-tried : goal.place-requires-clause-tried
place-requires-clause-tried c =
    subst (λ (ws : List ℕ). IsSought (table_by c.args.self.now.to ws) c.args.kind c.args.word c.args.tried) (sym c.as_mut_slice.ensures.value) c.requires.tried

pub place-requires-clause-good : goal.place-requires-clause-good
place-requires-clause-good c = subst (AreGoodWords c.args.self.now.to) (sym c.as_mut_slice.ensures.value) c.requires.underway.copying.good

pub returns-in_default-clause-underway : goal.returns-in_default-clause-underway
returns-in_default-clause-underway c =
    let is = with_items_is c.args.fresh.now.words c.place.new.words (c.place.auto.words ∙ c.as_mut_slice.ensures.len) in
    underway_as c.args.self.now c.args.fresh.now c.requires.underway _ (is ∙ c.in_default.ensures.same ∙ c.as_mut_slice.ensures.value) refl

pub returns-in_default-clause-keeps : goal.returns-in_default-clause-keeps
returns-in_default-clause-keeps c =
    let is = with_items_is c.args.fresh.now.words c.place.new.words (c.place.auto.words ∙ c.as_mut_slice.ensures.len) in
    record { kept = λ index some. ap (λ (ws : List ℕ). slice_index ws index) (is ∙ c.in_default.ensures.same ∙ c.as_mut_slice.ensures.value) }

pub returns-in_default-clause-full : goal.returns-in_default-clause-full
returns-in_default-clause-full c =
    let full = subst (λ (ws : List ℕ). HasFullWay (table_by c.args.self.now.to ws) c.args.kind c.args.word) c.as_mut_slice.ensures.value c.in_default.ensures.none in
    (refl, no_room c.args.self.now c.args.fresh.now c.requires.underway c.args.kind c.args.number c.args.word c.requires.some c.requires.wanted c.requires.word full)

pub index_mut-requires : goal.index_mut-requires
index_mut-requires c =
    let transfer = c.args.self.now in
    let below = number_inside transfer.old.key.now transfer.to transfer.old.words.now (wants transfer) c.args.fresh.now.words.items transfer.old.good.good c.requires.underway.copying.good
    c.args.kind c.args.number c.args.word c.requires.some c.requires.word in
    let long = c.requires.underway.long in
    omega arith

pub returns-clause-keeps : goal.returns-clause-keeps
returns-clause-keeps c =
    let is = with_items_is c.args.fresh.now.words c.place.new.words (c.place.auto.words ∙ c.as_mut_slice.ensures.len) in
    let keeps = subst (λ (ws : List ℕ). KeepsWords (slice_index ws) (slice_index c.place.new.words)) c.as_mut_slice.ensures.value c.in-Some.ensures.some.keeps in
    subst (λ (ws : List ℕ). KeepsWords (slice_index c.args.fresh.now.words.items) (slice_index ws)) (sym is) keeps
