use Rattle.std.proofs.Common.{◌≡◌, [], ap, sym, subst, refl, rules}
use Rattle.std.specs.Prelude.{◌↔◌}
use Rattle.atomic_table.specs.Table.{opening}
use Rattle.rule_text.specs.CountRule.{IsRule}
use Rattle.table_core.specs.declared.knowledge.Knowledge.{Knowledge}
use Rattle.table_core.specs.Laws.{KnowsAll}
use Rattle.node_table.specs.declared.still.Still.{Still}
use Rattle.node_table.specs.declared.desk_view.DeskView.{DeskView}
use Rattle.node_table.specs.Books.{IsSound}
use Rattle.node_table.specs.Rule.{IsSoundState}
use Rattle.node_table.specs.Stills.{words_of}
use Rattle.table_core.proofs.Everything.{all_known}
use Rattle.node_table.proofs.Openings.{begins_with, opened_sound, opening_holds}
use Rattle.node_table.proofs.table.NodeTable.of_vector.Goals as goal

pub invariant_of-result-2 : goal.invariant_of-result-2
invariant_of-result-2 c =
    let still = c.args.still.now in
    let rule : IsRule still.key.rule = search rules in
    record {
      free = ap (λ me. me.1) c.in-Ok.ensures.4;
      sound = subst (λ (view : DeskView). IsSound view) (sym (ap (λ me. me.0) c.in-Ok.ensures.4)) (opened_sound still rule);
    }

pub returns : goal.returns
returns c =
    let still = c.args.still.now in
    let told = c.in-Ok.ensures in
    record {
      of_table = record { same_table = told.2; same_key = ap (λ me. me.0.key) told.4 };
      key = refl;
      begins = λ begun. subst (λ (at : Still × DeskView). IsSoundState {S = Unit {0}} at.0 (opening begun [] at.1) ↔ (begun ≡ still.words))
          (λ i. (sym told.5 i, sym (ap (λ me. me.0) told.4) i)) (begins_with still begun);
      known = subst (λ (k : Knowledge). KnowsAll still.key.shape.bits (words_of still) k) (sym (ap (λ me. me.0.known) told.4)) (all_known still.key still.words still.good);
      no_expansions = refl;
    }

pub of_words-requires : goal.of_words-requires
of_words-requires c = opening_holds c.args.still.now c.in_ok-words.words.now c.in_ok-words.ensures
