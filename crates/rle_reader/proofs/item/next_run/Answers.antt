use Rattle.std.proofs.Common.{◌≡◌, ◌==◌, false, true, IfSome, sym, subst, ◌∙◌, arith}
use Rattle.std.proofs.lemmas.Bool.Decides.{nat_tests}
use Rattle.rle_reader.specs.Items.{is_end}
use Rattle.rle_reader.specs.Seen.{seen_next}
use Rattle.rle_reader.proofs.ItemLemmas.{next-tagged, next-untagged, next-nil, rest-tagged, on_next, counted-some, counted-end, item_slice_from-source}
use Rattle.rle_reader.proofs.item.next_run.Goals as goal
use Rattle.rle_reader.proofs.item.next_run.Goals.{in_default-next-via-in-Some-next+else-last-ne33, in_default-next-via-in_default-next}

pub returns-in-Some-next-clause-next : goal.returns-in-Some-next-clause-next
returns-in-Some-next-clause-next c =
    let source = c.args.body.now.source.now in
    let count = c.read_count-count.ensures.count in
    let h = counted-some _ _ c.read_count-count.result count c.in-Some-next.last c.in-Some-next.is in
    let other : (c.in-Some-next.last.byte == 33) ≡ false = grind (arith, nat_tests) in
    next-tagged source _ _ c.in-Some.first c.in-Some-next.last _ _ c.read_count-count.result.value
    (seen_next c.tagged_run.result) c.in-Some.ensures.bytes h.0 count.each h.1 other count.value
    (item_slice_from-source c.source.result.now source c.in-Some.first.place c.read_count-count.result.value c.in-Some-next.last
    (seen_next c.tagged_run.result)
    (c.source.ensures ∙ c.read_count-count.ensures.source ∙ c.in-Some.ensures.source) c.tagged_run.ensures)

pub returns-in-Some-next-clause-rest : goal.returns-in-Some-next-clause-rest
returns-in-Some-next-clause-rest c =
    let count = c.read_count-count.ensures.count in
    let h = counted-some _ _ c.read_count-count.result count c.in-Some-next.last c.in-Some-next.is in
    let other : (c.in-Some-next.last.byte == 33) ≡ false = grind (arith, nat_tests) in
    on_next _ _ (rest-tagged _ _ c.in-Some-next.last _ (c.in-Some.ensures.bytes ∙ h.0) count.each h.1 other)

pub returns-in_default-next-clause-next : goal.returns-in_default-next-clause-next
returns-in_default-next-clause-next c =
    let count = c.read_count-count.ensures.count in
    let ends : IfSome c.read_count-count.result.next (λ last. is_end last ≡ true) = elim c.in_default-next.branch [
      | in_default-next-via-in-Some-next+else-last-ne33 w ↦
          let mark : (w.in-Some-next.last.byte == 33) ≡ true = grind (arith, nat_tests, w.if-last-ne33.false) in
          subst (λ next. IfSome next (λ last. is_end last ≡ true)) (sym w.in-Some-next.is) mark
      | in_default-next-via-in_default-next w ↦ subst (λ next. IfSome next (λ last. is_end last ≡ true)) (sym w.in_default-next.is) tt
    ] in
    next-untagged c.args.body.now.source.now _ _ c.in-Some.first _ _ c.read_count-count.result.is_written
    (seen_next c.check_end.result) c.in-Some.ensures.bytes count.whole count.each
    (counted-end _ _ c.read_count-count.result count ends) count.written c.check_end.ensures

pub returns-in_default-clause-next : goal.returns-in_default-clause-next
returns-in_default-clause-next c = next-nil c.args.body.now.source.now _ c.in_default.ensures.bytes.0
