use Rattle.std.proofs.Common.{◌≡◌, true, false, Ok, Err, rules, ◌∙◌, ap, inl}
use Rattle.std.proofs.result.Match.{err_is}
use Rattle.pattern_files.specs.Meaning.{is_macrocell}
use Rattle.macrocell_reader.specs.Meaning as macrocell
use Rattle.macrocell_reader.specs.Planes as planes
use Rattle.rle_reader.specs.Meaning as rle
use Rattle.text_lines.specs.Meaning.{seen_as}
use Rattle.pattern_files.proofs.Judged.{judged_macrocell, judged_rle, macrocell_refused}
use Rattle.pattern_files.proofs.pattern_file.PatternFile.open.Goals as goal

pub returns-in_err-open-clause-refused : goal.returns-in_err-open-clause-refused
returns-in_err-open-clause-refused c =
    let is : is_macrocell c.args.bytes.now ≡ true = search rules in
    let fault : c.from_residual.result ≡ Err c.in_err-open.field-0.0 = err_is _ _ c.from_residual.ensures.1 in
    rw fault (macrocell_refused c.args.bytes.now c.in_err-open.field-0.0 _ is c.in_err-open.ensures.refused)

pub returns-then-begins_with-clause-accepted : goal.returns-then-begins_with-clause-accepted
returns-then-begins_with-clause-accepted c =
    let is : is_macrocell c.args.bytes.now ≡ true = search rules in
    let read : macrocell.judged c.args.bytes.now ≡ Ok c.in_ok-open.field-0 = search rules in
    judged_macrocell c.args.bytes.now is ∙ ap (seen_as planes.as_pattern) read

pub returns-in_err-open-2-clause-refused : goal.returns-in_err-open-2-clause-refused
returns-in_err-open-2-clause-refused c =
    let is : is_macrocell c.args.bytes.now ≡ false = search rules in
    let fault : c.from_residual-in_err-open-2.result ≡ Err c.in_err-open-2.field-0.0 = err_is _ _ c.from_residual-in_err-open-2.ensures.1 in
    let refused : rle.judged c.args.bytes.now ≡ Err c.in_err-open-2.field-0.0 = search rules in
    rw fault (inl (judged_rle c.args.bytes.now is ∙ ap (seen_as rle.as_pattern) refused))

pub returns-clause-accepted : goal.returns-clause-accepted
returns-clause-accepted c =
    let is : is_macrocell c.args.bytes.now ≡ false = search rules in
    let read : rle.judged c.args.bytes.now ≡ Ok c.in_ok-open-2.field-0 = search rules in
    judged_rle c.args.bytes.now is ∙ ap (seen_as rle.as_pattern) read
