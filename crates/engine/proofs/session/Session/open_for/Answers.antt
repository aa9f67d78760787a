use Rattle.std.proofs.Common.{◌≡◌, Err, rules, refl, inl}
use Rattle.std.proofs.result.Match.{err_is}
use Rattle.plane.specs.Fault.{placeless}
use Rattle.plane.specs.declared.refusal.Refusal.TheVariants.{NoMemory}
use Rattle.universe.specs.Cells.{live_cells}
use Rattle.pattern_files.specs.Meaning.{meaning_of}
use Rattle.engine.proofs.Acceptance.{accepted, range_refused, rule_refused, text_refused}
use Rattle.engine.proofs.KeptComments.{meaning_comments}
use Rattle.engine.proofs.session.Session.open_for.Goals as goal

pub returns-in_err-text-clause-refused : goal.returns-in_err-text-clause-refused
returns-in_err-text-clause-refused c =
    let is : c.from_residual.result ≡ Err c.in_err-text.field-0.0 = err_is _ _ c.from_residual.ensures.1 in
    rw is (text_refused c.args.bytes.now c.args.run.now c.in_err-text.field-0.0 c.in_err-text.ensures.refused)

pub returns-in_err-rule-clause-refused : goal.returns-in_err-rule-clause-refused
returns-in_err-rule-clause-refused c =
    let is : c.from_residual-in_err-rule.result ≡ Err c.in_err-rule.field-0.0 = err_is _ _ c.from_residual-in_err-rule.ensures.1 in
    rw is (rule_refused c.args.bytes.now c.args.run.now (meaning_of c.in_ok-text.text) c.in_ok-text.ensures.accepted c.in_err-rule.field-0.0 c.in_err-rule.ensures.err)

pub returns-in_err-universe-clause-refused : goal.returns-in_err-universe-clause-refused
returns-in_err-universe-clause-refused c =
    let is : c.from_residual-in_err-universe.result ≡ Err (placeless c.in_err-universe.field-0.0) = err_is _ _ c.from_residual-in_err-universe.ensures.1 in
    rw is (range_refused c.args.bytes.now c.args.run.now (meaning_of c.in_ok-text.text) c.in_ok-text.ensures.accepted c.in_ok-rule.rule c.in_ok-rule.ensures.ok.0 c.in_err-universe.field-0.0 c.in_err-universe.ensures.refused c.in_err-universe.ensures.full)

pub kept_comments-requires : goal.kept_comments-requires
kept_comments-requires c = meaning_comments c.args.bytes.now (meaning_of c.in_ok-text.text) c.in_ok-text.ensures.accepted

pub returns-in_err-kept_comments-clause-refused : goal.returns-in_err-kept_comments-clause-refused
returns-in_err-kept_comments-clause-refused c =
    let is : c.from_residual-in_err-kept_comments.result ≡ Err (placeless NoMemory) = search rules in
    rw is (range_refused c.args.bytes.now c.args.run.now (meaning_of c.in_ok-text.text) c.in_ok-text.ensures.accepted c.in_ok-rule.rule c.in_ok-rule.ensures.ok.0 NoMemory (inl (inl refl)) (λ full. cc))

pub returns-clause-ok : goal.returns-clause-ok
returns-clause-ok c = record {
  meaning = meaning_of c.in_ok-text.text;
  accepted = accepted c.args.bytes.now c.args.run.now (meaning_of c.in_ok-text.text) c.in_ok-text.ensures.accepted c.in_ok-rule.rule c.in_ok-rule.ensures.ok.0
      (live_cells c.in_ok-universe.universe) c.in_ok-rule.ensures.ok.1 c.in_ok-universe.ensures.ok;
  comments = c.in_ok-kept_comments.ensures.ok;
  generation = c.generation.ensures;
  limit = c.in_ok-universe.ensures.limit;
  opened = refl;
}
