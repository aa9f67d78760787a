use Rattle.std.proofs.Common.{◌≡◌, ◌++◌, ◌∙◌, [], codes, inr, rules}
use Rattle.std.proofs.KnownBytes.{Appends-nil, Appends-trans}
use Rattle.plane.specs.SinkChange.{change_of}
use Rattle.plane.proofs.Beginnings.{beginning_of_more, text_and_beginning}
use Rattle.program_parts.proofs.OneLine.{none_in}
use Rattle.program_parts.proofs.Told.{failed_behind, told_behind}
use Rattle.program_parts.proofs.messages.tell_reason.Goals as goal
use Rattle.program_parts.proofs.messages.tell_reason.Goals.{in-Some+in_ok-tell_lines, in_default}

pub returns-in_err-write_all-clause-told : goal.returns-in_err-write_all-clause-told
returns-in_err-write_all-clause-told g c =
    let name : c.as_bytes.result.now ≡ c.args.program.now = search rules in
    let begun = rw name at c.in_err-write_all.ensures.beginning in
    ([], none_in, inr (beginning_of_more (codes "\n") (beginning_of_more [] (beginning_of_more (codes ": bad words:") begun)), c.in_err-write_all.ensures.failure.refused.1))

pub returns-in_err-write_all-2-clause-told : goal.returns-in_err-write_all-2-clause-told
returns-in_err-write_all-2-clause-told g c =
    let name : c.as_bytes.result.now ≡ c.args.program.now = search rules in
    let named = rw name at c.in_ok-write_all.ensures.written in
    let begun = text_and_beginning {old = g.E.Sink.taken c.args.messages.now} c.args.program.now named c.in_err-write_all-2.ensures.beginning in
    ([], none_in, inr (beginning_of_more (codes "\n") (beginning_of_more [] begun), rw c.in_ok-write_all.ensures.failure.unfailed at c.in_err-write_all-2.ensures.failure.refused.1))

pub returns-in_err-tell_lines-clause-told : goal.returns-in_err-tell_lines-clause-told
returns-in_err-tell_lines-clause-told g c =
    let messages = change_of g.E.Sink.taken g.E.Sink.failure_count c.args.messages.now c.tell_lines.new.messages in
    let name : c.as_bytes.result.now ≡ c.args.program.now = search rules in
    let named = rw name at c.in_ok-write_all.ensures.written in
    let first = c.args.program.now ++ codes ": bad words:" in
    let took = Appends-trans _ _ _ c.args.program.now (codes ": bad words:") named c.in_ok-write_all-2.ensures.written in
    let same = c.in_ok-write_all-2.ensures.failure.unfailed ∙ c.in_ok-write_all.ensures.failure.unfailed in
    let begun = c.in_err-tell_lines.ensures.beginning in (
      begun.0,
      begun.1,
      inr (
        beginning_of_more (codes "\n") (text_and_beginning first took begun.2),
        failed_behind messages c.write_all-2.new.sink first took same c.in_err-tell_lines.ensures.failure.refused.1,
      ),
    )

pub returns-clause-told : goal.returns-clause-told
returns-clause-told g c =
    let messages = change_of g.E.Sink.taken g.E.Sink.failure_count c.args.messages.now c.write_all-3.new.sink in
    let name : c.as_bytes.result.now ≡ c.args.program.now = search rules in
    let named = rw name at c.in_ok-write_all.ensures.written in
    let first = c.args.program.now ++ codes ": bad words:" in
    let took = Appends-trans _ _ _ c.args.program.now (codes ": bad words:") named c.in_ok-write_all-2.ensures.written in
    let same = c.in_ok-write_all-2.ensures.failure.unfailed ∙ c.in_ok-write_all.ensures.failure.unfailed in
    let mid = c.match-reason.messages in
    let wrote = c.write_all-3.ensures in
    elim c.match-reason.branch [
      | in-Some+in_ok-tell_lines w ↦
          let why = w.in_ok-tell_lines.ensures.told in
          let behind = Appends-trans _ _ _ first why.0 took (rw w.messages-is why.2) in
          let still : g.E.Sink.failure_count mid ≡ g.E.Sink.failure_count c.args.messages.now = rw w.messages-is (w.in_ok-tell_lines.ensures.failure.unfailed ∙ same) in
          (why.0, why.1, told_behind messages mid (first ++ why.0) behind still (codes "\n") c.write_all-3.result wrote.written wrote.beginning wrote.failure)
      | in_default w ↦
          let behind = Appends-trans _ _ _ first [] took (rw w.messages-is (Appends-nil _)) in
          let still : g.E.Sink.failure_count mid ≡ g.E.Sink.failure_count c.args.messages.now = rw w.messages-is same in
          ([], none_in, told_behind messages mid (first ++ []) behind still (codes "\n") c.write_all-3.result wrote.written wrote.beginning wrote.failure)
    ]
