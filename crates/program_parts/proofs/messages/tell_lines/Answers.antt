use Rattle.std.proofs.Common.{◌≡◌, ◌++◌, [], refl, rules, subst, sym}
use Rattle.std.proofs.KnownBytes.{Appends-nil, Appends-trans}
use Rattle.program_parts.proofs.OneLine.{IsOneLine, lacking, line_lacks, none_in, one_more, trimmed}
use Rattle.program_parts.proofs.Told.{line_begun, mark_begun, on_err_anyhow}
use Rattle.program_parts.proofs.messages.tell_lines.Goals as goal

pub loop-line-init : goal.loop-line-init
loop-line-init g c = (refl, ([], none_in, Appends-nil _))

pub loop-line-preserved : goal.loop-line-preserved
loop-line-preserved g c =
    let before = c.loop-line.invariant.1 in
    let line = c.as_bytes-in-loop-line.result.now in
    let mark = c.as_bytes.result.now in
    let read = lacking c.in-Some.line.now (line_lacks c.loop-line.line-iterator c.next.new.self c.in-Some.line c.lines-line-items.ensures.runs (rw c.in-Some.is at c.next.ensures.steps)) in
    let is : line ≡ c.trim.result.now = search rules in
    let whole : IsOneLine line = subst IsOneLine (sym is) (trimmed _ _ c.trim.ensures.value read) in
    let marked : mark ≡ c.mark_before.result.now = search rules in
    let between : IsOneLine mark = subst IsOneLine (sym marked) c.mark_before.ensures.one_line in (
      search rules,
      (
        before.0 ++ (mark ++ line),
        one_more before.0 mark line before.1 between whole,
        Appends-trans _ _ _ before.0 (mark ++ line) before.2 (Appends-trans _ _ _ mark line c.in_ok-write_all.ensures.written c.in_ok-write_all-2.ensures.written),
      ),
    )

pub returns-in_err-write_all-clause-beginning : goal.returns-in_err-write_all-clause-beginning
returns-in_err-write_all-clause-beginning g c =
    let before = c.loop-line.invariant.1 in
    let mark = c.as_bytes.result.now in
    let marked : mark ≡ c.mark_before.result.now = search rules in
    let between : IsOneLine mark = subst IsOneLine (sym marked) c.mark_before.ensures.one_line in
    on_err_anyhow c.from_residual.result (mark_begun before.0 mark before.1 between before.2 c.in_err-write_all.ensures.beginning)

pub returns-in_err-write_all-2-clause-beginning : goal.returns-in_err-write_all-2-clause-beginning
returns-in_err-write_all-2-clause-beginning g c =
    let before = c.loop-line.invariant.1 in
    let line = c.as_bytes-in-loop-line.result.now in
    let mark = c.as_bytes.result.now in
    let read = lacking c.in-Some.line.now (line_lacks c.loop-line.line-iterator c.next.new.self c.in-Some.line c.lines-line-items.ensures.runs (rw c.in-Some.is at c.next.ensures.steps)) in
    let is : line ≡ c.trim.result.now = search rules in
    let whole : IsOneLine line = subst IsOneLine (sym is) (trimmed _ _ c.trim.ensures.value read) in
    let marked : mark ≡ c.mark_before.result.now = search rules in
    let between : IsOneLine mark = subst IsOneLine (sym marked) c.mark_before.ensures.one_line in
    on_err_anyhow c.from_residual-in_err-write_all-2.result
    (line_begun _ _ before.0 mark line before.1 between whole before.2 c.in_ok-write_all.ensures.written c.in_err-write_all-2.ensures.beginning)
