use Rattle.std.proofs.Common.{◌≡◌, [], ◌++◌, ◌∙◌, ap, sym, append-nil, rules}
use Rattle.std.proofs.KnownBytes.{Appends-trans}
use Rattle.plane.proofs.Beginnings.{text_and_beginning}
use Rattle.pattern_writers.proofs.BlocksOut.{on_err}
use Rattle.pattern_writers.proofs.output_block.put.Goals as goal

pub returns-in_err-write_all-2-clause-beginning : goal.returns-in_err-write_all-2-clause-beginning
returns-in_err-write_all-2-clause-beginning g c =
    let waited : c.as_slice.result.now ≡ c.args.block.now.items = search rules in
    let block = rw waited at c.in_ok-write_all.ensures.written in
    on_err c.from_residual-in_err-write_all-2.result (text_and_beginning c.args.block.now.items block c.in_err-write_all-2.ensures.beginning)

pub returns-in_ok-write_all-2-clause-written : goal.returns-in_ok-write_all-2-clause-written
returns-in_ok-write_all-2-clause-written g c =
    let waited = c.args.block.now.items in
    let piece = c.args.piece.now in
    let same : c.as_slice.result.now ≡ waited = search rules in
    let block = rw same at c.in_ok-write_all.ensures.written in
    let none : c.try_extend_from_slice-2.new.self.items ≡ [] = search rules in
    record {
      out = waited ++ piece;
      taken = Appends-trans _ _ _ waited piece block c.in_ok-write_all-2.ensures.written;
      waiting = sym (append-nil (waited ++ piece)) ∙ ap (λ l. (waited ++ piece) ++ l) (sym none);
    }
