use Rattle.std.proofs.Common.{rules}
use Rattle.program_parts.proofs.system.start.Goals as goal

pub returns : goal.returns
returns g c = record {
  out = c.new-out.result;
  out_after = c.start_with.new.out;
  err = c.new-err.result;
  err_after = c.start_with.new.err;
  out_is_fresh = search rules;
  err_is_fresh = search rules;
  starts = search rules;
}
