use Rattle.program_parts.proofs.entry.perform_asked.Goals as goal

pub returns-clause-performed : goal.returns-clause-performed
returns-clause-performed g c = λ words asks. record {
  asked = c.args.asked.now;
  asks = asks;
  unread = c.open-source.result;
  read = c.perform.new.source;
  unwritten = c.new-file.result;
  written = c.perform.new.file;
  input = record { named = cc; unread = c.open-source.ensures.unread; unended = c.open-source.ensures.unended; unfailed = c.open-source.ensures.unfailed };
  output = record { named = cc; uncreated = c.new-file.ensures.uncreated; unwritten = c.new-file.ensures.unwritten; unfailed = c.new-file.ensures.unfailed; file_unfailed = c.new-file.ensures.file_unfailed };
  does = c.perform.ensures.does;
}

pub returns-clause-unfailed : goal.returns-clause-unfailed
returns-clause-unfailed g c = c.perform.ensures.unfailed
