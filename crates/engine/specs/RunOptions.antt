-- What says which run it is.
use Rattle.std.specs.Prelude.{ℕ}
pub use Rattle.run_options.specs.Workers.{IsWorkerCount}
use Rattle.run_options.specs.declared.options.RunOptions.{RunOptions}
pub use Rattle.table_core.specs.Sizes.{IsPairCount}
use Rattle.engine.specs.declared.options.Options.{Options}

-- which run it is, whatever is said and written of it
abbrev pub run_of : Options → RunOptions
run_of options = record {
  gens = options.gens;
  rule = options.rule;
  pairs = options.pairs;
  workers = options.workers;
}

-- the same options with so many workers, and tables of so many pair slots
abbrev pub with_workers : (workers pairs : ℕ) → Options → Options
with_workers workers pairs options = record options { pairs = pairs; workers = workers }
