use Rattle.table_core.proofs.FullShards.{full_shard_is_seen}
use Rattle.table_core.proofs.laws.full_shard_is_seen.Goals as goal

pub returns : goal.returns
returns c = full_shard_is_seen
