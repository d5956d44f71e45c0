use Rattle.std.proofs.Common.{rules}
use Rattle.sample_tables.specs.NameHashes.{hash_of_name}
use Rattle.sample_tables.proofs.number_cache.hash_of_name.Goals as goal

pub returns : goal.returns
unfolding hash_of_name
returns c = search rules
