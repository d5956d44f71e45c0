use Rattle.std.proofs.Common.{refl}
use Rattle.run_options.proofs.ring_sizes.RingSize.of.Goals as goal

pub returns-then-contains-clause-size : goal.returns-then-contains-clause-size
returns-then-contains-clause-size c = refl
