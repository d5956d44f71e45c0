use Rattle.std.proofs.Common.{refl}
use Rattle.run_options.proofs.filters.Filter.copy.Goals as goal

pub returns : goal.returns
returns c = rw (c.in_ok-clone.ensures.cases, c.in_ok-clone-2.ensures.cases) refl
