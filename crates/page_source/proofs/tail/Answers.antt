-- The part is long: nothing else unfolds it.
use Rattle.std.proofs.Common.{refl}
use Rattle.page_source.specs.Source.{page_tail}
use Rattle.page_source.proofs.tail.Goals as goal

pub returns : goal.returns
unfolding page_tail
returns c = refl
