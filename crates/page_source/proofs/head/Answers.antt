-- The part is long: nothing else unfolds it.
use Rattle.std.proofs.Common.{refl}
use Rattle.page_source.specs.Source.{page_head}
use Rattle.page_source.proofs.head.Goals as goal

pub returns : goal.returns
unfolding page_head
returns c = refl
