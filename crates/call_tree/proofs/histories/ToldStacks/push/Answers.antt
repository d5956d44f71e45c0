use Rattle.std.proofs.Common.{refl}
use Rattle.call_tree.proofs.histories.ToldStacks.push.Goals as goal

pub returns : goal.returns
returns c = rw (c.of.ensures, c.of-2.ensures) refl
