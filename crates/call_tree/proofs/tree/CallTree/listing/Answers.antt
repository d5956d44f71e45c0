use Rattle.std.proofs.Common.{rules}
use Rattle.call_tree.proofs.tree.CallTree.listing.Goals as goal

pub returns : goal.returns
returns c = search rules
