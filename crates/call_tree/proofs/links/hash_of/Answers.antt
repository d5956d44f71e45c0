use Rattle.std.proofs.Common.{rules}
use Rattle.call_tree.specs.checked.Links.{hash_of_link}
use Rattle.call_tree.proofs.links.hash_of.Goals as goal

pub returns : goal.returns
unfolding hash_of_link
returns c = search rules
