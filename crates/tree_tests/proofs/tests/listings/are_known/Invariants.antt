use Rattle.std.proofs.Common.{take}
use Rattle.call_tree.specs.Listing.{AreIn}
use Rattle.tree_tests.proofs.tests.listings.are_known.Given as goal

abbrev pub invariant-loop-id : goal.invariant-loop-id
invariant-loop-id g l = AreIn l.table (take l.id-index l.ids)
