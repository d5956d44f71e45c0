use Rattle.call_tree.specs.Listing.{HasNumbersOf}
use Rattle.tree_tests.proofs.tests.listings.add_known.Given as goal

abbrev pub invariant-loop-ids : goal.invariant-loop-ids
invariant-loop-ids g l = HasNumbersOf l.table l.tree
