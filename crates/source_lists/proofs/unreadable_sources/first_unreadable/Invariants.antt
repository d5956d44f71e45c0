use Rattle.std.proofs.Common.{All, take}
use Rattle.source_lists.specs.Runs.{IsReadOut}
use Rattle.source_lists.proofs.unreadable_sources.first_unreadable.Given as goal

abbrev pub invariant-loop-source : goal.invariant-loop-source
invariant-loop-source l = All IsReadOut (take l.source l.lists)
