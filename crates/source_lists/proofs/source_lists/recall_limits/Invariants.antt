use Rattle.std.proofs.Common.{All, take}
use Rattle.sample_tables.specs.Samples.{IsLimited}
use Rattle.source_lists.proofs.source_lists.recall_limits.Given as goal

abbrev pub invariant-loop-list : goal.invariant-loop-list
invariant-loop-list l = All (λ list. All IsLimited list.samples) (take l.list-index l.lists)
