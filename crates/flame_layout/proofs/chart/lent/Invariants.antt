use Rattle.std.proofs.Common.{◌≡◌, take}
use Rattle.merged_stacks.specs.Timeline.{samples_of}
use Rattle.stack_core.specs.Ledgers.{ListState}
use Rattle.flame_layout.specs.checked.ChartRuns.{samples_in}
use Rattle.flame_layout.proofs.chart.lent.Given as goal

abbrev pub invariant-loop-list : goal.invariant-loop-list
invariant-loop-list l = samples_in (λ (list : ListState). list.samples) l.all.items ≡ samples_of (take l.list-index l.lists)
