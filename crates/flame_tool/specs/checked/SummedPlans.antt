-- Which plans see of the samples what their stacks weigh, and nothing else.
use Rattle.std.specs.Prelude.{ℕ, Bool, ◌&&◌, true, false, not, Option, is_some}
use Rattle.command_line.specs.declared.plans.Plan.{Plan}
use Rattle.command_line.specs.declared.plans.View.{View}
use Rattle.command_line.specs.declared.plans.View.TheVariants.{Fold, Graph, Chart, Pairs, PairBoxes, Top, Diff}

-- a chart sees the order of the samples, and so does a graph with snapshots
abbrev pub is_summed_view : View → Option ℕ → Bool
is_summed_view Fold every = true
is_summed_view (Graph width) every = not (is_some every)
is_summed_view (Chart width) every = false
is_summed_view Pairs every = true
is_summed_view (PairBoxes width) every = true
is_summed_view (Top top) every = true
is_summed_view (Diff table) every = true

-- the text is the same for samples that weigh alike. A strict run also asks whether a source has a sample at all, which no sum says
abbrev pub is_summed : Plan → Bool
is_summed plan = not plan.is_strict && is_summed_view plan.view plan.options.every
