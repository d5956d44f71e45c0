-- Which views see of a source's samples the sums of its stacks alone.
use Rattle.command_line.specs.declared.plans.View.{View}
use Rattle.command_line.specs.declared.plans.View.TheVariants.{Fold, Graph, Chart, Pairs, PairBoxes, Top, Diff}

-- all but a chart, which sees the order of the samples
abbrev pub SeesSums : View → Type 0
SeesSums Fold = Unit {0}
SeesSums (Graph width) = Unit {0}
SeesSums (Chart width) = ⊥
SeesSums Pairs = Unit {0}
SeesSums (PairBoxes width) = Unit {0}
SeesSums (Top top) = Unit {0}
SeesSums (Diff table) = Unit {0}
