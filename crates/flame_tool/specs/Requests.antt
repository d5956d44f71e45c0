-- What the words of a run ask for.
use Rattle.std.specs.Prelude.{List, [], ◌∷◌, Option, Some}
use Rattle.clap.specs.Kinds.{Kinds}
use Rattle.clap.specs.Walk.{Text}
use Rattle.command_line.specs.CommandLine.{command_line}
use Rattle.command_line.specs.Plans.{default_plan, fault_of, plan_of}
use Rattle.command_line.specs.declared.plans.Plan.{Plan}

-- the plan of a run's words: without words that of the input, folded
abbrev pub asked_plan : List Text → Option Plan
asked_plan [] = Some default_plan
asked_plan (word ∷ words) = plan_of (word ∷ words)

-- the faults of a run's words: no words have none
abbrev pub asked_faults : List Text → Kinds
asked_faults [] = []
asked_faults (word ∷ words) = fault_of command_line (word ∷ words)
