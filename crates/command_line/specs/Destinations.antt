-- Where what the words ask for is written.
use Rattle.std.specs.Prelude.{Bool, true, false, List, [], ◌∷◌}
use Rattle.std.specs.Option.{option_map_or}
use Rattle.clap.specs.Walk.{Text}
use Rattle.command_line.specs.CommandLine.{command_line}
use Rattle.command_line.specs.Plans.{fault_of, plan_of}
use Rattle.command_line.specs.declared.destinations.Destination.{Destination}
use Rattle.command_line.specs.declared.destinations.Destination.TheVariants.{File, Pages, Standard}
use Rattle.command_line.specs.declared.plans.Form.{Form}
use Rattle.command_line.specs.declared.plans.Form.TheVariants as form
use Rattle.command_line.specs.declared.plans.Plan.{Plan}

-- a page or a picture
abbrev pub is_document : Form → Bool
is_document form.Text = false
is_document (form.Page page) = true
is_document (form.Picture picture) = true
is_document form.Types = false
is_document form.Live = false
is_document (form.Callers table) = false
is_document (form.Callees table) = false
is_document (form.Peek table) = false

abbrev pub written_to : Plan → Destination
written_to plan = option_map_or Pages plan.pages (option_map_or File plan.output (Standard (is_document plan.form)))

-- words with a fault, or with a wish for help, have no plan to be written
abbrev pub destination_of : List Text → Destination
destination_of words = elim (fault_of command_line words) [
  | [] ↦ option_map_or written_to (plan_of words) (Standard false)
  | kind ∷ kinds ↦ Standard false
]
