-- What a run that is asked to be strict says of its sources.
use Rattle.std.specs.Prelude.{◌≡◌, ℕ, Bool, false, List, is_some, map}
use Rattle.std.specs.List.{list_any}
use Rattle.run_options.specs.declared.formats.Format.{Format}
use Rattle.run_options.specs.declared.options.Options.{Options}
use Rattle.command_line.specs.declared.plans.Plan.{Plan}
use Rattle.source_lists.specs.Strictness.{source_fault}
use Rattle.flame_tool.specs.KnownFacts.{wanted_rests}
use Rattle.flame_tool.specs.Runs.{HasFault}

-- a source has a line that is ignored, no sample, or a fault
abbrev pub has_strict_fault : Options → List (Format × List ℕ) → Bool
has_strict_fault options sources = list_any is_some (map (source_fault options) sources)

-- a source was read up to a fault, unless that is asked for strictly
abbrev pub HasPlainFault : Plan → List (Format × List ℕ) → Type 0
HasPlainFault plan sources = plan.is_strict ≡ false → HasFault (wanted_rests plan sources)
