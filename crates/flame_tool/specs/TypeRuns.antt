-- What a run leaves on its output where it is asked for the sample types of a profile.
use Rattle.std.specs.Prelude.{◌≡◌, ℕ, List, Option, Some, None, slice_get, option_and_then}
use Rattle.std.specs.Io.KnownBytes.{Appends}
use Rattle.byte_io.specs.Pieces.{AppendsFront}
use Rattle.stack_core.specs.declared.endings.ReadFault.{ReadFault}
use Rattle.run_options.specs.declared.choices.Pick.TheVariants.{Preferred}
use Rattle.profile_messages.specs.Message.{first}
use Rattle.profile_messages.specs.FileFaults.{file_faults}
use Rattle.profile_messages.specs.SampleTypes.{all_types}
use Rattle.command_line.specs.declared.plans.Plan.{Plan}
use Rattle.view_texts.specs.Types.{types_text}

-- the bytes of a plan's first file, where they are known
abbrev pub known_profile : Plan → (List ℕ → Option (List ℕ)) → Option (List ℕ)
known_profile plan files = option_and_then files (slice_get plan.files 0)

-- the first fault of a profile before its samples, if it has one
abbrev pub table_fault : List ℕ → Option ReadFault
table_fault profile = first (file_faults profile Preferred)

-- the profile has no such fault, and the output gained the text of its sample types
abbrev pub ShowsTypes : Option (List ℕ) → Option (List ℕ) → List ℕ → Type 0
ShowsTypes old new profile =
    (table_fault profile ≡ None) × Appends old new (types_text (all_types profile))

-- the same of a part of the text from its front, or of nothing
abbrev pub ShowsTypesFront : Option (List ℕ) → Option (List ℕ) → List ℕ → Type 0
ShowsTypesFront old new profile =
    (table_fault profile ≡ None) × AppendsFront (types_text (all_types profile)) old new

-- the profile has such a fault
abbrev pub HasTableFault : List ℕ → Type 0
HasTableFault profile = (fault : ReadFault) × (table_fault profile ≡ Some fault)
