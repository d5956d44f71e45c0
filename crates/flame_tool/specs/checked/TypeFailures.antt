-- What a failed run says of the profile whose sample types it was asked for.
use Rattle.std.specs.Prelude.{ℕ, List, Option}
use Rattle.flame_tool.specs.TypeRuns.{HasTableFault, ShowsTypesFront}
use Rattle.source_views.specs.declared.failures.Failure.{Failure}
use Rattle.source_views.specs.declared.failures.Failure.TheVariants.{TooManyFiles, Unreadable, TooLarge, OutOfMemory, NoThread, Unfinished, Faults, Output}

abbrev pub FailsTypes : Option (List ℕ) → Option (List ℕ) → Failure → List ℕ → Type 0
FailsTypes old new TooManyFiles profile = Unit {0}
FailsTypes old new (Unreadable source) profile = Unit {0}
FailsTypes old new (TooLarge source) profile = Unit {0}
FailsTypes old new OutOfMemory profile = Unit {0}
FailsTypes old new NoThread profile = Unit {0}
FailsTypes old new (Unfinished source) profile = Unit {0}
FailsTypes old new Faults profile = HasTableFault profile
FailsTypes old new (Output fault) profile = ShowsTypesFront old new profile
