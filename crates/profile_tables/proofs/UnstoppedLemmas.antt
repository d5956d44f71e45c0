-- No profile ends in Stopped.
use Rattle.std.proofs.Common.{◌≢◌, ℕ, ◌+◌, List, [], ◌∷◌, Option, Some, None, subst}
use Rattle.sample_tables.specs.declared.samples.Sample.{Sample}
use Rattle.stack_core.specs.declared.endings.ReadKind.{ReadKind}
use Rattle.stack_core.specs.declared.endings.ReadFault.{ReadFault}
use Rattle.stack_core.specs.declared.endings.SourceEnd.{SourceEnd}
use Rattle.stack_core.specs.declared.endings.SourceEnd.TheVariants.{Clean, Fault, Stopped}
use Rattle.stack_core.specs.Reading.{Rest}
use Rattle.run_options.specs.declared.choices.Pick.{Pick}
use Rattle.run_options.specs.declared.choices.Naming.{Naming}
use Rattle.profile_messages.specs.Message.{first, Content}
use Rattle.profile_messages.specs.Tables.{samples_of}
use Rattle.profile_tables.specs.Samples.{SampleTables, tables_of, weight_of, sample_faults, sample_of, sample_then, read_samples, rest_of, read_pprof}
use Rattle.profile_messages.specs.FileFaults.{file_faults}

abbrev IsUnstopped : SourceEnd → Type 0
IsUnstopped (Clean ignored) = Unit {0}
IsUnstopped (Fault fault) = Unit {0}
IsUnstopped (Stopped after) = ⊥

by_fault : (fault : Option ReadKind) (at : ℕ) (sample : Sample) (rest : Rest) → IsUnstopped rest.ending → IsUnstopped (sample_then fault at sample rest).ending
by_fault None at sample rest is = is
by_fault (Some kind) at sample rest is = tt

unstopped_samples : (tables : SampleTables) (total : ℕ) (samples : List Content) → IsUnstopped (read_samples tables total samples).ending
unstopped_samples tables total [] = tt
unstopped_samples tables total (sample ∷ samples) =
    by_fault (first (sample_faults tables total sample.bytes)) sample.at (sample_of tables sample.bytes) _
    (unstopped_samples tables (total + weight_of tables.chosen sample.bytes) samples)

by_file_fault : (fault : Option ReadFault) (rest : Rest) → IsUnstopped rest.ending → IsUnstopped (rest_of fault rest).ending
by_file_fault None rest is = is
by_file_fault (Some fault) rest is = tt

pub unstopped-read_pprof : (file : List ℕ) (pick : Pick) (naming : Naming) (after : ℕ) → (read_pprof file pick naming).ending ≢ Stopped after
unstopped-read_pprof file pick naming after stopped =
    subst IsUnstopped stopped
    (by_file_fault (first (file_faults file pick)) _ (unstopped_samples (tables_of file pick naming) 0 (samples_of file)))

pub unstopped-read_samples : (tables : SampleTables) (total : ℕ) (samples : List Content) (after : ℕ) → (read_samples tables total samples).ending ≢ Stopped after
unstopped-read_samples tables total samples after stopped = subst IsUnstopped stopped (unstopped_samples tables total samples)
