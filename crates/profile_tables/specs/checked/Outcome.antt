-- What reading one sample gives.
use Rattle.std.specs.Prelude.{◌≡◌, ℕ, List, Some, None, Result, Ok, Err}
use Rattle.stack_core.specs.declared.endings.ReadKind.{ReadKind}
use Rattle.profile_messages.specs.Message.{first}
use Rattle.profile_tables.specs.Samples.{SampleTables, location_ids, weight_of, sample_faults}
use Rattle.profile_tables.specs.declared.samples.CheckedSample.{CheckedSample}

-- the sample, where it has no fault behind samples of this total weight, and else its first fault
-- what is checked of a sample without a fault, and else its first fault
abbrev pub IsChecked : SampleTables → ℕ → List ℕ → Result CheckedSample ReadKind → Type 0
IsChecked tables total sample (Ok checked) =
    (first (sample_faults tables total sample) ≡ None)
    × (checked.ids.items ≡ location_ids sample)
    × (checked.weight ≡ weight_of tables.chosen sample)
IsChecked tables total sample (Err kind) = first (sample_faults tables total sample) ≡ Some kind
