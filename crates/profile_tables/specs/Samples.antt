-- The samples of a profile, and reading a whole file.
use Rattle.std.specs.Prelude.{ℕ, ◌+◌, ◌^◌, List, [], ◌∷◌, ◌++◌, length, reverse, flat_map, Option, Some, None, is_none, unwrap_or, slice_index, nat_lt, ◌==◌, if◌then◌else◌}
use Rattle.std.specs.List.{list_any}
use Rattle.stack_core.specs.declared.endings.ReadKind.{ReadKind}
use Rattle.stack_core.specs.declared.endings.ReadKind.TheVariants.{ValueCount, UnknownLocation, NegativeWeight, TooDeep, TotalTooLarge}
use Rattle.stack_core.specs.declared.endings.ReadFault.{ReadFault}
use Rattle.stack_core.specs.declared.endings.SourceEnd.TheVariants.{Clean, Fault}
use Rattle.sample_tables.specs.declared.samples.Sample.{Sample}
use Rattle.sample_tables.specs.declared.samples.TheConstants.{FRAME_LIMIT, WEIGHT_LIMIT}
use Rattle.stack_core.specs.Reading.{Rest}
use Rattle.run_options.specs.declared.choices.Pick.{Pick}
use Rattle.run_options.specs.declared.choices.Naming.{Naming}
use Rattle.profile_messages.specs.Message.{first, Content, repeated_numbers}
use Rattle.profile_messages.specs.Shapes.{faults_in, sample_shape, fault_at}
use Rattle.profile_messages.specs.Tables.{sample_types_of, samples_of}
use Rattle.profile_messages.specs.Choosing.{chosen_value}
use Rattle.profile_messages.specs.FileFaults.{file_faults}
use Rattle.profile_tables.specs.Naming.{frames_of}

-- what the samples of a file are read with: how many sample types there are, the place of the chosen value, and the frames of each
-- location id, root first
pub record SampleTables : Type 0 where
  pub sample_types : ℕ
  pub chosen : Option ℕ
  pub frames : ℕ → Option (List (List ℕ))

abbrev pub tables_of : List ℕ → Pick → Naming → SampleTables
tables_of file pick naming =
    record { sample_types = length (sample_types_of file); chosen = chosen_value file pick; frames = frames_of file naming }

-- ---- one sample

abbrev pub location_ids : List ℕ → List ℕ
location_ids sample = repeated_numbers 1 sample

abbrev pub values_of : List ℕ → List ℕ
values_of sample = repeated_numbers 2 sample

-- the chosen value, of which a negative one is seen as its 64 bits
abbrev pub weight_of : Option ℕ → List ℕ → ℕ
weight_of chosen sample = slice_index (values_of sample) (unwrap_or chosen 0)

-- each id stands for its frames
abbrev pub frames_of_ids : (ℕ → Option (List (List ℕ))) → List ℕ → List (List ℕ)
frames_of_ids frames ids = flat_map (λ id. unwrap_or (frames id) []) ids

-- the location ids are leaf first
abbrev pub stack_of_ids : (ℕ → Option (List (List ℕ))) → List ℕ → List (List ℕ)
stack_of_ids frames ids = frames_of_ids frames (reverse ids)

abbrev pub stack_of : (ℕ → Option (List (List ℕ))) → List ℕ → List (List ℕ)
stack_of frames sample = stack_of_ids frames (location_ids sample)

-- as many values as there are sample types
abbrev pub value_faults : SampleTables → List ℕ → List ReadKind
value_faults tables sample = if length (values_of sample) == tables.sample_types then [] else ValueCount ∷ []

-- an id that no location has
abbrev pub id_faults_of : SampleTables → List ℕ → List ReadKind
id_faults_of tables sample = if list_any (λ id. is_none (tables.frames id)) (location_ids sample) then UnknownLocation ∷ [] else []

abbrev pub weight_faults : SampleTables → List ℕ → List ReadKind
weight_faults tables sample = if nat_lt (weight_of tables.chosen sample) (2 ^ 63) then [] else NegativeWeight ∷ []

abbrev pub depth_faults : SampleTables → List ℕ → List ReadKind
depth_faults tables sample = if nat_lt FRAME_LIMIT (length (stack_of tables.frames sample)) then TooDeep ∷ [] else []

-- the sample's weight on top of this total
abbrev pub total_faults : SampleTables → ℕ → List ℕ → List ReadKind
total_faults tables total sample = if nat_lt WEIGHT_LIMIT (total + weight_of tables.chosen sample) then TotalTooLarge ∷ [] else []

-- the faults of a sample behind samples of this total weight, in the order in which they are looked for
abbrev pub sample_faults : SampleTables → ℕ → List ℕ → List ReadKind
sample_faults tables total sample =
    faults_in sample_shape sample
    ++ value_faults tables sample
    ++ id_faults_of tables sample
    ++ weight_faults tables sample
    ++ depth_faults tables sample
    ++ total_faults tables total sample

abbrev pub sample_of : SampleTables → List ℕ → Sample
sample_of tables sample = record { stack = stack_of tables.frames sample; weight = weight_of tables.chosen sample }

-- ---- all samples

-- the rest behind a sample
abbrev pub with_sample : Sample → Rest → Rest
with_sample sample rest = record { samples = sample ∷ rest.samples; ending = rest.ending }

abbrev pub no_samples : ReadFault → Rest
no_samples fault = record { samples = []; ending = Fault fault }

-- no fault: the sample, and the rest; a fault: it is the ending
abbrev pub sample_then : Option ReadKind → ℕ → Sample → Rest → Rest
sample_then None at sample rest = with_sample sample rest
sample_then (Some kind) at sample rest = no_samples (fault_at at kind)

-- the samples before the first fault, and the ending, behind samples of this total weight
abbrev pub read_samples : SampleTables → ℕ → List Content → Rest
read_samples tables total [] = record { samples = []; ending = Clean 0 }
read_samples tables total (sample ∷ samples) =
    sample_then (first (sample_faults tables total sample.bytes)) sample.at (sample_of tables sample.bytes)
    (read_samples tables (total + weight_of tables.chosen sample.bytes) samples)

-- ---- a file

abbrev pub rest_of : Option ReadFault → Rest → Rest
rest_of None rest = rest
rest_of (Some fault) rest = no_samples fault

-- what a pprof file stands for
abbrev pub read_pprof : List ℕ → Pick → Naming → Rest
read_pprof file pick naming =
    rest_of (first (file_faults file pick)) (read_samples (tables_of file pick naming) 0 (samples_of file))
