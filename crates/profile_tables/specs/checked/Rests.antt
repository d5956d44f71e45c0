-- The rest of a reader, in terms of what it goes by.
use Rattle.std.specs.Prelude.{◌≡◌, ℕ, List, [], map, drop, take}
use Rattle.stack_core.specs.declared.endings.SourceEnd.{SourceEnd}
use Rattle.stack_core.specs.Reading.{Rest}
use Rattle.run_options.specs.declared.choices.Pick.{Pick}
use Rattle.run_options.specs.declared.choices.Naming.{Naming}
use Rattle.profile_messages.specs.SampleTypes.{chosen_type}
use Rattle.std.specs.Arc.{arc_value}
use Rattle.profile_tables.specs.declared.outline.Outline.{Outline}
use Rattle.profile_tables.specs.declared.steps.Start.{Start}
use Rattle.profile_tables.specs.declared.steps.Start.TheVariants as start
use Rattle.profile_messages.specs.Offsets.{found_at}
use Rattle.profile_tables.specs.Samples.{read_samples, read_pprof, no_samples}
use Rattle.profile_tables.specs.checked.SeenOutline.{seen_outline}

-- the rest of the samples before the one that is `past`, behind those before `next`. Those of them that were given have this total weight
abbrev pub rest_from : List ℕ → Outline → ℕ → ℕ → ℕ → Rest
rest_from file outline past next total = read_samples (seen_outline outline) total (map (found_at file) (drop next (take past outline.samples.items)))

-- the rest of a reader that has given its last sample
abbrev pub ended : SourceEnd → Rest
ended ending = record { samples = []; ending = ending }

abbrev pub IsStart : List ℕ → Pick → Naming → Start → Type 0
IsStart file pick naming (start.Part part) =
    (rest_from file (arc_value part.outline) part.past 0 0 ≡ read_pprof file pick naming)
    × ((arc_value part.outline).chosen_type ≡ chosen_type file pick)
IsStart file pick naming (start.Fault fault) = no_samples fault ≡ read_pprof file pick naming
