-- What the bytes of sources stand for.
use Rattle.std.specs.Prelude.{ℕ, List, [], ◌∷◌, Option, Some, map, option_and_then, option_map}
use Rattle.stack_core.specs.Reading.{Rest}
use Rattle.folded_lines.specs.Reading.{read_folded}
use Rattle.run_options.specs.declared.choices.Pick.{Pick}
use Rattle.run_options.specs.declared.choices.Naming.{Naming}
use Rattle.profile_tables.specs.Samples.{read_pprof}
use Rattle.run_options.specs.Filters.{kept_rest}
use Rattle.run_options.specs.declared.formats.Format.{Format}
use Rattle.run_options.specs.declared.formats.Format.TheVariants.{Folded, Pprof}
use Rattle.source_lists.specs.declared.sources.Source.{Source}
use Rattle.run_options.specs.declared.options.Options.{Options}
use Rattle.sample_tables.specs.Samples.{total_weight}
use Rattle.merged_stacks.specs.Merged.{all_samples}

-- a source, by its format and its bytes
abbrev pub format_and_bytes : Source → Format × List ℕ
format_and_bytes source = (source.format, source.bytes.items)

-- what is known of it: the format and the bytes
abbrev pub known_source : Source → Format × Option (List ℕ)
known_source source = (source.format, Some source.bytes.items)

-- what is found for each of a list, in order, if something is found for all
abbrev pub all_found : {A B : Type 0} → (A → Option B) → List A → Option (List B)
all_found find [] = Some []
all_found find (x ∷ xs) =
    option_and_then (λ found. option_map (λ more. found ∷ more) (all_found find xs)) (find x)

-- the format and the bytes of an input, where the bytes are known
abbrev pub known_input : Format × Option (List ℕ) → Option (Format × List ℕ)
known_input input = option_map (λ bytes. (input.0, bytes)) input.1

-- the same of all inputs, where the bytes of all are known
abbrev pub known_inputs : List (Format × Option (List ℕ)) → Option (List (Format × List ℕ))
known_inputs inputs = all_found known_input inputs

-- the samples and the ending for which bytes of a format stand
abbrev pub read_bytes : Format → List ℕ → Pick → Naming → Rest
read_bytes Folded bytes pick naming = read_folded bytes
read_bytes Pprof bytes pick naming = read_pprof bytes pick naming

-- what the options of a run ask for of them: the samples that the filter keeps, and the ending
abbrev pub asked_rest : Options → Format → List ℕ → Rest
asked_rest options format bytes =
    kept_rest options.filter (read_bytes format bytes options.pick options.naming)

abbrev pub source_rest : Options → Source → Rest
source_rest options source = asked_rest options source.format source.bytes.items

-- the same of all sources
abbrev pub rests_of : Options → List Source → List Rest
rests_of options sources = map (source_rest options) sources

-- the same of sources by their formats and bytes
abbrev pub asked_rests : Options → List (Format × List ℕ) → List Rest
asked_rests options inputs = map (λ input. asked_rest options input.0 input.1) inputs

-- all samples of such a source and its ending, whatever the filter
abbrev pub whole_rest : Options → Format × List ℕ → Rest
whole_rest options input = read_bytes input.0 input.1 options.pick options.naming

abbrev pub whole_rests : Options → List (Format × List ℕ) → List Rest
whole_rests options inputs = map (whole_rest options) inputs

-- what the samples of all sources weigh together, whatever the filter
abbrev pub whole_weight : Options → List (Format × List ℕ) → ℕ
whole_weight options inputs =
    total_weight (all_samples (map (λ input. (whole_rest options input).samples) inputs))
