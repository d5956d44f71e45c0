-- What is known of the sources of a run: their bytes, and what these stand for.
use Rattle.std.specs.Prelude.{ℕ, List, [], ◌∷◌, Option, option_map, unwrap_or}
use Rattle.stack_core.specs.Reading.{Rest}
use Rattle.run_options.specs.Formats.{format_at}
use Rattle.run_options.specs.declared.formats.Format.{Format}
use Rattle.run_options.specs.declared.formats.Format.TheVariants.{Folded}
use Rattle.run_options.specs.declared.options.Options.{Options}
use Rattle.source_lists.specs.OmittedNames.{shown_rests}
use Rattle.source_lists.specs.Sources.{all_found, asked_rests, whole_weight}
use Rattle.source_lists.specs.Types.{types_of}
use Rattle.command_line.specs.declared.plans.Plan.{Plan}
use Rattle.flame_tool.specs.declared.run_facts.RunFacts.{RunFacts}

-- the format and the bytes of a file, whose name says its format unless one was asked for
abbrev pub bytes_at : Option Format → (List ℕ → Option (List ℕ)) → List ℕ → Option (Format × List ℕ)
bytes_at asked files path = option_map (λ bytes. (unwrap_or asked (format_at path), bytes)) (files path)

-- the same of the input, which is folded unless another format was asked for
abbrev pub bytes_in : Option Format → Option (List ℕ) → Option (Format × List ℕ)
bytes_in asked input = option_map (λ bytes. (unwrap_or asked Folded, bytes)) input

-- those of the files of paths, in order, or of the input where there is no path
abbrev pub bytes_of : Option Format → List (List ℕ) → Option (List ℕ) → (List ℕ → Option (List ℕ)) → Option (List (Format × List ℕ))
bytes_of asked [] input files = option_map (λ source. source ∷ []) (bytes_in asked input)
bytes_of asked (path ∷ paths) input files = all_found (bytes_at asked files) (path ∷ paths)

-- what all samples of sources weigh, whatever the filter, and the sample type of the weights of each
abbrev pub facts_of : Options → List (Format × List ℕ) → RunFacts
facts_of options sources = record { whole = whole_weight options sources; types = types_of options sources }

-- the sources of a plan, where their bytes are known
abbrev pub known_sources : Plan → Option (List ℕ) → (List ℕ → Option (List ℕ)) → Option (List (Format × List ℕ))
known_sources plan input files = bytes_of plan.format plan.files input files

-- the samples of sources that a plan asks for, and the endings. It may say at which frame each stack begins, and which frames are left out
abbrev pub wanted_rests : Plan → List (Format × List ℕ) → List Rest
wanted_rests plan sources = shown_rests plan.from plan.omit (asked_rests plan.options sources)
