-- What is wrong with sources, by the lists that were read of them.
use Rattle.std.proofs.Common.{◌≡◌, ◌∙◌, ◌<◌, ◌≤◌, ℕ, suc, Bool, List, [], ◌∷◌, ◌++◌, Option, Some, None, IfSome, length, map, ap, arith, refl, subst, sym}
use Rattle.std.specs.List.{filter}
use Rattle.std.specs.Prelude.{option_and_then, option_map, slice_get}
use Rattle.sample_tables.specs.declared.samples.Sample.{Sample}
use Rattle.stack_core.specs.Ledgers.{ListState}
use Rattle.stack_core.specs.Reading.{Rest}
use Rattle.stack_core.specs.declared.endings.SourceEnd.{SourceEnd}
use Rattle.stack_core.specs.declared.endings.SourceEnd.TheVariants as ends
use Rattle.folded_lines.specs.Lines.{read_line, text_lines}
use Rattle.folded_lines.specs.Reading.{read_after, read_folded}
use Rattle.folded_lines.specs.checked.Strictness.{fault_of_counted}
use Rattle.folded_lines.specs.declared.strictness.StrictFault.{StrictFault}
use Rattle.folded_lines.proofs.StreamTexts.{few_lines}
use Rattle.folded_lines.proofs.StrictLemmas.{strict_counted}
use Rattle.ring_collect.specs.Collection.{seen_as_rest}
use Rattle.run_options.specs.Filters.{keeps}
use Rattle.run_options.specs.declared.choices.Naming.{Naming}
use Rattle.run_options.specs.declared.choices.Pick.{Pick}
use Rattle.run_options.specs.declared.formats.Format.{Format}
use Rattle.run_options.specs.declared.formats.Format.TheVariants.{Folded, Pprof}
use Rattle.run_options.specs.declared.options.Options.{Options}
use Rattle.profile_tables.specs.Samples.{read_pprof}
use Rattle.source_lists.specs.Sources.{asked_rest, asked_rests, known_input, known_inputs, read_bytes, whole_rest}
use Rattle.source_lists.specs.Strictness.{fault_of_rest, source_fault, strict_fault_in}
use Rattle.source_lists.specs.checked.StrictEndings.{HasFault, HaveFaults, IsReadAs, IsSound}

-- ---- a sound source

none_left : (lines : List (List ℕ)) → length lines ≤ 0 → lines ≡ []
none_left [] few = refl
none_left (line ∷ lines) few = absurd (omega (arith, few))

nothing_read : length (read_folded []).samples ≡ 0
nothing_read = ap (λ (lines : List (List ℕ)). length (read_after [] (map read_line lines)).samples) (none_left (text_lines []) (few_lines []))

sound_text : (bytes : List ℕ) → 0 < length (read_folded bytes).samples → None ≡ fault_of_counted bytes
sound_text [] some = absurd (omega (arith, some, nothing_read))
sound_text (byte ∷ bytes) some = refl

sound_by : (at : ℕ) (samples : List Sample) (ending : SourceEnd) → ending ≡ ends.Clean 0 → 0 < length samples → None ≡ fault_of_rest at (record { samples = samples; ending = ending })
sound_by at [] ending clean some = absurd (omega (arith, some))
sound_by at (sample ∷ samples) (ends.Clean ignored) clean some = refl
sound_by at (sample ∷ samples) (ends.Fault fault) clean some = cc
sound_by at (sample ∷ samples) (ends.Stopped after) clean some = cc

sound_in : (format : Format) (bytes : List ℕ) (pick : Pick) (naming : Naming) → (read_bytes format bytes pick naming).ending ≡ ends.Clean 0 → 0 < length (read_bytes format bytes pick naming).samples
    → None ≡ strict_fault_in format bytes pick naming
sound_in Folded bytes pick naming clean some = sound_text bytes some ∙ sym (strict_counted bytes clean)
sound_in Pprof bytes pick naming clean some = sound_by (length bytes) (read_pprof bytes pick naming).samples (read_pprof bytes pick naming).ending clean some

ends_as : (options : Options) (source : Format × List ℕ) (list : ListState) → seen_as_rest list ≡ asked_rest options source.0 source.1 → list.ending ≡ (read_bytes source.0 source.1 options.pick options.naming).ending
ends_as options source list same = ap (λ (rest : Rest). rest.ending) same

some_before : (passes : Sample → Bool) (samples : List Sample) → 0 < length (filter passes samples) → 0 < length samples
some_before passes [] some = absurd (omega (arith, some))
some_before passes (sample ∷ samples) some = omega arith

-- where a filter keeps a sample there is one
sound : (options : Options) (source : Format × List ℕ) (list : ListState) → IsSound list → seen_as_rest list ≡ asked_rest options source.0 source.1 → None ≡ source_fault options source
sound options source list is same =
    let rest = read_bytes source.0 source.1 options.pick options.naming in
    sound_in source.0 source.1 options.pick options.naming (sym (ends_as options source list same) ∙ is.clean)
    (some_before (λ sample. keeps options.filter sample.stack) rest.samples (subst (λ (samples : List Sample). 0 < length samples) (ap (λ (rest : Rest). rest.samples) same) is.some))

pub sound_fault : (input : Format × Option (List ℕ)) (list : ListState) → IsSound list → HasFault input (Some list) None
sound_fault (format, None) list is = tt
sound_fault (format, Some bytes) list is = λ options same. sound options (format, bytes) list is same

-- ---- a source whose bytes are looked at

pub loaded_fault : (input : Format × Option (List ℕ)) (list : ListState) (source : Format × List ℕ) (fault : Option StrictFault) → IfSome (known_input input) (λ known. source ≡ known)
    → ((options : Options) → list.ending ≡ (whole_rest options source).ending → fault ≡ source_fault options source) → HasFault input (Some list) fault
loaded_fault (format, None) list source fault is tells = tt
loaded_fault (format, Some bytes) list source fault is tells = λ options same.
    tells options (ends_as options (format, bytes) list same ∙ sym (ap (λ (source : Format × List ℕ). (whole_rest options source).ending) is)) ∙ ap (source_fault options) is

-- a source without a list
pub no_fault : (input : Format × Option (List ℕ)) (fault : Option StrictFault) → HasFault input None fault
no_fault (format, None) fault = tt
no_fault (format, Some bytes) fault = λ options read. absurd read

-- ---- several sources

pub have_count : (inputs : List (Format × Option (List ℕ))) (lists : List ListState) (faults : List (Option StrictFault)) → HaveFaults inputs lists faults → length faults ≡ length inputs
have_count [] lists [] have = refl
have_count [] lists (fault ∷ faults) have = absurd have
have_count (input ∷ inputs) lists [] have = absurd have
have_count (input ∷ inputs) [] (fault ∷ faults) have = ap suc (have_count inputs [] faults have)
have_count (input ∷ inputs) (list ∷ lists) (fault ∷ faults) have = ap suc (have_count inputs lists faults have.1)

pub fault_push : (inputs : List (Format × Option (List ℕ))) (lists : List ListState) (faults : List (Option StrictFault)) (input : Format × Option (List ℕ)) (fault : Option StrictFault) → HaveFaults inputs lists faults
    → HasFault input (slice_get lists (length inputs)) fault → HaveFaults (inputs ++ input ∷ []) lists (faults ++ fault ∷ [])
fault_push [] [] [] input fault before last = tt
fault_push [] (list ∷ lists) [] input fault before last = (last, tt)
fault_push [] lists (other ∷ faults) input fault before last = absurd before
fault_push (one ∷ inputs) lists [] input fault before last = absurd before
fault_push (one ∷ inputs) [] (other ∷ faults) input fault before last = fault_push inputs [] faults input fault before last
fault_push (one ∷ inputs) (list ∷ lists) (other ∷ faults) input fault before last = (before.0, fault_push inputs lists faults input fault before.1 last)

abbrev pub first_rest : List Rest → Rest
first_rest [] = record { samples = []; ending = ends.Clean 0 }
first_rest (rest ∷ rests) = rest

abbrev pub behind_first : List Rest → List Rest
behind_first [] = []
behind_first (rest ∷ rests) = rests

-- they are those of the sources, where each list is what its source stands for
abbrev pub AreFaults : Options → List ListState → List (Option StrictFault) → List (Format × List ℕ) → Type 0
AreFaults options lists faults sources = map seen_as_rest lists ≡ asked_rests options sources → faults ≡ map (source_fault options) sources

first_fault : (options : Options) (found : Option (Format × List ℕ)) (more : Option (List (Format × List ℕ))) (list : ListState) (lists : List ListState) (fault : Option StrictFault) (faults : List (Option StrictFault))
    → IfSome found (λ source. (options : Options) → IsReadAs options source (Some list) → fault ≡ source_fault options source) → IfSome more (AreFaults options lists faults)
    → IfSome (option_and_then (λ source. option_map (λ sources. source ∷ sources) more) found) (AreFaults options (list ∷ lists) (fault ∷ faults))
first_fault options None more list lists fault faults first later = tt
first_fault options (Some source) None list lists fault faults first later = tt
first_fault options (Some source) (Some sources) list lists fault faults first later = λ same i. first options (ap first_rest same) i ∷ later (ap behind_first same) i

no_list : (options : Options) (found : Option (Format × List ℕ)) (more : Option (List (Format × List ℕ))) (faults : List (Option StrictFault))
    → IfSome (option_and_then (λ source. option_map (λ sources. source ∷ sources) more) found) (AreFaults options [] faults)
no_list options None more faults = tt
no_list options (Some source) None faults = tt
no_list options (Some source) (Some sources) faults = λ same. absurd (omega (arith, ap length same))

pub all_faults : (options : Options) (inputs : List (Format × Option (List ℕ))) (lists : List ListState) (faults : List (Option StrictFault)) → HaveFaults inputs lists faults → IfSome (known_inputs inputs) (AreFaults options lists faults)
all_faults options [] lists [] have = λ same. refl
all_faults options [] lists (fault ∷ faults) have = absurd have
all_faults options (input ∷ inputs) lists [] have = absurd have
all_faults options (input ∷ inputs) [] (fault ∷ faults) have = no_list options (known_input input) (known_inputs inputs) (fault ∷ faults)
all_faults options (input ∷ inputs) (list ∷ lists) (fault ∷ faults) have = first_fault options (known_input input) (known_inputs inputs) list lists fault faults have.0 (all_faults options inputs lists faults have.1)

-- what holds for all options
pub under_all : {A B : Type 0} (known : Option A) (P : B → A → Type 0) → ((b : B) → IfSome known (P b)) → IfSome known (λ a. (b : B) → P b a)
under_all None P each = tt
under_all (Some a) P each = each
