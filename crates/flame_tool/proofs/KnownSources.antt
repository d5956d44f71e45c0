-- What is collected of sources whose bytes are known, where no gate stops them, is what their bytes stand for.
use Rattle.std.proofs.Common.{◌≡◌, ◌≢◌, ℕ, List, [], ◌∷◌, map, Option, Some, None, Result, Ok, Err, IfSome, IfErr, IfOk, OnOk, ap, sym, ◌∙◌, subst, refl, true, false, ◌||◌, All}
use Rattle.std.proofs.lemmas.Bool.{false≢true, or_parts, true≢false}
use Rattle.std.proofs.lemmas.List.Elements.{All-nil, All-cons, All-map}
use Rattle.std.proofs.lemmas.List.Folds.{Any-from_list_any}
use Rattle.std.specs.Prelude.{Bool, option_and_then, option_map, unwrap_or}
use Rattle.std.specs.List.{list_any, AllZip}
use Rattle.std.specs.Io.KnownBytes.{Appends}
use Rattle.stack_core.specs.Interleaving.{IsInterleaving}
use Rattle.stack_core.specs.Ledgers.{ListState}
use Rattle.stack_core.specs.Reading.{Rest}
use Rattle.sample_tables.specs.declared.samples.Sample.{Sample}
use Rattle.stack_core.specs.declared.endings.SourceEnd.{SourceEnd}
use Rattle.stack_core.specs.declared.endings.SourceEnd.TheVariants as ends
use Rattle.folded_lines.proofs.UnstoppedLemmas.{unstopped-read_folded}
use Rattle.profile_tables.proofs.UnstoppedLemmas.{unstopped-read_pprof}
use Rattle.run_options.specs.Formats.{format_at}
use Rattle.run_options.specs.declared.choices.Pick.{Pick}
use Rattle.run_options.specs.declared.choices.Naming.{Naming}
use Rattle.run_options.specs.declared.formats.Format.{Format}
use Rattle.run_options.specs.declared.formats.Format.TheVariants.{Folded, Pprof}
use Rattle.run_options.specs.declared.options.Options.{Options}
use Rattle.ring_collect.specs.Collection.{seen_as_rest}
use Rattle.merged_stacks.specs.Timeline.{samples_of}
use Rattle.command_line.specs.declared.plans.Plan.{Plan}
use Rattle.source_lists.specs.FromNames.{rest_from}
use Rattle.source_lists.specs.OmittedNames.{rest_without, shown_rests}
use Rattle.source_lists.specs.Sources.{all_found, asked_rest, asked_rests, known_inputs, read_bytes}
use Rattle.source_views.specs.Opening.{AreLoaded, IsLoaded, IsLoadedInput}
use Rattle.flame_tool.specs.KnownFacts.{bytes_at, bytes_in, bytes_of, facts_of, known_sources, wanted_rests}
use Rattle.flame_tool.specs.Pages.{shown_text}
use Rattle.flame_tool.specs.Runs.{IsClean, IsFault, lists_of, wanted_lists, IsTextOf, Shows, HasFault}
use Rattle.flame_tool.specs.StrictRuns.{has_strict_fault}
use Rattle.flame_tool.specs.checked.Failures.{Fails, FailsToShow, TellsGrowth}
use Rattle.flame_tool.specs.checked.SummedPlans.{is_summed}
use Rattle.source_lists.specs.Summing.{IsFound, WeighAlike}
use Rattle.flame_tool.proofs.FoundSources.{alike_found, faults_found}
use Rattle.flame_tool.proofs.SomeOrder.{in_turn, turned}
use Rattle.flame_tool.proofs.StrictSources.{clean_sources}
use Rattle.flame_tool.proofs.SummedTexts.{alike_growth, alike_text}
use Rattle.source_lists.proofs.FoundRests.{found_same}
use Rattle.flame_tool.proofs.GrownFunctions.{is_said, tells_growth}
use Rattle.source_views.specs.Texts.{growth_line}
use Rattle.source_views.specs.Failures.{has_fault, ends_in_fault}
use Rattle.source_views.specs.declared.failures.Failure.{Failure}
use Rattle.source_views.specs.declared.failures.Failure.TheVariants.{TooManyFiles, Unreadable, TooLarge, OutOfMemory, NoThread, Unfinished, Faults, Output}

-- ---- what is known of loaded sources

known_first : (format : Format) (known : Option (List ℕ)) (found : Option (List (Format × List ℕ))) (source : Format × Option (List ℕ)) (sources : List (Format × Option (List ℕ)))
    → source.0 ≡ format → IfSome known (λ bytes. source.1 ≡ Some bytes) → IfSome found (λ all. known_inputs sources ≡ Some all)
    → IfSome (option_and_then (λ one. option_map (λ more. one ∷ more) found) (option_map (λ bytes. (format, bytes)) known)) (λ all. known_inputs (source ∷ sources) ≡ Some all)
known_first format None found source sources formed same more = tt
known_first format (Some bytes) None source sources formed same more = tt
known_first format (Some bytes) (Some all) source sources formed same more =
    λ i. option_and_then (λ one. option_map (λ more. one ∷ more) (more i)) (option_map (λ bytes. (formed i, bytes)) (same i))

known_files : (asked : Option Format) (files : List ℕ → Option (List ℕ)) (paths : List (List ℕ)) (sources : List (Format × Option (List ℕ))) → AllZip (IsLoaded asked files) paths sources
    → IfSome (all_found (bytes_at asked files) paths) (λ all. known_inputs sources ≡ Some all)
known_files asked files [] [] loaded = refl
known_files asked files [] (source ∷ sources) loaded = absurd loaded
known_files asked files (path ∷ paths) [] loaded = absurd loaded
known_files asked files (path ∷ paths) (source ∷ sources) ((formed, same), more) =
    known_first (unwrap_or asked (format_at path)) (files path) (all_found (bytes_at asked files) paths) source sources formed same (known_files asked files paths sources more)

known_input : (asked : Option Format) (input : Option (List ℕ)) (sources : List (Format × Option (List ℕ))) → IfSome input (IsLoadedInput asked sources)
    → IfSome (option_map (λ source. source ∷ []) (bytes_in asked input)) (λ all. known_inputs sources ≡ Some all)
known_input asked None sources loaded = tt
known_input asked (Some bytes) [] loaded = absurd loaded
known_input asked (Some bytes) (source ∷ []) (folded, same) = λ i. option_and_then (λ one. Some (one ∷ [])) (option_map (λ bytes. (folded i, bytes)) (same i))
known_input asked (Some bytes) (source ∷ other ∷ more) loaded = absurd loaded

-- where the bytes of all are known, they are those that were loaded
loaded_known : (asked : Option Format) (input : Option (List ℕ)) (files : List ℕ → Option (List ℕ)) (paths : List (List ℕ)) (sources : List (Format × Option (List ℕ))) → AreLoaded asked input files paths sources
    → IfSome (bytes_of asked paths input files) (λ all. known_inputs sources ≡ Some all)
loaded_known asked input files [] sources loaded = known_input asked input sources loaded
loaded_known asked input files (path ∷ paths) sources loaded = known_files asked files (path ∷ paths) sources loaded

-- what holds of the sources that were loaded holds of those that are known
module _ (plan : Plan) (input : Option (List ℕ)) (files : List ℕ → Option (List ℕ)) (sources : List (Format × Option (List ℕ))) (loaded : AreLoaded plan.format input files plan.files sources) where
  pub bytes_known : (P : List (Format × List ℕ) → Type 0) → IfSome (known_inputs sources) P → IfSome (known_sources plan input files) P
  bytes_known P holds =
      elim (bytes_of plan.format plan.files input files) as (λ known. IfSome known (λ all. known_inputs sources ≡ Some all) → IfSome known P) [
        | None ↦ λ _. tt
        | Some all ↦ λ same. subst (λ known. IfSome known P) same holds
      ] (loaded_known plan.format input files plan.files sources loaded)

-- what a clause says of what is known
pub at_known : {A : Type 0} {known : Option A} (P : A → Type 0) (x : A) → known ≡ Some x → IfSome known P → P x
at_known P x is holds = subst (λ known. IfSome known P) is holds

pub if_known : {A : Type 0} (known : Option A) (P : A → Type 0) → ((x : A) → known ≡ Some x → P x) → IfSome known P
if_known None P says = tt
if_known (Some x) P says = says x refl

-- what a result says of all that may be known
pub ok_if_known : {T E A : Type 0} (result : Result T E) (known : Option A) (P : T → A → Type 0) → ((x : A) → known ≡ Some x → IfOk result (λ done. P done x)) → IfOk result (λ done. IfSome known (P done))
ok_if_known (Ok done) None P says = tt
ok_if_known (Ok done) (Some x) P says = says x refl
ok_if_known (Err error) known P says = tt

pub err_if_known : {T E A : Type 0} (result : Result T E) (known : Option A) (P : E → A → Type 0) → ((x : A) → known ≡ Some x → IfErr result (λ error. P error x)) → IfErr result (λ error. IfSome known (P error))
err_if_known (Ok done) known P says = tt
err_if_known (Err error) None P says = tt
err_if_known (Err error) (Some x) P says = says x refl

-- ---- what no gate stopped is clean or has a fault

unstopped : (format : Format) (bytes : List ℕ) (pick : Pick) (naming : Naming) (after : ℕ) → (read_bytes format bytes pick naming).ending ≢ ends.Stopped after
unstopped Folded bytes pick naming after = unstopped-read_folded bytes after
unstopped Pprof bytes pick naming after = unstopped-read_pprof bytes pick naming after

pub clean_ending : (ending : SourceEnd) → ((after : ℕ) → ending ≢ ends.Stopped after) → ends_in_fault ending ≡ false → IsClean ending
clean_ending (ends.Clean ignored) goes_on faultless = tt
clean_ending (ends.Fault fault) goes_on faultless = absurd (true≢false faultless)
clean_ending (ends.Stopped after) goes_on faultless = absurd (goes_on after refl)

fault_ending : (ending : SourceEnd) → ends_in_fault ending ≡ true → IsFault ending
fault_ending (ends.Clean ignored) faulty = absurd (false≢true faulty)
fault_ending (ends.Fault fault) faulty = tt
fault_ending (ends.Stopped after) faulty = absurd (false≢true faulty)

clean_rests : (options : Options) (sources : List (Format × List ℕ)) → list_any (λ (rest : Rest). ends_in_fault rest.ending) (asked_rests options sources) ≡ false
    → All (λ (rest : Rest). IsClean rest.ending) (asked_rests options sources)
clean_rests options [] faultless = All-nil (λ (rest : Rest). IsClean rest.ending)
clean_rests options (source ∷ sources) faultless =
    let rest = asked_rest options source.0 source.1 in
    let both = or_parts (ends_in_fault rest.ending) (list_any (λ (rest : Rest). ends_in_fault rest.ending) (asked_rests options sources)) faultless in
    All-cons (λ (rest : Rest). IsClean rest.ending) rest (asked_rests options sources)
    (clean_ending rest.ending (unstopped source.0 source.1 options.pick options.naming) both.0) (clean_rests options sources both.1)

-- neither where stacks begin nor which frames are left out changes an ending
faults_mapped : (f : Rest → Rest) → ((rest : Rest) → (f rest).ending ≡ rest.ending) → (rests : List Rest) → list_any (λ (rest : Rest). ends_in_fault rest.ending) (map f rests) ≡ list_any (λ (rest : Rest). ends_in_fault rest.ending) rests
faults_mapped f same [] = refl
faults_mapped f same (rest ∷ rests) = λ i. ends_in_fault (same rest i) || faults_mapped f same rests i

faults_shown : (from : Option (List ℕ)) (omitted : List (List ℕ)) (rests : List Rest) → list_any (λ (rest : Rest). ends_in_fault rest.ending) (shown_rests from omitted rests) ≡ list_any (λ (rest : Rest). ends_in_fault rest.ending) rests
faults_shown None omitted rests = faults_mapped (rest_without omitted) (λ _. refl) rests
faults_shown (Some name) omitted rests = faults_mapped (rest_without omitted) (λ _. refl) (map (rest_from name) rests) ∙ faults_mapped (rest_from name) (λ _. refl) rests

clean_shown : (from : Option (List ℕ)) (omitted : List (List ℕ)) (rests : List Rest) → All (λ (rest : Rest). IsClean rest.ending) rests → All (λ (rest : Rest). IsClean rest.ending) (shown_rests from omitted rests)
clean_shown None omitted rests clean = All-map (λ (rest : Rest). IsClean rest.ending) (rest_without omitted) rests clean
clean_shown (Some name) omitted rests clean =
    All-map (λ (rest : Rest). IsClean rest.ending) (rest_without omitted) (map (rest_from name) rests) (All-map (λ (rest : Rest). IsClean rest.ending) (rest_from name) rests clean)

pub faulty_rests : (rests : List Rest) → list_any (λ (rest : Rest). ends_in_fault rest.ending) rests ≡ true → HasFault rests
faulty_rests rests faulty =
    let found = Any-from_list_any (λ (rest : Rest). ends_in_fault rest.ending) rests faulty in
    (found.0, found.1, found.2, found.3, fault_ending found.1.ending found.4)

-- ---- lists, by what they are seen as

pub samples_of_rests : (lists : List ListState) → samples_of lists ≡ lists_of (map seen_as_rest lists)
samples_of_rests [] = refl
samples_of_rests (list ∷ lists) = ap (λ more. list.samples ∷ more) (samples_of_rests lists)

pub faults_of_rests : (lists : List ListState) → has_fault lists ≡ list_any (λ (rest : Rest). ends_in_fault rest.ending) (map seen_as_rest lists)
faults_of_rests [] = refl
faults_of_rests (list ∷ lists) = ap (λ more. ends_in_fault list.ending || more) (faults_of_rests lists)

-- where no source has a strict fault, no list has a fault, whatever is shown of its stacks
pub lists_faultless : (plan : Plan) (sources : List (Format × List ℕ)) (lists : List ListState) → has_strict_fault plan.options sources ≡ false
    → AllZip (IsFound (is_summed plan)) (shown_rests plan.from plan.omit (asked_rests plan.options sources)) (map seen_as_rest lists) → has_fault lists ≡ false
lists_faultless plan sources lists none found =
    faults_of_rests lists ∙ faults_found (is_summed plan) (shown_rests plan.from plan.omit (asked_rests plan.options sources)) (map seen_as_rest lists) found ∙ faults_shown plan.from plan.omit (asked_rests plan.options sources) ∙ clean_sources plan.options sources none

-- ---- what a run over known sources shows

-- a plan's sources were read to their ends
pub record AreCollected (plan : Plan) (sources : List (Format × List ℕ)) (lists : List ListState) (order : List ℕ) : Type 0 where
  pub found : AllZip (IsFound (is_summed plan)) (wanted_rests plan sources) (map seen_as_rest lists)
  pub ordered : IsInterleaving order (samples_of lists)

module _ (plan : Plan) (sources : List (Format × List ℕ)) (lists : List ListState) (order : List ℕ) (collected : AreCollected plan sources lists order) where
  abbrev text : List ℕ
  text = shown_text plan (facts_of plan.options sources) (samples_of lists) order plan.options.every

  pub are_alike : AllZip WeighAlike (samples_of lists) (wanted_lists plan sources)
  are_alike = alike_found (is_summed plan) (wanted_rests plan sources) lists collected.found

  same_faults : has_fault lists ≡ list_any (λ (rest : Rest). ends_in_fault rest.ending) (wanted_rests plan sources)
  same_faults = faults_of_rests lists ∙ faults_found (is_summed plan) (wanted_rests plan sources) (map seen_as_rest lists) collected.found

  is_text : has_fault lists ≡ false → IsTextOf plan sources text
  is_text faultless = record {
    clean =
        clean_shown plan.from plan.omit (asked_rests plan.options sources)
        (clean_rests plan.options sources (sym (faults_shown plan.from plan.omit (asked_rests plan.options sources)) ∙ (sym same_faults ∙ faultless)));
    order = of_wanted.0;
    ordered = of_wanted.1;
    text_is = of_wanted.2;
  }
    where
      -- an order in which they may come, and the text in this order
      HasText : Bool → Type 0
      HasText summed = (other : List ℕ) × IsInterleaving other (wanted_lists plan sources) × (text ≡ shown_text plan (facts_of plan.options sources) (wanted_lists plan sources) other plan.options.every)

      by_plan : (summed : Bool) → is_summed plan ≡ summed → AllZip (IsFound summed) (wanted_rests plan sources) (map seen_as_rest lists) → HasText summed
      by_plan true summed found = (in_turn (wanted_lists plan sources), turned (wanted_lists plan sources), alike_text (samples_of lists) (wanted_lists plan sources) are_alike plan (facts_of plan.options sources) order (in_turn (wanted_lists plan sources)) summed)
      by_plan false in_order found =
          let same : samples_of lists ≡ wanted_lists plan sources = samples_of_rests lists ∙ ap lists_of (found_same (wanted_rests plan sources) (map seen_as_rest lists) found) in
          (order, subst (λ (samples : List (List Sample)). IsInterleaving order samples) same collected.ordered, ap (λ samples. shown_text plan (facts_of plan.options sources) samples order plan.options.every) same)

      of_wanted : HasText (is_summed plan)
      of_wanted = by_plan (is_summed plan) refl collected.found

  -- by a text that is said in other words
  pub ok_shown : {T E : Type 0} (result : Result T E) (old new : Option (List ℕ)) (other : List ℕ) → other ≡ text → OnOk result (has_fault lists ≡ false) → OnOk result (Appends old new other)
      → OnOk result (Shows plan old new sources)
  ok_shown (Ok done) old new other same faultless appends = λ _. (text, is_text faultless, subst (Appends old new) same appends)
  ok_shown (Err error) old new other same faultless appends = tt

  -- whether functions grew, by the line that names them
  pub growth_shown : (result : Result Bool Failure) → IfOk result (λ is_over. is_over ≡ is_said (growth_line plan.view (samples_of lists))) → IfOk result (λ is_over. TellsGrowth is_over plan sources)
  growth_shown (Ok is_over) says = tells_growth plan sources (growth_line plan.view (samples_of lists)) is_over (alike_growth (samples_of lists) (wanted_lists plan sources) are_alike plan.view) says
  growth_shown (Err failure) says = tt

  not_shown : (old new : Option (List ℕ)) (failure : Failure) → FailsToShow lists text old new failure → Fails plan old new failure sources
  not_shown old new TooManyFiles fails = tt
  not_shown old new (Unreadable source) fails = tt
  not_shown old new (TooLarge source) fails = tt
  not_shown old new OutOfMemory fails = tt
  not_shown old new NoThread fails = tt
  not_shown old new (Unfinished source) fails = tt
  not_shown old new Faults fails = λ plain. faulty_rests (wanted_rests plan sources) (sym same_faults ∙ fails.0)
  not_shown old new (Output fault) fails = λ _. (text, is_text fails.0, fails.1)

  pub err_shown : (old new : Option (List ℕ)) (other : List ℕ) → other ≡ text → (failure : Failure) → FailsToShow lists other old new failure → Fails plan old new failure sources
  err_shown old new other same failure fails = not_shown old new failure (subst (λ said. FailsToShow lists said old new failure) same fails)
