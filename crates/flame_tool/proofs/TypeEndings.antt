-- How a run ends that is asked for the sample types of a profile.
use Rattle.std.proofs.Common.{◌≡◌, ◌∙◌, ℕ, Bool, true, false, true≢false, List, [], ◌∷◌, length, Option, Some, None, Result, Ok, Err, IfSome, IfErr, IfOk, OnOk, ap, sym, subst, refl, arith, take, get_or, map, ◌<◌}
use Rattle.std.specs.Prelude.{option_and_then, option_map, slice_get}
use Rattle.std.proofs.lemmas.List.{get_or-map, length-map}
use Rattle.std.specs.Io.KnownBytes.{Appends}
use Rattle.stack_core.specs.Reading.{Rest}
use Rattle.run_options.specs.declared.choices.Pick.{Pick}
use Rattle.run_options.specs.declared.choices.Pick.TheVariants.{Preferred}
use Rattle.run_options.specs.declared.formats.Format.{Format}
use Rattle.run_options.specs.declared.formats.Format.TheVariants.{Pprof}
use Rattle.run_options.specs.declared.options.Options.{Options}
use Rattle.profile_messages.specs.Tables.{samples_of}
use Rattle.profile_messages.specs.SampleTypes.{all_types}
use Rattle.profile_messages.specs.declared.types.SampleTypes.{SampleTypes}
use Rattle.profile_tables.specs.Samples.{read_pprof, read_samples, tables_of}
use Rattle.profile_tables.specs.Samples as pprof
use Rattle.source_lists.specs.FromNames.{rest_from}
use Rattle.source_lists.specs.OmittedNames.{rest_without, shown_rests}
use Rattle.source_lists.specs.Sources.{asked_rest, asked_rests}
use Rattle.command_line.specs.Plans.{IsOfOneProfile}
use Rattle.command_line.specs.declared.plans.Form.TheVariants as form
use Rattle.command_line.specs.declared.plans.Plan.{Plan}
use Rattle.view_texts.specs.Types.{types_text}
use Rattle.flame_tool.specs.KnownFacts.{bytes_of, known_sources}
use Rattle.flame_tool.specs.Runs.{HasFault, IsFault, Shows, ShowsFront, ShowsSamples}
use Rattle.flame_tool.specs.StrictRuns.{HasPlainFault}
use Rattle.flame_tool.specs.TypeRuns.{HasTableFault, ShowsTypes, known_profile, table_fault}
use Rattle.flame_tool.specs.checked.Failures.{Fails, TellsGrowth}
use Rattle.source_views.specs.Failures.{Sends}
use Rattle.flame_tool.specs.checked.TypeFailures.{FailsTypes}
use Rattle.source_views.specs.declared.failures.Failure.{Failure}
use Rattle.source_views.specs.declared.failures.Failure.TheVariants.{TooManyFiles, Unreadable, TooLarge, OutOfMemory, NoThread, Unfinished, Faults, Output}

-- ---- a profile with a fault in its tables is read up to that fault

fault_ends : (options : Options) (profile : List ℕ) → options.pick ≡ Preferred → HasTableFault profile → IsFault (asked_rest options Pprof profile).ending
fault_ends options profile preferred (fault, is) =
    subst (λ (pick : Pick). IsFault (read_pprof profile pick options.naming).ending) (sym preferred)
    (subst (λ found. IsFault (pprof.rest_of found (read_samples (tables_of profile Preferred options.naming) 0 (samples_of profile))).ending) (sym is) tt)

fault_of_one : (options : Options) (known : Option (List ℕ)) → options.pick ≡ Preferred → IfSome known HasTableFault
    → IfSome (option_and_then (λ found. option_map (λ more. found ∷ more) (Some [])) (option_map (λ bytes. (Pprof, bytes)) known)) (λ sources. HasFault (asked_rests options sources))
fault_of_one options None preferred faulty = tt
fault_of_one options (Some profile) preferred faulty = (0, asked_rest options Pprof profile, omega arith, refl, fault_ends options profile preferred faulty)

fault_of_paths : (options : Options) (input : Option (List ℕ)) (files : List ℕ → Option (List ℕ)) (paths : List (List ℕ)) → length paths ≡ 1 → options.pick ≡ Preferred
    → IfSome (option_and_then files (slice_get paths 0)) HasTableFault → IfSome (bytes_of (Some Pprof) paths input files) (λ sources. HasFault (asked_rests options sources))
fault_of_paths options input files [] one preferred faulty = absurd (omega arith)
fault_of_paths options input files (path ∷ []) one preferred faulty = fault_of_one options (files path) preferred faulty
fault_of_paths options input files (path ∷ another ∷ more) one preferred faulty = absurd (omega arith)

-- neither where stacks begin nor which frames are left out changes an ending
fault_mapped : (f : Rest → Rest) → ((rest : Rest) → IsFault rest.ending → IsFault (f rest).ending) → (rests : List Rest) → HasFault rests → HasFault (map f rests)
fault_mapped f same rests (i, rest, within, is, fault) =
    (i, f rest, omega (arith, within, length-map rests f), get_or-map f rests i rest (f rest) within ∙ ap f is, same rest fault)

fault_in_shown : (from : Option (List ℕ)) (omitted : List (List ℕ)) (rests : List Rest) → HasFault rests → HasFault (shown_rests from omitted rests)
fault_in_shown None omitted rests faulty = fault_mapped (rest_without omitted) (λ _ fault. fault) rests faulty
fault_in_shown (Some name) omitted rests faulty =
    fault_mapped (rest_without omitted) (λ _ fault. fault) (map (rest_from name) rests) (fault_mapped (rest_from name) (λ _ fault. fault) rests faulty)

fault_shown : (plan : Plan) (known : Option (List (Format × List ℕ))) → IfSome known (λ sources. HasFault (asked_rests plan.options sources)) → IfSome known (HasPlainFault plan)
fault_shown plan None faulty = tt
fault_shown plan (Some sources) faulty = λ _. fault_in_shown plan.from plan.omit (asked_rests plan.options sources) faulty

-- ---- what is said of a result only where something else holds

pub ok_where : {T E : Type 0} (Q P : Type 0) (result : Result T E) → (Q → OnOk result P) → OnOk result (Q → P)
ok_where Q P (Ok value) holds = holds
ok_where Q P (Err error) holds = tt

pub err_where : {T E : Type 0} (Q : Type 0) (P : E → Type 0) (result : Result T E) → (Q → IfErr result P) → IfErr result (λ error. Q → P error)
err_where Q P (Ok value) holds = tt
err_where Q P (Err error) holds = holds

-- ---- a plan that asks for no samples

module _ (plan : Plan) (old new : Option (List ℕ)) (types : plan.form ≡ form.Types) where
  unseen : (known : Option (List (Format × List ℕ))) → IfSome known (Shows plan old new)
  unseen None = tt
  unseen (Some sources) = λ shows. absurd (subst ShowsSamples types shows)

  unseen_front : (known : Option (List (Format × List ℕ))) → IfSome known (ShowsFront plan old new)
  unseen_front None = tt
  unseen_front (Some sources) = λ shows. absurd (subst ShowsSamples types shows)

  pub unseen_ok : {T E : Type 0} (known : Option (List (Format × List ℕ))) (result : Result T E) → OnOk result (IfSome known (Shows plan old new))
  unseen_ok known (Ok done) = unseen known
  unseen_ok known (Err error) = tt

  unsaid : (known : Option (List (Format × List ℕ))) → IfSome known (λ _. Unit {0})
  unsaid None = tt
  unsaid (Some sources) = tt

  unseen_fails : (input : Option (List ℕ)) (files : List ℕ → Option (List ℕ)) (failure : Failure) → IsOfOneProfile plan
      → IfSome (known_profile plan files) (FailsTypes old new failure) → IfSome (known_sources plan input files) (Fails plan old new failure)
  unseen_fails input files TooManyFiles one fails = unsaid (known_sources plan input files)
  unseen_fails input files (Unreadable source) one fails = unsaid (known_sources plan input files)
  unseen_fails input files (TooLarge source) one fails = unsaid (known_sources plan input files)
  unseen_fails input files OutOfMemory one fails = unsaid (known_sources plan input files)
  unseen_fails input files NoThread one fails = unsaid (known_sources plan input files)
  unseen_fails input files (Unfinished source) one fails = unsaid (known_sources plan input files)
  unseen_fails input files Faults one fails =
      fault_shown plan (known_sources plan input files)
      (subst (λ (asked : Option Format). IfSome (bytes_of asked plan.files input files) (λ sources. HasFault (asked_rests plan.options sources))) (sym one.1)
      (fault_of_paths plan.options input files plan.files one.0 (ap (λ (options : Options). options.pick) one.2) fails))
  unseen_fails input files (Output fault) one fails = unseen_front (known_sources plan input files)

  pub unseen_err : {T : Type 0} (input : Option (List ℕ)) (files : List ℕ → Option (List ℕ)) (result : Result T Failure) → IsOfOneProfile plan
      → IfErr result (λ failure. IfSome (known_profile plan files) (FailsTypes old new failure))
      → IfErr result (λ failure. IfSome (known_sources plan input files) (Fails plan old new failure))
  unseen_err input files (Ok done) one fails = tt
  unseen_err input files (Err failure) one fails = unseen_fails input files failure one fails

-- no function of it grew
pub types_ungrown : (plan : Plan) (known : Option (List (Format × List ℕ))) (result : Result Bool Failure) → plan.form ≡ form.Types → IfOk result (λ is_over. is_over ≡ false)
    → IfOk result (λ is_over. IfSome known (TellsGrowth is_over plan))
types_ungrown plan known (Err failure) types none = tt
types_ungrown plan None (Ok is_over) types none = tt
types_ungrown plan (Some sources) (Ok true) types none = absurd (true≢false none)
types_ungrown plan (Some sources) (Ok false) types none = λ shows. absurd (subst ShowsSamples types shows)

pub types_unlimited : (P : Type 0) (result : Result Bool Failure) → IfOk result (λ is_over. is_over ≡ false) → IfOk result (λ is_over. is_over ≡ true → P)
types_unlimited P (Ok is_over) none = λ over. absurd (true≢false (sym over ∙ none))
types_unlimited P (Err failure) none = tt

-- ---- the text of the types of a profile without a fault

module _ {T : Type 0} (profile : List ℕ) (types : SampleTypes) (old new : Option (List ℕ)) (faultless : table_fault profile ≡ None) (same : types ≡ all_types profile) where
  pub sent_types : (result : Result T Failure) → Sends (types_text types) old new result → OnOk result (ShowsTypes old new profile)
  sent_types (Ok done) sent = (faultless, subst (λ (types : SampleTypes). Appends old new (types_text types)) same sent)
  sent_types (Err failure) sent = tt

  pub unsent_types : (result : Result T Failure) → Sends (types_text types) old new result → IfErr result (λ failure. FailsTypes old new failure profile)
  unsent_types (Ok done) sent = tt
  unsent_types (Err TooManyFiles) sent = absurd sent
  unsent_types (Err (Unreadable source)) sent = absurd sent
  unsent_types (Err (TooLarge source)) sent = absurd sent
  unsent_types (Err OutOfMemory) sent = tt
  unsent_types (Err NoThread) sent = absurd sent
  unsent_types (Err (Unfinished source)) sent = absurd sent
  unsent_types (Err Faults) sent = absurd sent
  unsent_types (Err (Output fault)) (count, appends) =
      (faultless, (count, subst (λ (types : SampleTypes). Appends old new (take count (types_text types))) same appends))

-- ---- the bytes of the one file

pub first_path : {A : Type 0} (bytes : A → List ℕ) (paths : List A) (path : A) → 0 < length paths → path ≡ get_or paths 0 path → slice_get (map bytes paths) 0 ≡ Some (bytes path)
first_path bytes [] path some is = absurd (omega arith)
first_path bytes (first ∷ more) path some is = ap (λ path. Some (bytes path)) (sym is)

found_bytes : (P : List ℕ → Type 0) (bytes : List ℕ) (found : Option (List ℕ)) → IfSome found (λ known. bytes ≡ known) → P bytes → IfSome found P
found_bytes P bytes None same holds = tt
found_bytes P bytes (Some known) same holds = subst P same holds

-- what holds of loaded bytes holds of those that are known
pub known_bytes : (P : List ℕ → Type 0) (files : List ℕ → Option (List ℕ)) (paths : List (List ℕ)) (path bytes : List ℕ) → slice_get paths 0 ≡ Some path
    → IfSome (files path) (λ known. bytes ≡ known) → P bytes → IfSome (option_and_then files (slice_get paths 0)) P
known_bytes P files paths path bytes is same holds =
    subst (λ got. IfSome (option_and_then files got) P) (sym is) (found_bytes P bytes (files path) same holds)

pub known_ok : {T E : Type 0} (P : List ℕ → Type 0) (files : List ℕ → Option (List ℕ)) (paths : List (List ℕ)) (path bytes : List ℕ) (result : Result T E) → slice_get paths 0 ≡ Some path
    → IfSome (files path) (λ known. bytes ≡ known) → OnOk result (P bytes) → OnOk result (IfSome (option_and_then files (slice_get paths 0)) P)
known_ok P files paths path bytes (Ok done) is same holds = known_bytes P files paths path bytes is same holds
known_ok P files paths path bytes (Err error) is same holds = tt

pub known_err : {T : Type 0} (P : Failure → List ℕ → Type 0) (files : List ℕ → Option (List ℕ)) (paths : List (List ℕ)) (path bytes : List ℕ) (result : Result T Failure) → slice_get paths 0 ≡ Some path
    → IfSome (files path) (λ known. bytes ≡ known) → IfErr result (λ failure. P failure bytes) → IfErr result (λ failure. IfSome (option_and_then files (slice_get paths 0)) (P failure))
known_err P files paths path bytes (Ok done) is same holds = tt
known_err P files paths path bytes (Err failure) is same holds = known_bytes (P failure) files paths path bytes is same holds
