-- All that is promised of what a run leaves on its outlets: what `run` promises, and beside it what `live` does.
use Rattle.std.specs.Prelude.{◌≡◌, ◌≢◌, ◌≤◌, ◌<◌, ◌⊎◌, ℕ, Bool, true, false, List, [], Option, None, IfSome, IsSome, IsSomeAnd, length, string_bytes}
use Rattle.std.specs.Io.KnownBytes.{Appends, Keeps}
use Rattle.std.specs.List.{list_any}
use Rattle.clap.specs.Walk.{Text}
use Rattle.byte_io.specs.Pieces.{AppendsFront}
use Rattle.folded_lines.specs.Reading.{read_folded}
use Rattle.run_options.specs.declared.formats.Format.{Format}
use Rattle.sample_tables.specs.declared.samples.Sample.{Sample}
use Rattle.command_line.specs.Plans.{IsFaultAmong, limit_of}
use Rattle.command_line.specs.declared.plans.CallTable.{CallTable}
use Rattle.command_line.specs.declared.plans.Form.TheVariants as form
use Rattle.command_line.specs.declared.plans.PageForm.{PageForm}
use Rattle.command_line.specs.declared.plans.PictureForm.{PictureForm}
use Rattle.command_line.specs.declared.plans.Plan.{Plan}
use Rattle.command_line.specs.declared.plans.PlanFault.{PlanFault}
use Rattle.command_line.specs.declared.plans.PlanFault.TheVariants as fault
use Rattle.function_sums.specs.declared.call_sides.CallSide.TheVariants.{Callers, Callees}
use Rattle.source_views.specs.Messages.{Tells, message_of_failure}
use Rattle.source_views.specs.declared.failures.Failure.TheVariants.{TooManyFiles}
use Rattle.flame_tool.specs.Pages.{called_text, page_text, peeked_text, picture_text, told_in}
use Rattle.flame_tool.specs.declared.run_facts.RunFacts.{RunFacts}
use Rattle.source_views.specs.Texts.{IsOrderless, told_text, view_text}
use Rattle.flame_tool.specs.KnownFacts.{facts_of, known_sources, wanted_rests}
use Rattle.flame_tool.specs.LiveRuns.{AreFaultless, HasTextFault, ShowsAllOf, ShowsFirstOf, ShowsSomeOf, known_texts, live_texts, read_texts}
use Rattle.flame_tool.specs.Requests.{asked_faults, asked_plan}
use Rattle.flame_tool.specs.Runs.{IsClean, IsFault, text_of, wanted_lists, FailsUntouched, GainsFront, Shows, ShowsFront, ShowsSamples, HasFault, IsOfSamples, HasGrown, HasNotGrown}
use Rattle.flame_tool.specs.StrictRuns.{HasPlainFault, has_strict_fault}
use Rattle.flame_tool.specs.ToldLive.{IsOfFailure, IsUnopened, TellsLiveFailure, TellsStreams, TellsSuch}
use Rattle.flame_tool.specs.ToldRuns.{TellsFailure, TellsGrown, TellsProfile, TellsSources, said_of_sources}
use Rattle.flame_tool.specs.TypeRuns.{known_profile, HasTableFault, ShowsTypes, ShowsTypesFront}

-- what is known of files that are read whole
pub record KnownFiles : Type 0 where
  pub input : Option (List ℕ)
  pub named : List ℕ → Option (List ℕ)
  pub may_have_terminal : Bool

-- what is known of them as streams
pub record KnownStreams : Type 0 where
  pub input : Option (List ℕ)
  pub named : List ℕ → Option (List ℕ)
  pub is_absent : List ℕ → Bool
  pub may_have_terminal : Bool

-- what an outlet holds before a run and after it, where that is known, and how many of its calls failed
pub record Change : Type 0 where
  pub held_before : Option (List ℕ)
  pub held_after : Option (List ℕ)
  pub failed_before : ℕ
  pub failed_after : ℕ

abbrev pub as_files : Option (List ℕ) → (List ℕ → Option (List ℕ)) → Bool → KnownFiles
as_files input named may_have_terminal =
    record { input = input; named = named; may_have_terminal = may_have_terminal }

abbrev pub as_streams : Option (List ℕ) → (List ℕ → Option (List ℕ)) → (List ℕ → Bool) → Bool → KnownStreams
as_streams input named is_absent may_have_terminal =
    record { input = input; named = named; is_absent = is_absent; may_have_terminal = may_have_terminal }

abbrev pub change : Option (List ℕ) → Option (List ℕ) → ℕ → ℕ → Change
change held_before held_after failed_before failed_after = record {
  held_before = held_before;
  held_after = held_after;
  failed_before = failed_before;
  failed_after = failed_after;
}

-- success: what was asked for is written. 4 is that of a plan that sets a limit over which functions grew
abbrev pub Succeeds : ℕ → Type 0
Succeeds answer = (answer ≡ 0) ⊎ (answer ≡ 4)

-- what holds where the bytes of a plan's sources are known, and where those of its first file are
abbrev pub IfSources : Plan → KnownFiles → (List (Format × List ℕ) → Type 0) → Type 0
IfSources plan files = IfSome (known_sources plan files.input files.named)

abbrev pub IfProfile : Plan → KnownFiles → (List ℕ → Type 0) → Type 0
IfProfile plan files = IfSome (known_profile plan files.named)

-- the output gained this text of the samples of sources, and of what is known beside them
abbrev pub GainsText : Plan → Change → (RunFacts → List (List Sample) → List ℕ) → List (Format × List ℕ) → Type 0
GainsText plan out text sources =
    Appends out.held_before out.held_after (text (facts_of plan.options sources) (wanted_lists plan sources))

-- what is promised of a run of this plan, which had these files and outlets, and answered this status: for each status what the output
-- gained, why, and what standard error was told. All is over bytes that are known. Where it is said that `err` gained something, a call of
-- it may have failed instead
pub record PlanShows (plan : Plan) (files : KnownFiles) (answer : ℕ) (out err : Change) (is_flushed : Type 0) : Type 0 where
  pub status : answer ≤ 4
  -- success means that what was written was flushed too. No call of the output failed but where 3 is answered
  pub flushed : Succeeds answer → is_flushed
  pub unfailed : answer ≢ 3 → out.failed_after ≡ out.failed_before
  -- 1 is a fault of a source, and 2 are more than 64 files: nothing is written
  pub unwritten : answer ≡ 1 → Keeps out.held_before out.held_after
  pub refused : answer ≡ 2 → Keeps out.held_before out.held_after
  pub many : answer ≡ 2 → 64 < length plan.files
  pub few : answer ≢ 2 → length plan.files ≤ 64
  -- success means that the sources have no fault, and that the text that the plan asks for went out
  pub shown : Succeeds answer → IfSources plan files (Shows plan out.held_before out.held_after)
  pub shown_exactly : Succeeds answer → plan.form ≡ form.Text → IsOrderless plan.view plan.options.every → IsOfSamples plan.view →
      IfSources plan files (GainsText plan out (λ _ lists. view_text plan.view lists [] None))
  -- tables of functions also say the type and the unit of the weights, and what all samples weigh where some are left out
  pub shown_with_facts : Succeeds answer → plan.form ≡ form.Text → IsOrderless plan.view plan.options.every →
      IfSources plan files (GainsText plan out (λ facts lists. told_text (told_in plan facts lists) plan.view lists [] None))
  -- of a page without snapshots no order of the samples is left, of a picture none at all
  pub shown_page : Succeeds answer → (page : PageForm) → plan.form ≡ form.Page page → IsOrderless plan.view plan.options.every →
      IfSources plan files (GainsText plan out (λ facts lists. page_text plan facts page lists [] None))
  pub shown_svg : Succeeds answer → (picture : PictureForm) → plan.form ≡ form.Picture picture →
      IfSources plan files (GainsText plan out (λ facts. picture_text plan facts picture))
  -- nor of the callers of a function, of its callees, and of both
  pub shown_callers : Succeeds answer → (table : CallTable) → plan.form ≡ form.Callers table →
      IfSources plan files (GainsText plan out (called_text Callers table plan))
  pub shown_callees : Succeeds answer → (table : CallTable) → plan.form ≡ form.Callees table →
      IfSources plan files (GainsText plan out (called_text Callees table plan))
  pub shown_peek : Succeeds answer → (table : CallTable) → plan.form ≡ form.Peek table →
      IfSources plan files (GainsText plan out (peeked_text table plan))
  pub faulty : answer ≡ 1 → IfSources plan files (HasPlainFault plan)
  -- 3 leaves nothing or a part of the text from its front
  pub partly : answer ≡ 3 → Keeps out.held_before out.held_after
      ⊎ IfSources plan files (ShowsFront plan out.held_before out.held_after)
  -- a fault of a source ends the run before the output is touched: with 1, or with 3 where the run failed before it was collected
  pub untouched : ShowsSamples plan.form → IfSources plan files (λ sources. HasFault (wanted_rests plan sources) →
      FailsUntouched answer out.held_before out.held_after out.failed_before out.failed_after)
  -- where the plan asks for it, a line that is ignored and a source without a sample are faults, too: success means that no source has one,
  -- 1 that one has, and such a fault leaves the output untouched
  pub strict : Succeeds answer → ShowsSamples plan.form → plan.is_strict ≡ true →
      IfSources plan files (λ sources. has_strict_fault plan.options sources ≡ false)
  pub strict_faulty : answer ≡ 1 → ShowsSamples plan.form → plan.is_strict ≡ true →
      IfSources plan files (λ sources. has_strict_fault plan.options sources ≡ true)
  pub strict_untouched : ShowsSamples plan.form → plan.is_strict ≡ true → IfSources plan files (λ sources.
      has_strict_fault plan.options sources ≡ true → FailsUntouched answer out.held_before out.held_after out.failed_before out.failed_after)
  -- 4 comes only of a limit, and means that there are functions whose share of own weight grew by more than that. At 0 there is none
  pub limit : answer ≡ 4 → IsSome (limit_of plan.view)
  pub grown : answer ≡ 4 → IfSources plan files (HasGrown plan)
  pub not_grown : answer ≡ 0 → IfSources plan files (HasNotGrown plan)
  -- the same of the sample types of a profile: success is their text, 1 is a fault of the profile before its samples, and 3 leaves nothing
  -- or a part of the text from its front
  pub types : Succeeds answer → plan.form ≡ form.Types → IfProfile plan files (ShowsTypes out.held_before out.held_after)
  pub types_faulty : answer ≡ 1 → plan.form ≡ form.Types → IfProfile plan files HasTableFault
  pub types_partly : answer ≡ 3 → Keeps out.held_before out.held_after
      ⊎ (plan.form ≡ form.Types → IfProfile plan files (ShowsTypesFront out.held_before out.held_after))
  pub types_untouched : plan.form ≡ form.Types → IfProfile plan files (λ profile. HasTableFault profile →
      FailsUntouched answer out.held_before out.held_after out.failed_before out.failed_after)
  -- where nothing may be a terminal: at 0 and 1 `err` gained what is said of each source, in order: its fault, or how many of its lines were
  -- ignored, or of a plan that is strict what is wrong with it; and at 4 the functions that grew, behind what is said of the sources
  pub told : files.may_have_terminal ≡ false → answer ≤ 1 → ShowsSamples plan.form →
      IfSources plan files (TellsSources plan err.held_before err.held_after err.failed_before err.failed_after)
  pub told_grown : files.may_have_terminal ≡ false → answer ≡ 4 → ShowsSamples plan.form →
      IfSources plan files (TellsGrown plan err.held_before err.held_after err.failed_before err.failed_after)
  -- where sample types are asked for it gained nothing at 0, and the fault of the profile at 1
  pub told_types : files.may_have_terminal ≡ false → answer ≡ 0 → plan.form ≡ form.Types →
      Tells [] err.held_before err.held_after err.failed_before err.failed_after
  pub told_types_fault : files.may_have_terminal ≡ false → answer ≡ 1 → plan.form ≡ form.Types →
      IfProfile plan files (TellsProfile plan.files err.held_before err.held_after err.failed_before err.failed_after)
  -- at 2 that there are too many files
  pub told_many : files.may_have_terminal ≡ false → answer ≡ 2 →
      Tells (message_of_failure plan.files TooManyFiles) err.held_before err.held_after err.failed_before err.failed_after
  -- at 3 the message of a failure that has this status, alone, or behind all that is said of the sources
  pub told_failure : files.may_have_terminal ≡ false → answer ≡ 3 →
      TellsFailure plan.files [] err.held_before err.held_after err.failed_before err.failed_after
      ⊎ (ShowsSamples plan.form × IfSources plan files (λ sources.
      TellsFailure plan.files (said_of_sources plan sources) err.held_before err.held_after err.failed_before err.failed_after))

-- what is promised of a run that this fault of its words ended: refused words are told, a text that is asked for goes out, or a front of it,
-- and without memory nothing is written
abbrev pub RefusalShows : PlanFault → ℕ → Change → Change → Type 0 → Type 0
RefusalShows (fault.Words text) answer out err is_flushed =
    (answer ≡ 2) × FailsUntouched answer out.held_before out.held_after out.failed_before out.failed_after
    × Tells (string_bytes text) err.held_before err.held_after err.failed_before err.failed_after
RefusalShows (fault.Help text) answer out err is_flushed =
    ((answer ≡ 0) × is_flushed × (out.failed_after ≡ out.failed_before) × Appends out.held_before out.held_after (string_bytes text))
    ⊎ ((answer ≡ 3) × AppendsFront (string_bytes text) out.held_before out.held_after
    × TellsFailure [] [] err.held_before err.held_after err.failed_before err.failed_after)
RefusalShows fault.OutOfMemory answer out err is_flushed =
    (answer ≡ 3) × FailsUntouched answer out.held_before out.held_after out.failed_before out.failed_after
    × TellsFailure [] [] err.held_before err.held_after err.failed_before err.failed_after

-- what is promised of `run`, which had these words, files and outlets, and answered this status
pub record RunShows (words : List Text) (files : KnownFiles) (answer : ℕ) (out err : Change) (is_flushed : Type 0) : Type 0 where
  -- a fault of the words ended it: they are refused, or ask for help or the version, or there was no memory to read them. Or they have no
  -- fault, and their plan was run
  pub ended : ((fault : PlanFault) × IsFaultAmong (asked_faults words) fault × RefusalShows fault answer out err is_flushed)
      ⊎ ((asked_faults words ≡ []) × IsSomeAnd (asked_plan words) (λ plan. PlanShows plan files answer out err is_flushed))
  -- without words 0 is success: the input has no fault, and its whole fold text went out. 1 is a fault of it, and 3 leaves a front
  pub no_words : length words ≡ 0 → answer ≢ 2
  pub clean : length words ≡ 0 → answer ≡ 0 → IfSome files.input (λ input. IsClean (read_folded input).ending)
  pub text : length words ≡ 0 → answer ≡ 0 → IfSome files.input (λ input.
      Appends out.held_before out.held_after (text_of input))
  pub fault : length words ≡ 0 → answer ≡ 1 → IfSome files.input (λ input. IsFault (read_folded input).ending)
  pub front : length words ≡ 0 → answer ≡ 3 → IfSome files.input (λ input. GainsFront input out.held_before out.held_after)

-- what is promised of `live`, which had this plan, and wrote to a terminal or not
pub record LiveShows (is_terminal : Bool) (plan : Plan) (streams : KnownStreams) (answer : ℕ) (out err : Change) (is_flushed : Type 0) : Type 0 where
  pub status : answer ≤ 3
  -- 0 and 1 mean that what was written was flushed, too, and that no call of the output failed
  pub flushed : answer ≤ 1 → is_flushed
  pub unfailed : answer ≢ 3 → out.failed_after ≡ out.failed_before
  -- 0 says that no stream has a fault, and that what is written of all their samples went out. Where the plan is strict a line that is
  -- ignored is a fault, which ends its stream, and so is that there is no sample
  pub shown : answer ≡ 0 → IfSome (known_texts plan.files streams.input streams.named) (λ texts. AreFaultless plan.is_strict texts
      × ShowsAllOf (live_texts is_terminal plan) out.held_before out.held_after (read_texts plan.is_strict texts))
  -- 1 says that one has a fault; what is written of all samples before it and of those of the others went out, too
  pub faulty : answer ≡ 1 → IfSome (known_texts plan.files streams.input streams.named) (λ texts. HasTextFault plan.is_strict texts
      × ShowsAllOf (live_texts is_terminal plan) out.held_before out.held_after (read_texts plan.is_strict texts))
  pub many : answer ≡ 2 → 64 < length plan.files
  pub few : answer ≢ 2 → length plan.files ≤ 64
  pub refused : answer ≡ 2 → Keeps out.held_before out.held_after
  -- 3 leaves what is written of first samples of each source, or a front of it, or of some samples of these sources where it isn't known
  -- whether all of one was received
  pub front : answer ≡ 3 → IfSome (known_texts plan.files streams.input streams.named) (λ texts.
      ShowsFirstOf (live_texts is_terminal plan) out.held_before out.held_after (read_texts plan.is_strict texts)
      ⊎ ShowsSomeOf (live_texts is_terminal plan) out.held_before out.held_after (length texts))
  -- where a file is known to be absent, nothing is written
  pub absent : list_any streams.is_absent plan.files ≡ true →
      FailsUntouched answer out.held_before out.held_after out.failed_before out.failed_after
  -- where the input is no terminal: at 0 and 1 `err` gained exactly what there is to say of each stream, its fault or its ignored lines, each
  -- once, one behind another in some order; or a call of it failed. At 2 that there are too many files, wherever the input comes from
  pub told : answer ≤ 1 → streams.may_have_terminal ≡ false → IfSome (known_texts plan.files streams.input streams.named)
      (TellsStreams plan err.held_before err.held_after err.failed_before err.failed_after)
  pub told_many : answer ≡ 2 → Tells (message_of_failure plan.files TooManyFiles)
      err.held_before err.held_after err.failed_before err.failed_after
  -- at 3 exactly why: alone where a stream can't be opened, behind how some streams ended where not all was collected, and else where a
  -- stream can't be read to its end in the place of what there is to say of it, or that the output failed behind what there is to say of all
  pub told_failure : answer ≡ 3 → streams.may_have_terminal ≡ false → TellsLiveFailure plan (known_texts plan.files streams.input streams.named)
      err.held_before err.held_after err.failed_before err.failed_after
  pub told_absent : list_any streams.is_absent plan.files ≡ true → TellsSuch (IsOfFailure (IsUnopened streams.is_absent streams.named plan.files) plan.files)
      err.held_before err.held_after err.failed_before err.failed_after
