-- How a live run of readers ended, by the rests that these may give.
use Rattle.std.specs.Prelude.{◌≡◌, ◌⊎◌, ℕ, Bool, List, Option, Result, Ok, Err, if◌then◌else◌, is_some, length}
use Rattle.std.specs.List.{list_any, zip}
use Rattle.std.specs.Io.KnownBytes.{Appends}
use Rattle.stack_core.specs.Interleaving.{IsInterleaving}
use Rattle.stack_core.specs.Ledgers.{ListState}
use Rattle.stack_core.specs.Reading.{Rest}
use Rattle.stack_core.specs.declared.endings.SourceEnd.{SourceEnd}
use Rattle.folded_lines.specs.StrictStreams.{strict_ending_fault}
use Rattle.folded_lines.specs.declared.strictness.StrictFault.{StrictFault}
use Rattle.merged_stacks.specs.Timeline.{samples_of}
use Rattle.command_line.specs.declared.plans.Plan.{Plan}
use Rattle.ring_collect.specs.Collection.{Collects}
use Rattle.source_views.specs.Failures.{ends_in_fault, has_fault, status_of}
use Rattle.source_views.specs.declared.failures.Failure.{Failure}
use Rattle.source_views.specs.declared.failures.Failure.TheVariants.{TooManyFiles, Unreadable, TooLarge, OutOfMemory, NoThread, Unfinished, Faults, Output}
use Rattle.live_lines.specs.declared.form.LiveForm.{LiveForm}
use Rattle.live_lines.specs.declared.form.LiveForm.TheVariants.{Lines, Pages, Table}
use Rattle.flame_tool.specs.LiveRuns.{AreFaultless, HasTextFault, ShowsAllOf, ShowsFirstOf, ShowsSomeOf, live_texts, read_texts}
use Rattle.flame_tool.specs.ToldLive.{is_stopped}

-- the exit status of a run that went to its end, where a source is stopped, and where one has a fault
abbrev pub status_by : Bool → Bool → ℕ
status_by stopped faulty = if stopped then 3 else (if faulty then 1 else 0)

-- what is wrong with a source that was read strictly
abbrev pub strict_list_fault : ListState → Option StrictFault
strict_list_fault list = strict_ending_fault (length list.samples) list.ending

-- a source has a fault, as they are read
abbrev pub is_faulty : Bool → List ListState → Bool
is_faulty is_strict lists = if is_strict then list_any (λ list. is_some (strict_list_fault list)) lists else has_fault lists

-- a source that ended so, of which so many samples came, has one, as it is read
abbrev pub is_faulty_end : Bool → SourceEnd × ℕ → Bool
is_faulty_end is_strict end = if is_strict then is_some (strict_ending_fault end.1 end.0) else ends_in_fault end.0

-- the exit status by how sources ended, and by how many samples came of each
abbrev pub status_by_ends : Bool → List SourceEnd → List ℕ → ℕ
status_by_ends is_strict endings counts = status_by (list_any is_stopped endings) (list_any (is_faulty_end is_strict) (zip endings counts))

abbrev pub status_of_ends : Bool → List ListState → ℕ
status_of_ends is_strict lists = status_by (list_any (λ list. is_stopped list.ending) lists) (is_faulty is_strict lists)

-- how the samples are written: as pages, as lines, or as a table that is renewed
abbrev pub form_of : Bool → Plan → ℕ → LiveForm
form_of is_terminal plan every = if is_some plan.pages then Pages else (if is_terminal then Table every else Lines)

-- wherever it may be
abbrev pub anywhere : ℕ → ℕ → Type 0
anywhere source index = Unit {0}

-- it went to its end: the lines of what was collected are written, and the status tells the endings
pub record EndsLive (is_terminal : Bool) (plan : Plan) (old new : Option (List ℕ)) (status : ℕ) (rests : List Rest) : Type 0 where
  pub lists : List ListState
  pub collected : Collects anywhere anywhere rests lists
  pub order : List ℕ
  pub ordered : IsInterleaving order (samples_of lists)
  pub gained : Appends old new (live_texts is_terminal plan (samples_of lists) order)
  pub told : status ≡ status_of_ends plan.is_strict lists

-- it failed on the way
abbrev pub FailsLive : Bool → Plan → Option (List ℕ) → Option (List ℕ) → Failure → List Rest → Type 0
FailsLive is_terminal plan old new TooManyFiles rests = ⊥
FailsLive is_terminal plan old new (Unreadable source) rests = ⊥
FailsLive is_terminal plan old new (TooLarge source) rests = ⊥
FailsLive is_terminal plan old new OutOfMemory rests = ShowsFirstOf (live_texts is_terminal plan) old new rests
FailsLive is_terminal plan old new NoThread rests = ShowsFirstOf (live_texts is_terminal plan) old new rests
FailsLive is_terminal plan old new (Unfinished source) rests = ShowsSomeOf (live_texts is_terminal plan) old new (length rests)
FailsLive is_terminal plan old new Faults rests = ⊥
FailsLive is_terminal plan old new (Output fault) rests = ShowsFirstOf (live_texts is_terminal plan) old new rests

-- the exit status of a run
abbrev pub live_status : Result ℕ Failure → ℕ
live_status (Ok status) = status
live_status (Err failure) = status_of failure

-- what the exit status says of the texts of streams, and of the output
pub record TellsTexts (is_terminal : Bool) (plan : Plan) (old new : Option (List ℕ)) (status : ℕ) (texts : List (List ℕ)) : Type 0 where
  pub shown : status ≡ 0 → AreFaultless plan.is_strict texts × ShowsAllOf (live_texts is_terminal plan) old new (read_texts plan.is_strict texts)
  pub faulty : status ≡ 1 → HasTextFault plan.is_strict texts × ShowsAllOf (live_texts is_terminal plan) old new (read_texts plan.is_strict texts)
  pub front : status ≡ 3 → ShowsFirstOf (live_texts is_terminal plan) old new (read_texts plan.is_strict texts) ⊎ ShowsSomeOf (live_texts is_terminal plan) old new (length texts)
