-- What a live run says on standard error of its streams.
use Rattle.std.specs.Prelude.{◌≡◌, ◌≤◌, ◌<◌, ◌⊎◌, ◌++◌, ℕ, Bool, true, false, List, [], ◌∷◌, Option, None, Some, IfSome, IsNone, if◌then◌else◌, length, slice_get, take}
use Rattle.std.specs.List.{flat_map, list_any}
use Rattle.byte_io.specs.declared.piece_output.PieceFault.{PieceFault}
use Rattle.stack_core.specs.Interleaving.{count_of}
use Rattle.stack_core.specs.declared.endings.SourceEnd.{SourceEnd}
use Rattle.stack_core.specs.declared.endings.SourceEnd.TheVariants as ends
use Rattle.folded_lines.specs.Reading.{read_folded}
use Rattle.folded_lines.specs.StrictReading.{strict_fault}
use Rattle.folded_lines.specs.StrictStreams.{strict_ending_fault}
use Rattle.command_line.specs.declared.plans.Plan.{Plan}
use Rattle.source_views.specs.Failures.{IsOpening}
use Rattle.source_views.specs.Messages.{Tells, message_of_ending, message_of_failure, message_of_strict_fault}
use Rattle.source_views.specs.declared.failures.Failure.{Failure}
use Rattle.source_views.specs.declared.failures.Failure.TheVariants.{TooManyFiles, Unreadable, TooLarge, OutOfMemory, NoThread, Unfinished, Faults, Output}

-- ---- what was told

-- a text of which this holds was told, and nothing else
pub record TellsSuch (Is : List ℕ → Type 0) (old new : Option (List ℕ)) (before after : ℕ) : Type 0 where
  pub said : List ℕ
  pub is_such : Is said
  pub told : Tells said old new before after

-- ---- what is said of each, in some order

-- each of so many places once
pub record EachOnce (count : ℕ) (order : List ℕ) : Type 0 where
  pub once : (at : ℕ) → at < count → count_of at order ≡ 1
  pub no_other : (at : ℕ) → count ≤ at → count_of at order ≡ 0

-- some of them, each at most once
pub record SomeOnce (count : ℕ) (order : List ℕ) : Type 0 where
  pub once : (at : ℕ) → count_of at order ≤ 1
  pub no_other : (at : ℕ) → count ≤ at → count_of at order ≡ 0

-- what is said of what stands at a place
abbrev pub said_at : {A : Type 0} → (ℕ → A → List ℕ) → List A → ℕ → List ℕ
said_at say xs at = elim (slice_get xs at) [ None ↦ [] | Some x ↦ say at x ]

-- what is said of each of a list, one after another in some order
pub record IsSaidOfEach {A : Type 0} (say : ℕ → A → List ℕ) (xs : List A) (said : List ℕ) : Type 0 where
  pub order : List ℕ
  pub each : EachOnce (length xs) order
  pub is : said ≡ flat_map (said_at say xs) order

-- ---- where all was read

-- what there is to say of the stream of a text, by its place: its fault, or how many lines were ignored; strictly, what is wrong with it
abbrev pub message_of_text : Plan → ℕ → List ℕ → List ℕ
message_of_text plan at text = if plan.is_strict
    then message_of_strict_fault plan.files at (strict_fault text)
    else message_of_ending plan.files at (read_folded text).ending

-- that of each text was told, in the order in which the streams ended, and nothing else
abbrev pub TellsStreams : Plan → Option (List ℕ) → Option (List ℕ) → ℕ → ℕ → List (List ℕ) → Type 0
TellsStreams plan old new before after texts = TellsSuch (IsSaidOfEach (message_of_text plan) texts) old new before after

-- ---- where not all was

-- the same; but of the streams at some places, that they can't be read, or of those that were stopped since the output had failed, nothing
abbrev pub message_of_stream : Plan → (ℕ → Bool) → (ℕ → Bool) → ℕ → List ℕ → List ℕ
message_of_stream plan is_lost is_cut at text = if is_cut at
    then (if is_lost at then [] else message_of_failure plan.files (Unreadable at))
    else message_of_text plan at text

-- what is said of streams where one at least can't be read to its end
pub record IsOfUnread (plan : Plan) (texts : List (List ℕ)) (said : List ℕ) : Type 0 where
  pub is_cut : ℕ → Bool
  pub one : ℕ
  pub within : one < length texts
  pub is_unread : is_cut one ≡ true
  pub is : IsSaidOfEach (message_of_stream plan (λ _. false) is_cut) texts said

-- what is said of streams, and behind it that the output failed
pub record IsOfLost (plan : Plan) (texts : List (List ℕ)) (said : List ℕ) : Type 0 where
  pub is_lost : ℕ → Bool
  pub is_cut : ℕ → Bool
  pub fault : PieceFault
  pub first : List ℕ
  pub is_first : IsSaidOfEach (message_of_stream plan is_lost is_cut) texts first
  pub is : said ≡ first ++ message_of_failure plan.files (Output fault)

-- ---- where not all was collected

-- the source was stopped, or a read of it failed
abbrev pub is_stopped : SourceEnd → Bool
is_stopped (ends.Clean ignored) = false
is_stopped (ends.Fault fault) = false
is_stopped (ends.Stopped after) = true

-- what is said of a source, by its place, how it ended, and how many samples of it came: how it ended, or, strictly, what is wrong with it,
-- or that it could not be read to its end, unless the output failed before and stopped it
abbrev pub message_of_end : Plan → Bool → ℕ → SourceEnd × ℕ → List ℕ
message_of_end plan is_lost at end = if is_stopped end.0
    then (if is_lost then [] else message_of_failure plan.files (Unreadable at))
    else (if plan.is_strict then message_of_strict_fault plan.files at (strict_ending_fault end.1 end.0)
    else message_of_ending plan.files at end.0)

-- what is said of some of a list, each at most once
pub record IsSaidOfSome {A : Type 0} (say : ℕ → A → List ℕ) (xs : List A) (said : List ℕ) : Type 0 where
  pub order : List ℕ
  pub some : SomeOnce (length xs) order
  pub is : said ≡ flat_map (said_at say xs) order

-- of some of the streams of texts what there is to say of them
pub record IsOfFirst (plan : Plan) (texts : List (List ℕ)) (said : List ℕ) : Type 0 where
  pub is_lost : ℕ → Bool
  pub is_cut : ℕ → Bool
  pub is : IsSaidOfSome (message_of_stream plan is_lost is_cut) texts said

-- what is said of some of so many streams, each at most once, which ended so
pub record IsOfSome (plan : Plan) (count : ℕ) (said : List ℕ) : Type 0 where
  pub ends : ℕ → SourceEnd × ℕ
  pub is_lost : ℕ → Bool
  pub order : List ℕ
  pub some : SomeOnce count order
  pub is : said ≡ flat_map (λ at. message_of_end plan (is_lost at) at (ends at)) order

-- how many streams there are: one of each file, or the input where there is no file
abbrev pub stream_count : List (List ℕ) → ℕ
stream_count [] = 1
stream_count (file ∷ files) = length (file ∷ files)

-- how some streams ended; over texts that are known, what there is to say of some of them
abbrev pub IsOfEnded : Plan → Option (List (List ℕ)) → List ℕ → Type 0
IsOfEnded plan None said = IsOfSome plan (stream_count plan.files) said
IsOfEnded plan (Some texts) said = IsOfFirst plan texts said

-- what is said before a run fails so: nothing where a stream was not opened, and where not all was collected how some of them ended before
abbrev pub IsSaidBefore : Plan → Option (List (List ℕ)) → Failure → List ℕ → Type 0
IsSaidBefore plan known TooManyFiles said = ⊥
IsSaidBefore plan known (Unreadable source) said = said ≡ []
IsSaidBefore plan known (TooLarge source) said = said ≡ []
IsSaidBefore plan known OutOfMemory said = IsOfEnded plan known said
IsSaidBefore plan known NoThread said = IsOfEnded plan known said
IsSaidBefore plan known (Unfinished source) said = IsOfSome plan (stream_count plan.files) said
IsSaidBefore plan known Faults said = ⊥
IsSaidBefore plan known (Output fault) said = ⊥

-- that, and behind it the message of the failure
pub record IsOfEarly (plan : Plan) (known : Option (List (List ℕ))) (said : List ℕ) : Type 0 where
  pub failure : Failure
  pub first : List ℕ
  pub is_first : IsSaidBefore plan known failure first
  pub is : said ≡ first ++ message_of_failure plan.files failure

-- where a file can't be opened, no file before it is known to be absent, and nothing is known of its bytes
abbrev pub IsMissing : (List ℕ → Bool) → (List ℕ → Option (List ℕ)) → List (List ℕ) → Failure → Type 0
IsMissing absent known files TooManyFiles = Unit {0}
IsMissing absent known files (Unreadable source) =
    (list_any absent (take source files) ≡ false) × IfSome (slice_get files source) (λ path. IsNone (known path))
IsMissing absent known files (TooLarge source) = Unit {0}
IsMissing absent known files OutOfMemory = Unit {0}
IsMissing absent known files NoThread = Unit {0}
IsMissing absent known files (Unfinished source) = Unit {0}
IsMissing absent known files Faults = Unit {0}
IsMissing absent known files (Output fault) = Unit {0}

-- a stream of these files was not opened, the first that is missing, or for want of memory; or they are too many
abbrev pub IsUnopened : (List ℕ → Bool) → (List ℕ → Option (List ℕ)) → List (List ℕ) → Failure → Type 0
IsUnopened absent known files failure = IsOpening (length files) failure × IsMissing absent known files failure

-- the message of such a failure
pub record IsOfFailure (Is : Failure → Type 0) (files : List (List ℕ)) (said : List ℕ) : Type 0 where
  pub failure : Failure
  pub is_such : Is failure
  pub is : said ≡ message_of_failure files failure

-- ---- why a run failed

-- why a run failed with status 3 was told: where not all was collected alone, or behind how some streams ended; or, over texts that are
-- known, in its place among what is said of the streams, or behind it
abbrev pub TellsLiveFailure : Plan → Option (List (List ℕ)) → Option (List ℕ) → Option (List ℕ) → ℕ → ℕ → Type 0
TellsLiveFailure plan known old new before after =
    TellsSuch (IsOfEarly plan known) old new before after
    ⊎ IfSome known (λ texts. TellsSuch (λ said. IsOfUnread plan texts said ⊎ IsOfLost plan texts said) old new before after)
