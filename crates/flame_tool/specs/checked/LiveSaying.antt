-- What was told of what was collected of streams, and what that says of their texts.
use Rattle.std.specs.Prelude.{◌≡◌, ◌≤◌, ◌⊎◌, ◌-◌, ◌^◌, ℕ, Bool, true, false, All, List, [], ◌∷◌, Some, length, min, slice_get}
use Rattle.std.specs.List.{flat_map}
use Rattle.stack_core.specs.Interleaving.{of_source}
use Rattle.stack_core.specs.Ledgers.{ListState}
use Rattle.stack_core.specs.Reading.{Rest}
use Rattle.stack_core.specs.Told.{IsCollected}
use Rattle.stack_core.specs.declared.endings.SourceEnd.{SourceEnd}
use Rattle.folded_lines.specs.StrictStreams.{IsTellable}
use Rattle.command_line.specs.declared.plans.Plan.{Plan}
use Rattle.ring_collect.specs.Collection.{Collects, EndOfSource}
use Rattle.source_views.specs.Messages.{said_of_each}
use Rattle.source_views.specs.declared.failures.Failure.{Failure}
use Rattle.source_views.specs.declared.failures.Failure.TheVariants.{TooManyFiles, Unreadable, TooLarge, OutOfMemory, NoThread, Unfinished, Faults, Output}
use Rattle.live_lines.specs.Ends.{ToldEnd, heard_of_each}
use Rattle.flame_tool.specs.ToldLive.{IsOfFirst, IsOfUnread, IsSaidOfEach, message_of_end, message_of_stream, message_of_text}
use Rattle.flame_tool.specs.checked.LiveEnds.{anywhere, status_of_ends}

-- ---- ends

-- the place behind so many samples, as it is said, is a number of 64 bits
abbrev pub tellable_count : ℕ → ℕ
tellable_count count = min count (2 ^ 64 - 2)

-- what is said of a source that ended so, behind so many samples
abbrev pub message_of_counted : Plan → Bool → ℕ → SourceEnd × ℕ → List ℕ
message_of_counted plan is_lost at end = message_of_end plan is_lost at (end.0, tellable_count end.1)

-- that of each source, in order
abbrev pub said_of_ends : Plan → Bool → List (SourceEnd × ℕ) → List ℕ
said_of_ends plan is_lost ends = said_of_each (message_of_counted plan is_lost) 0 ends

-- and of the ends that were told, in the order in which they were
abbrev pub said_of_told : Plan → List ToldEnd → List ℕ
said_of_told plan told = flat_map (λ end. message_of_counted plan end.is_lost end.source (end.ending, end.count)) told

-- of so many sources at most one end each was told
pub record AreSomeTold (count : ℕ) (told : List ToldEnd) : Type 0 where
  pub once : (source : ℕ) → length (of_source source (heard_of_each told)) ≤ 1
  pub no_other : (source : ℕ) → count ≤ source → of_source source (heard_of_each told) ≡ []

-- of a source with this rest nothing was told, or how it ended, behind all that was collected of it
abbrev pub IsEndTold : ℕ → Rest → List EndOfSource → Type 0
IsEndTold source rest ends = (ends ≡ []) ⊎ ((list : Rest) × IsCollected anywhere anywhere source rest list × (ends ≡ (list.ending, length list.samples) ∷ []))

-- so of each of sources with these rests
pub record AreFirstTold (told : List ToldEnd) (rests : List Rest) : Type 0 where
  pub each : (source : ℕ) (rest : Rest) → slice_get rests source ≡ Some rest → IsEndTold source rest (of_source source (heard_of_each told))
  pub no_other : (source : ℕ) → length rests ≤ source → of_source source (heard_of_each told) ≡ []

-- ---- lists

-- how a list ended, and how many samples it has
abbrev pub end_of : ListState → SourceEnd × ℕ
end_of list = (list.ending, length list.samples)

abbrev pub message_of_list : Plan → (ℕ → Bool) → ℕ → ListState → List ℕ
message_of_list plan is_lost at list = message_of_end plan (is_lost at) at (end_of list)

-- the end of each list was told, once
pub record AreTold (lists : List ListState) (told : List ToldEnd) : Type 0 where
  pub each : (source : ℕ) (list : ListState) → slice_get lists source ≡ Some list → of_source source (heard_of_each told) ≡ end_of list ∷ []
  pub no_other : (source : ℕ) → length lists ≤ source → of_source source (heard_of_each told) ≡ []

-- the place of what is wrong with a list that was read strictly is a number of 64 bits
abbrev pub IsTellableList : Bool → ListState → Type 0
IsTellableList is_strict list = is_strict ≡ true → IsTellable (length list.samples) list.ending

-- ---- what was told

-- such a text was
pub record SaysSuch (Is Says : List ℕ → Type 0) : Type 0 where
  pub said : List ℕ
  pub is_such : Is said
  pub says : Says said

-- what was told of lists that were collected, which ended so
pub record SaysOfLists (plan : Plan) (is_lost : ℕ → Bool) (Says : List ℕ → Type 0) (Ends : List ListState → Type 0) (rests : List Rest) : Type 0 where
  pub lists : List ListState
  pub collected : Collects anywhere anywhere rests lists
  pub ended : Ends lists
  pub said : List ℕ
  pub is : All (IsTellableList plan.is_strict) lists → IsSaidOfEach (message_of_list plan is_lost) lists said
  pub says : Says said

-- of a run that went to its end, with the exit status that tells the endings
abbrev pub SaysEnds : Plan → (List ℕ → Type 0) → ℕ → List Rest → Type 0
SaysEnds plan Says status rests = SaysOfLists plan (λ _. false) Says (λ lists. status ≡ status_of_ends plan.is_strict lists) rests

-- of a run whose output failed, before its last line or there
abbrev pub SaysLost : Plan → (List ℕ → Type 0) → List Rest → Type 0
SaysLost plan Says rests = (is_lost : ℕ → Bool) × SaysOfLists plan is_lost Says (λ lists. Unit {0}) rests

-- of a run that failed before all was collected
pub record SaysFirst (plan : Plan) (Says : List ℕ → Type 0) (rests : List Rest) : Type 0 where
  pub told : List ToldEnd
  pub are : AreFirstTold told rests
  pub says : Says (said_of_told plan told)

-- the same of texts
pub record SaidOfEnds (plan : Plan) (Says : List ℕ → Type 0) (status : ℕ) (texts : List (List ℕ)) : Type 0 where
  pub low : status ≤ 1 → SaysSuch (IsSaidOfEach (message_of_text plan) texts) Says
  pub unread : status ≡ 3 → SaysSuch (IsOfUnread plan texts) Says

abbrev pub SaidOfLost : Plan → (List ℕ → Type 0) → List (List ℕ) → Type 0
SaidOfLost plan Says texts = (is_lost : ℕ → Bool) × (is_cut : ℕ → Bool) × SaysSuch (IsSaidOfEach (message_of_stream plan is_lost is_cut) texts) Says

abbrev pub SaidOfFirst : Plan → (List ℕ → Type 0) → List (List ℕ) → Type 0
SaidOfFirst plan Says texts = SaysSuch (IsOfFirst plan texts) Says

-- before a failure nothing was told where a stream was not opened, and some where not all was collected; and a fault is none
abbrev pub SaidFirst : Type 0 → Type 0 → Type 0 → Type 0 → Failure → Type 0
SaidFirst untold some first lost TooManyFiles = untold
SaidFirst untold some first lost (Unreadable source) = untold
SaidFirst untold some first lost (TooLarge source) = untold
SaidFirst untold some first lost OutOfMemory = some × first
SaidFirst untold some first lost NoThread = some × first
SaidFirst untold some first lost (Unfinished source) = some
SaidFirst untold some first lost Faults = ⊥
SaidFirst untold some first lost (Output fault) = lost
