-- The numbers of frames' names.
use Rattle.std.specs.Prelude.{◌≡◌, ◌<◌, ◌≤◌, ◌+◌, ℕ, List, [], length, map, reverse, All, Option, Some, None, Result, IfOk, OnOk, OnErr, slice_get, slice_index_or, slice_range}
use Rattle.stack_core.specs.NamesInOrder.{with_name, with_stack}
use Rattle.stack_core.specs.Records.{names_at}
use Rattle.profile_tables.specs.declared.frame_numbers.FrameNumbers.{FrameNumbers}
use Rattle.profile_tables.specs.declared.frames.Frames.{Frames}
use Rattle.profile_messages.specs.declared.messages.Span.{Span}
use Rattle.profile_tables.specs.checked.Frames.{text_in, name_in_place, frames_at}

-- the texts of all frames
abbrev pub all_texts : Frames → List (List ℕ)
all_texts frames = map (text_in frames) frames.all.items

-- the text of the frame at a place
abbrev pub text_at : Frames → ℕ → List ℕ
text_at frames place = slice_index_or (all_texts frames) place []

-- the texts of a part of the frames, root first
abbrev pub root_first : Frames → ℕ → ℕ → List (List ℕ)
root_first frames start past = reverse (slice_range (all_texts frames) start past)

-- where the frames of a location stand
abbrev pub IsPlaceOf : Frames → ℕ → Option Span → Type 0
IsPlaceOf frames id None = frames_at frames id ≡ None
IsPlaceOf frames id (Some span) =
    (span.start ≤ span.end) × (span.end ≤ length (all_texts frames)) × (frames_at frames id ≡ Some (root_first frames span.start span.end))

-- each kept number is that of the text at its place
abbrev pub AreKept : (ℕ → List ℕ) → List (List ℕ) → List ℕ → Type 0
AreKept texts names kept =
    (place number : ℕ) → slice_index_or kept place 0 ≡ number + 1 → slice_get names number ≡ Some (texts place)

pub record AreNumbersOf (all : Frames) (numbers : FrameNumbers) : Type 0 where
  pub frames : AreKept (text_at all) numbers.table numbers.frames.numbers.items
  pub names : AreKept (name_in_place all) numbers.table numbers.names.numbers.items

-- the name was looked up, by the numbers that are kept of names
pub record IsLookUp {E : Type 0} (all : Frames) (name : List ℕ) (old new : FrameNumbers) (result : Result ℕ E) : Type 0 where
  pub known : AreKept (name_in_place all) new.table new.names.numbers.items
  pub names : OnOk result (new.table ≡ with_name old.table name)
  pub number : IfOk result (λ number. slice_get new.table number ≡ Some name)
  pub frames : new.frames ≡ old.frames
  pub refused : OnErr result (new ≡ old)

-- the row has the numbers of a stack's names, which the table has behind the names before
pub record IsNumbered (before stack names : List (List ℕ)) (row : List ℕ) : Type 0 where
  pub in_order : names ≡ with_stack before stack
  pub named : names_at names row ≡ stack
  pub within : All (λ number. number < length names) row
