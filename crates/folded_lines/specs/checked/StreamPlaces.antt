-- Places between the lines of a stream.
use Rattle.std.specs.Prelude.{◌≡◌, ◌<◌, ◌≤◌, ◌^◌, ℕ, ◌+◌, Bool, true, List, length, Option, Some, None}
use Rattle.sample_tables.specs.declared.samples.TheConstants.{WEIGHT_LIMIT}
use Rattle.stack_core.specs.Reading.{Rest}
use Rattle.stack_core.specs.declared.endings.SourceEnd.{SourceEnd}
use Rattle.stack_core.specs.declared.readers.RowStep.{RowStep}
use Rattle.stack_core.specs.declared.readers.RowStep.TheVariants as step
use Rattle.folded_lines.specs.Lines.{text_lines}
use Rattle.folded_lines.specs.Streams.{Coming}
use Rattle.folded_lines.specs.declared.cursor.Cursor.{Cursor}
use Rattle.folded_lines.specs.declared.stream_lines.StreamLines.{StreamLines}
use Rattle.folded_lines.specs.declared.stream_steps.TheConstants.{LINE_LIMIT}
use Rattle.folded_lines.specs.checked.Scanning.{ended}
use Rattle.folded_lines.specs.checked.StreamLines.{LinesMayCome}
use Rattle.folded_lines.specs.checked.StreamReading.{rest_of}

-- the lines of what comes can be counted behind those before
abbrev pub CountsBehind : Cursor → Coming → Type 0
CountsBehind counts coming = counts.taken + length (text_lines coming.bytes) < 2 ^ 64

-- the rests that may be given from a place on
abbrev pub GivesAt : {I : Type 0} → Option (List ℕ) → Bool → StreamLines I → Cursor → Rest → Type 0
GivesAt known is_sure lines counts rest =
    (coming : Coming) × LinesMayCome known is_sure lines coming × CountsBehind counts coming
    × (rest ≡ rest_of lines.is_strict counts coming)

-- a place that a reader may have come to; where no read fails, all that may come can be counted
pub record IsStreamPlace {I : Type 0} (known : Option (List ℕ)) (is_sure : Bool) (lines : StreamLines I) (counts : Cursor) : Type 0 where
  pub taken : counts.taken ≤ LINE_LIMIT
  pub ignored : counts.ignored ≤ counts.taken
  pub total : counts.total ≤ WEIGHT_LIMIT
  pub countable : is_sure ≡ true → (coming : Coming) → LinesMayCome known is_sure lines coming → CountsBehind counts coming

-- those that may be given behind a step: an ending stays
abbrev pub GivesBehind : RowStep → (Rest → Type 0) → Rest → Type 0
GivesBehind (step.New names frames weight) gives rest = gives rest
GivesBehind (step.Again row weight) gives rest = gives rest
GivesBehind (step.End ending) gives rest = rest ≡ ended ending

-- the ending that a step answers
abbrev pub ending_of : RowStep → Option SourceEnd
ending_of (step.New names frames weight) = None
ending_of (step.Again row weight) = None
ending_of (step.End ending) = Some ending

-- before the ending was answered, and behind it
abbrev pub GivesBy : {I : Type 0} → Option (List ℕ) → Bool → StreamLines I → Cursor → Option SourceEnd → Rest → Type 0
GivesBy known is_sure lines counts None rest = GivesAt known is_sure lines counts rest
GivesBy known is_sure lines counts (Some ending) rest = rest ≡ ended ending
