-- Folded text that comes by a stream, of which bytes may still come.
use Rattle.std.specs.Prelude.{◌≡◌, ◌≢◌, ◌↔◌, ◌<◌, ◌^◌, ℕ, Bool, true, false, if◌then◌else◌, List, [], ◌++◌, length, Option, Some, IfSome, IsSomeAnd}
use Rattle.sample_tables.specs.Rows.{ToldRows}
use Rattle.stack_core.specs.Prefixes.{IsPrefixOf}
use Rattle.stack_core.specs.Reading.{IsSourceLimited, Rest}
use Rattle.stack_core.specs.RowReading.{GivesSome}
use Rattle.stack_core.specs.declared.endings.SourceEnd.{SourceEnd}
use Rattle.stack_core.specs.declared.endings.SourceEnd.TheVariants as ends
use Rattle.folded_lines.specs.Lines.{text_lines}
use Rattle.folded_lines.specs.Reading.{read_folded}
use Rattle.folded_lines.specs.TextParts.{IsWholeLines}

-- what comes of a stream: bytes, up to its end or up to a read that fails
pub record Coming : Type 0 where
  pub bytes : List ℕ
  pub fails : Bool

-- What may come of a stream, some bytes of which were read and not given: they and then others, which are the known ones where those are known. Where a read fails, unless none can,
-- only lines that are whole count, off the front of them
pub record MayCome (known : Option (List ℕ)) (is_sure : Bool) (unread : List ℕ) (coming : Coming) : Type 0 where
  pub later : List ℕ
  pub of_known : IfSome known (λ known. later ≡ known)
  pub whole : coming.fails ≡ false → coming.bytes ≡ unread ++ later
  pub failing : coming.fails ≡ true → (is_sure ≡ false) × IsWholeLines coming.bytes × IsPrefixOf coming.bytes (unread ++ later)

-- samples end where a read fails, unless a fault ended them before: the ending counts the samples
abbrev pub ending_at_failure : ℕ → SourceEnd → SourceEnd
ending_at_failure count (ends.Clean ignored) = ends.Stopped count
ending_at_failure count (ends.Fault fault) = ends.Fault fault
ending_at_failure count (ends.Stopped after) = ends.Stopped after

abbrev pub at_failure : Rest → Rest
at_failure rest = record { samples = rest.samples; ending = ending_at_failure (length rest.samples) rest.ending }

-- how what comes reads
abbrev pub read_coming : Coming → Rest
read_coming coming = if coming.fails then at_failure (read_folded coming.bytes) else read_folded coming.bytes

-- the lines can be counted in 64 bits
abbrev pub IsCountable : Coming → Type 0
IsCountable coming = length (text_lines coming.bytes) < 2 ^ 64

-- the rests that a reader of a stream may give before it read anything
abbrev pub StreamGives : Option (List ℕ) → Bool → Rest → Type 0
StreamGives known is_sure rest = (coming : Coming) × MayCome known is_sure [] coming × IsCountable coming × (rest ≡ read_coming coming)

-- where no read fails, the bytes are known and fewer than 2^64
abbrev pub IsReadable : Option (List ℕ) → Bool → Type 0
IsReadable known is_sure = is_sure ≡ true → IsSomeAnd known (λ bytes. length bytes < 2 ^ 64)

-- a reader of a stream of which nothing was read: the rests that it may give are those that are possible, and it told nothing
pub record IsUnreadStream (may_give : Rest → Type 0) (has_told : ToldRows) (IsPossible : Rest → Type 0) : Type 0 where
  pub gives : (rest : Rest) → may_give rest ↔ IsPossible rest
  pub told : has_told ≡ record { names = []; stacks = [] }

-- What comes by a stream of known bytes is what they give by `read`, unless a read fails. Then the samples are those in front of theirs. A
-- stream may always give something, where a read may fail, or its bytes are known and fewer than 2^64.
pub record ReadsAsTexts (Gives : Option (List ℕ) → Bool → Rest → Type 0) (read : List ℕ → Rest) : Type 0 where
  pub sure : (bytes : List ℕ) (rest : Rest) → Gives (Some bytes) true rest → rest ≡ read bytes
  pub whole : (bytes : List ℕ) (is_sure : Bool) (rest : Rest) → Gives (Some bytes) is_sure rest
      → ((after : ℕ) → rest.ending ≢ ends.Stopped after) → rest ≡ read bytes
  pub front : (bytes : List ℕ) (is_sure : Bool) (rest : Rest) → Gives (Some bytes) is_sure rest
      → IsPrefixOf rest.samples (read bytes).samples
  pub possible : (known : Option (List ℕ)) (is_sure : Bool) → IsReadable known is_sure → GivesSome (Gives known is_sure)
  pub limits : (known : Option (List ℕ)) (is_sure : Bool) (rest : Rest) → Gives known is_sure rest → IsSourceLimited rest.samples
