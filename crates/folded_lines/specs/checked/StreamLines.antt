-- Lines of a stream, some bytes of which were read and not given.
use Rattle.std.specs.Prelude.{◌≡◌, ◌≤◌, ◌<◌, ◌-◌, ◌&&◌, ℕ, Bool, true, false, List, [], ◌++◌, length, take, slice_index, Option, Some, None}
use Rattle.std.specs.Io.KnownBytes.{Consumes, IsAtEnd, Keeps}
use Rattle.bstr.specs.Text.{line_len, without_terminator}
use Rattle.folded_lines.specs.Line.{Line}
use Rattle.folded_lines.specs.Reading.{is_ignored}
use Rattle.folded_lines.specs.Streams.{Coming, MayCome}
use Rattle.folded_lines.specs.declared.stream_lines.FoundLine.{FoundLine}
use Rattle.folded_lines.specs.declared.stream_lines.StreamLines.{StreamLines}
use Rattle.folded_lines.specs.declared.stream_lines.StreamState.{StreamState}
use Rattle.folded_lines.specs.declared.stream_lines.StreamState.TheVariants.{Open, Ended, Failed}

-- the bytes that were read and not given
abbrev pub unread_of : {I : Type 0} → StreamLines I → List ℕ
unread_of lines = lines.buffer

-- what may come of a stream, by whether more may come
abbrev pub StateMayCome : StreamState → Option (List ℕ) → Bool → List ℕ → Coming → Type 0
StateMayCome Open known is_sure unread coming = MayCome known is_sure unread coming
StateMayCome Ended known is_sure unread coming = (coming.fails ≡ false) × (coming.bytes ≡ unread)
StateMayCome Failed known is_sure unread coming = (coming.fails ≡ true) × (coming.bytes ≡ [])

abbrev pub LinesMayCome : {I : Type 0} → Option (List ℕ) → Bool → StreamLines I → Coming → Type 0
LinesMayCome known is_sure lines coming = StateMayCome lines.state known is_sure (unread_of lines) coming

-- a line of so many bytes ends in LF, unless it is the last
abbrev pub EndsBy : StreamState → List ℕ → ℕ → Type 0
EndsBy Open unread next = slice_index unread (next - 1) ≡ 10
EndsBy Ended unread next = Unit {0}
EndsBy Failed unread next = ⊥

-- a line stands at the front of what was read
pub record IsLineAt (state : StreamState) (unread : List ℕ) (found : FoundLine) : Type 0 where
  pub some : 0 < length unread
  pub next : found.next ≡ line_len unread
  pub within : found.len ≤ length unread
  pub text : take found.len unread ≡ without_terminator (take (line_len unread) unread)
  pub ends : EndsBy state unread found.next

abbrev pub IsLineOf : {I : Type 0} → StreamLines I → FoundLine → Type 0
IsLineOf lines found = IsLineAt lines.state (unread_of lines) found

-- the bytes of a line that was found
abbrev pub line_of_found : {I : Type 0} → StreamLines I → FoundLine → List ℕ
line_of_found lines found = take found.len (unread_of lines)

-- no line is left
abbrev pub HasNoneIn : StreamState → List ℕ → Type 0
HasNoneIn Open unread = ⊥
HasNoneIn Ended unread = unread ≡ []
HasNoneIn Failed unread = Unit {0}

abbrev pub HasNone : {I : Type 0} → StreamLines I → Type 0
HasNone lines = HasNoneIn lines.state (unread_of lines)

-- a line that is ignored closes lines that are read strictly
abbrev pub closes : Bool → Line → Bool
closes is_strict line = is_strict && is_ignored line

-- nothing more comes of them
pub record IsClosed {I : Type 0} (lines : StreamLines I) : Type 0 where
  pub state : lines.state ≡ Ended
  pub none : unread_of lines ≡ []

-- a read brings so many bytes, none at the end, or fails
abbrev pub Brings : Option (List ℕ) → Option (List ℕ) → Bool → List ℕ → Option ℕ → List ℕ → Type 0
Brings known known' is_sure unread None unread' = (is_sure ≡ false) × Keeps known known' × (unread' ≡ unread)
Brings known known' is_sure unread (Some count) unread' =
    (came : List ℕ) × (unread' ≡ unread ++ came) × (length came ≡ count) × Consumes known known' came × (count ≡ 0 → IsAtEnd known')
