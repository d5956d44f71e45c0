-- The streams of a live run, opened, and what readers of them may give.
use Rattle.std.specs.Prelude.{◌≡◌, ◌≢◌, ℕ, Bool, true, false, List, [], ◌∷◌, Option, IfSome, length}
use Rattle.std.specs.List.{AllZip}
use Rattle.stack_core.specs.Prefixes.{IsPrefixOf}
use Rattle.stack_core.specs.Reading.{Rest}
use Rattle.stack_core.specs.declared.endings.SourceEnd.TheVariants as ends
use Rattle.folded_lines.specs.StrictStreams.{IsTellable, StrictStreamGives}
use Rattle.folded_lines.specs.Streams.{StreamGives}
use Rattle.flame_tool.specs.LiveRuns.{read_text}

-- what a reader of a stream may give
abbrev pub GivesStream : Bool → Option (List ℕ) → Bool → Rest → Type 0
GivesStream false known is_sure rest = StreamGives known is_sure rest
GivesStream true known is_sure rest = StrictStreamGives known is_sure rest

-- what a stream of the text may give: all that the text reads to, unless a read failed, and then the first samples of it; the place of what
-- is wrong is a number of 64 bits
pub record ReadsAs (is_strict : Bool) (text : List ℕ) (rest : Rest) : Type 0 where
  pub whole : ((after : ℕ) → rest.ending ≢ ends.Stopped after) → rest ≡ read_text is_strict text
  pub first : IsPrefixOf rest.samples (read_text is_strict text).samples
  pub tellable : is_strict ≡ true → IsTellable (length rest.samples) rest.ending

-- a reader of such a stream
abbrev pub ReadsText : Bool → (Rest → Type 0) → List ℕ → Type 0
ReadsText is_strict gives text = (rest : Rest) → gives rest → ReadsAs is_strict text rest

-- the one reader of the input
abbrev pub IsOfInput : {R : Type 0} → Bool → (R → Rest → Type 0) → List R → List ℕ → Type 0
IsOfInput is_strict gives [] text = ⊥
IsOfInput is_strict gives (reader ∷ []) text = ReadsText is_strict (gives reader) text
IsOfInput is_strict gives (reader ∷ another ∷ more) text = ⊥

-- the reader of the file of a path
abbrev pub IsOfFile : {R : Type 0} → Bool → (R → Rest → Type 0) → (List ℕ → Option (List ℕ)) → List ℕ → R → Type 0
IsOfFile is_strict gives files path reader = IfSome (files path) (ReadsText is_strict (gives reader))

-- a reader of each path, in order, or of the input where there is no path
abbrev pub AreOpened : {R : Type 0} → Bool → (R → Rest → Type 0) → Option (List ℕ) → (List ℕ → Option (List ℕ)) → List (List ℕ) → List R → Type 0
AreOpened is_strict gives input files [] readers = IfSome input (IsOfInput is_strict gives readers)
AreOpened is_strict gives input files (path ∷ paths) readers = AllZip (IsOfFile is_strict gives files) (path ∷ paths) readers
