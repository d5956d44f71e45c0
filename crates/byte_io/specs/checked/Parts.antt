-- Parts of a text, each of some pieces.
use Rattle.std.specs.Prelude.{◌≡◌, ◌≢◌, ℕ, ◌<◌, ◌≤◌, List, [], ◌∷◌, length, map, take, slice_range, Option, Result, Err, OnOk, IsErrOf}
use Rattle.std.specs.Io.KnownBytes.{Appends}
use Rattle.std.specs.List.{concat}
use Rattle.byte_io.specs.Calls.{one_more}
use Rattle.byte_io.specs.Pieces.{AppendsFront}
use Rattle.byte_io.specs.declared.piece_output.PieceFault.{PieceFault}
use Rattle.byte_io.specs.declared.piece_output.PieceFault.TheVariants.{Output}
use Rattle.byte_io.specs.declared.piece_threads.Part.{Part}
use Rattle.byte_io.specs.declared.piece_threads.Row.{Row}

-- the part has the pieces from its number on, and at least one if there is any
pub record IsPart (pieces : List (List ℕ)) (part : Part) : Type 0 where
  pub bytes : part.bytes.items ≡ concat (slice_range pieces part.from part.next)
  pub further : part.from ≤ part.next
  pub within : part.from ≤ length pieces → part.next ≤ length pieces
  pub some : part.from < length pieces → part.from < part.next

-- there are parts, and the first begins at a piece
abbrev pub BeginsAt : ℕ → List Part → Type 0
BeginsAt from [] = ⊥
BeginsAt from (part ∷ _) = part.from ≡ from

-- the parts follow one another, from a piece to a piece
abbrev pub Follow : ℕ → List Part → ℕ → Type 0
Follow from [] next = from ≡ next
Follow from (part ∷ parts) next = (part.from ≡ from) × Follow part.next parts next

-- what the parts are one after another
abbrev pub bytes_of : List Part → List ℕ
bytes_of parts = concat (map (λ part. part.bytes.items) parts)

-- the parts in front are a row, which has the pieces from a number on, and at least one if there is any
pub record IsRow (pieces : List (List ℕ)) (from : ℕ) (parts : List Part) (row : Row) : Type 0 where
  pub few : row.parts ≤ 3
  pub bytes : bytes_of (take row.parts parts) ≡ concat (slice_range pieces from row.next)
  pub within : row.next ≤ length pieces
  pub further : from < length pieces → from < row.next

-- a text went out whole, or a front of it, and a call failed just where the fault says so
abbrev pub Wrote : {T : Type 0} → Result T PieceFault → List ℕ → Option (List ℕ) → Option (List ℕ) → ℕ → ℕ → Type 0
Wrote result text old new failures_before failures = record {
  ok : OnOk result (Appends old new text);
  front : AppendsFront text old new;
  output : IsErrOf result Output → failures ≡ one_more failures_before;
  unfailed : result ≢ Err Output → failures ≡ failures_before;
}
