-- What stands in an outlet, and how many of its calls failed, since lines were written to it.
use Rattle.std.specs.Prelude.{◌≡◌, ℕ, ◌-◌, List, Option, None, Some, length, take}
use Rattle.std.specs.Io.KnownBytes.{Appends}
use Rattle.byte_io.specs.Calls.{one_more}
use Rattle.byte_io.specs.declared.piece_output.PieceFault.{PieceFault}
use Rattle.byte_io.specs.declared.piece_output.PieceFault.TheVariants as piece

-- by how many bytes known ones grew
abbrev pub grown_by : Option (List ℕ) → Option (List ℕ) → ℕ
grown_by None new = 0
grown_by (Some xs) None = 0
grown_by (Some xs) (Some ys) = length ys - length xs

-- known bytes grew by a front of the text
abbrev pub GrewByFront : List ℕ → Option (List ℕ) → Option (List ℕ) → Type 0
GrewByFront text old new = Appends old new (take (grown_by old new) text)

-- known bytes grew by the whole text, unless writing failed
abbrev pub GrewByText : Option PieceFault → List ℕ → Option (List ℕ) → Option (List ℕ) → Type 0
GrewByText failure text old new = failure ≡ None → Appends old new text

-- how many calls failed, where the output may have failed once
abbrev pub failures_after : ℕ → Option PieceFault → ℕ
failures_after before None = before
failures_after before (Some piece.OutOfMemory) = before
failures_after before (Some piece.Output) = one_more before
