-- What is written of lines.
use Rattle.std.specs.Prelude.{◌≡◌, ℕ, List, Option}
use Rattle.byte_io.specs.declared.piece_output.PieceFault.{PieceFault}
use Rattle.live_lines.specs.Written.{GrewByFront, GrewByText, failures_after}

-- since an outlet stood at old, with so many failed calls before, it gained the text of the lines, or a front of it after a failure
pub record AreWritten (text : List ℕ) (failure : Option PieceFault) (old new : Option (List ℕ)) (before after : ℕ) : Type 0 where
  pub whole : GrewByText failure text old new
  pub front : GrewByFront text old new
  pub counted : after ≡ failures_after before failure
