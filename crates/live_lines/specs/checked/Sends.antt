-- What an outlet gained of a text that was sent.
use Rattle.std.specs.Prelude.{◌≡◌, ◌≢◌, ℕ, List, Option, Result, Err, IsErrOf, OnErr, OnOk}
use Rattle.std.specs.Io.KnownBytes.{Appends}
use Rattle.byte_io.specs.Calls.{one_more}
use Rattle.byte_io.specs.Pieces.{AppendsFront}
use Rattle.byte_io.specs.declared.piece_output.PieceFault.{PieceFault}
use Rattle.byte_io.specs.declared.piece_output.PieceFault.TheVariants.{Output}

-- it went out whole and was handed on, or a front of it did; one call more failed exactly where the output did
pub record WasSent (text : List ℕ) (result : Result (Unit {0}) PieceFault) (old new : Option (List ℕ))
    (before after : ℕ) (is_flushed : Type 0) : Type 0 where
  pub ok : OnOk result (Appends old new text)
  pub flushed : OnOk result is_flushed
  pub front : OnErr result (AppendsFront text old new)
  pub output : IsErrOf result Output → after ≡ one_more before
  pub unfailed : result ≢ Err Output → after ≡ before
