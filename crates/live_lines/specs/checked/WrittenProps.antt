-- What was written is a fact that has one proof at most, so it may be a ghost field.
use Rattle.std.specs.Prelude.{ℕ, List, Option, None, Some}
use Rattle.std.specs.Io.KnownBytes.{Appends}
use Rattle.std.proofs.Props.{props}
use Rattle.byte_io.specs.declared.piece_output.PieceFault.{PieceFault}
use Rattle.live_lines.specs.Written.{GrewByFront, GrewByText}

pub Appends_prop : (old new : Option (List ℕ)) (bytes : List ℕ) → IsProp (Appends old new bytes)
Appends_prop None new bytes = Prim.hlevel props
Appends_prop (Some xs) None bytes = Prim.hlevel props
Appends_prop (Some xs) (Some ys) bytes = Prim.hlevel props

pub text_prop : (failure : Option PieceFault) (text : List ℕ) (old new : Option (List ℕ)) → IsProp (GrewByText failure text old new)
text_prop failure text old new = Prim.hlevel Appends_prop

pub front_prop : (text : List ℕ) (old new : Option (List ℕ)) → IsProp (GrewByFront text old new)
front_prop text old new = Prim.hlevel Appends_prop
