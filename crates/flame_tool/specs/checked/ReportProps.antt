-- What was said is a fact that has one proof at most, so it may be a ghost field.
use Rattle.std.specs.Prelude.{ℕ, List, Option}
use Rattle.std.proofs.Props.{props}
use Rattle.live_lines.specs.checked.WrittenProps.{Appends_prop}
use Rattle.flame_tool.specs.checked.EndReports.{TellsUnlessFailed}

pub unless_prop : (text : List ℕ) (old new : Option (List ℕ)) (before after : ℕ) → IsProp (TellsUnlessFailed text old new before after)
unless_prop text old new before after = Prim.hlevel (props, Appends_prop)
