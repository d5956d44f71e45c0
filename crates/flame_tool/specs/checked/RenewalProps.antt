-- Where a draft is to go is a fact that has one proof at most, so it may be a ghost field.
use Rattle.std.specs.Prelude.{ℕ, List}
use Rattle.std.proofs.Props.{props}
use Rattle.flame_tool.specs.checked.Renewals.{IsAt}
use Rattle.flame_tool.specs.declared.renewed_file.Renewal.{Renewal}
use Rattle.flame_tool.specs.declared.renewed_file.Renewal.TheVariants.{Between, Begun, Failed}

pub at_prop : {W : Type 0} (path : List ℕ) (renewal : Renewal W) → IsProp (IsAt path renewal)
at_prop path Between = Prim.hlevel props
at_prop path (Begun draft) = Prim.hlevel props
at_prop path (Failed written) = Prim.hlevel props
