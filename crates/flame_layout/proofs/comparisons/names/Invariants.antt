use Rattle.std.proofs.Common.{◌≡◌, take, map, string_bytes}
use Rattle.flame_layout.specs.checked.Paired.{names_now}
use Rattle.flame_layout.proofs.comparisons.names.Given as goal

abbrev pub invariant-loop-name : goal.invariant-loop-name
invariant-loop-name l = map string_bytes l.names.items ≡ names_now (take l.name-index l.path)
