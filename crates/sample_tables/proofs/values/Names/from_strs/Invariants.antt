use Rattle.std.proofs.Common.{◌≡◌, map, take, string_bytes}
use Rattle.sample_tables.proofs.values.Names.from_strs.Given as goal

abbrev pub invariant-loop-name : goal.invariant-loop-name
invariant-loop-name l =
    map string_bytes l.plain.items ≡ map (λ name. name.now) (take l.name-index l.names)
