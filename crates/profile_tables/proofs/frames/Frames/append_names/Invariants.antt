use Rattle.std.proofs.Common.{◌≡◌, ◌++◌, length, map, reverse}
use Rattle.std.specs.Prelude.{string_bytes}
use Rattle.profile_tables.specs.checked.Frames.{text_in}
use Rattle.profile_tables.proofs.frames.Frames.append_names.Given as goal

abbrev pub invariant-loop-frame : goal.invariant-loop-frame
invariant-loop-frame l =
    map string_bytes l.stack.items ++ reverse (map (text_in l.self) l.left)
    ≡ map string_bytes l.fn.stack.items ++ reverse (map (text_in l.self) l.leaf_first)

abbrev pub decreases-loop-frame : goal.decreases-loop-frame
decreases-loop-frame l = length l.left
