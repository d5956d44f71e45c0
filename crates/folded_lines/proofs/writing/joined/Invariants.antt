-- the names so far, joined
use Rattle.std.proofs.Common.{◌≡◌, map, take, string_bytes}
use Rattle.std.specs.List.{join_with_byte}
use Rattle.folded_lines.proofs.writing.joined.Given as goal

abbrev pub invariant-loop-i : goal.invariant-loop-i
invariant-loop-i l = l.text.items ≡ join_with_byte 59 (map string_bytes (take l.i l.stack))
