-- the numbers so far
use Rattle.std.proofs.Common.{◌≡◌, ◌++◌, false, map, take}
use Rattle.view_texts.specs.Json.{whole_number}
use Rattle.view_texts.proofs.JsonLists.{values_text}
use Rattle.view_texts.proofs.json_pieces.append_numbers.Given as goal

abbrev pub invariant-loop-i : goal.invariant-loop-i
invariant-loop-i l = l.out.items ≡ l.initial.out.items ++ values_text false (map whole_number (take l.i l.numbers))
