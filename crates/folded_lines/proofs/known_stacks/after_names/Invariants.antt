-- the names so far, joined, stand before what is left
use Rattle.std.proofs.Common.{◌≡◌, ◌<◌, ◌++◌, All, length, take}
use Rattle.std.specs.List.{join_with_byte}
use Rattle.stack_core.specs.Records.{names_at}
use Rattle.folded_lines.proofs.known_stacks.after_names.Given as goal

abbrev pub invariant-loop-index : goal.invariant-loop-index
invariant-loop-index l = record {
  numbers : All (λ k. k < length l.names) (take l.index l.numbers);
  spelled : l.head ≡ join_with_byte 59 (names_at l.names (take l.index l.numbers)) ++ l.rest;
}
