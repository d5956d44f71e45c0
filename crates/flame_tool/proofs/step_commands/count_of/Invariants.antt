-- how many of the words so far are the one
use Rattle.std.proofs.Common.{◌≡◌, ◌≤◌, length, map, string_bytes, take}
use Rattle.std.specs.List.{filter}
use Rattle.std.specs.Str.{bytes_eq}
use Rattle.flame_tool.proofs.step_commands.count_of.Given as goal

abbrev pub invariant-loop-word : goal.invariant-loop-word
invariant-loop-word l = record {
  counted : l.count ≡ length (filter (λ word. bytes_eq word l.path) (map string_bytes (take l.word-index l.words)));
  small : l.count ≤ l.word-index;
}
