-- those so far and those of what is left are all
use Rattle.std.proofs.Common.{◌≡◌, ◌+◌, ◌≤◌, drop}
use Rattle.function_sums.specs.Columns.{characters}
use Rattle.function_sums.proofs.entries.characters.Given as goal

abbrev pub invariant-loop-byte : goal.invariant-loop-byte
invariant-loop-byte l = record {
  all : l.count + characters (drop l.byte-index l.text) ≡ characters l.text;
  few : l.count ≤ l.byte-index;
}
