use Rattle.std.proofs.Common.{◌≡◌, ◌≤◌, ◌+◌, All, map, length}
use Rattle.std.specs.Arc.{arc_value}
use Rattle.stack_core.specs.Parts.{ReadsInParts}
use Rattle.profile_tables.specs.State.{State}
use Rattle.profile_tables.specs.checked.PartReaders.{IsPartReader}
use Rattle.profile_tables.specs.checked.Rests.{rest_from}
use Rattle.profile_tables.proofs.row_reader.parts.readers_of_parts.Given as goal

abbrev pub invariant-loop-left : goal.invariant-loop-left
invariant-loop-left l = record {
  parts : ReadsInParts (rest_from l.bytes (arc_value l.whole.outline) l.given 0 0) (map (λ (reader : State). reader.rest) l.readers.items);
  readers : All (IsPartReader l.bytes l.pick) l.readers.items;
  count : length l.readers.items + l.left ≡ l.count;
  within : l.given ≤ l.whole.past;
  all : l.left ≡ 0 → l.given ≡ l.whole.past;
}

abbrev pub decreases-loop-left : goal.decreases-loop-left
decreases-loop-left l = l.left
