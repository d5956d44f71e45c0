use Rattle.std.proofs.Common.{◌≡◌, [], All, map, take}
use Rattle.folded_lines.specs.Reading.{read_folded}
use Rattle.folded_lines.specs.State.{State}
use Rattle.folded_lines.proofs.rows.FoldedRows.of_parts.Given as goal

abbrev pub invariant-loop-part : goal.invariant-loop-part
invariant-loop-part l = record {
  rests : map (λ (reader : State). reader.rest) l.readers.items ≡ map read_folded (take l.part-index l.parts);
  told : All (λ (reader : State). reader.told ≡ record { names = []; stacks = [] }) l.readers.items;
}
