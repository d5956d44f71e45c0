use Rattle.std.proofs.Common.{◌≡◌, All, map, take}
use Rattle.sample_tables.specs.Samples.{total_weight}
use Rattle.stack_core.specs.Parts.{IsClean, samples_of_parts}
use Rattle.ring_collect.specs.Collection.{seen_as_rest}
use Rattle.source_lists.specs.checked.Parts.{ignored_by}
use Rattle.source_lists.proofs.part_lists.ignored_by_clean.Given as goal

abbrev pub invariant-loop-part : goal.invariant-loop-part
invariant-loop-part l = record {
  clean : All IsClean (map seen_as_rest (take l.part-index l.parts));
  weight : l.weight ≡ total_weight (samples_of_parts (map seen_as_rest (take l.part-index l.parts)));
  ignored : l.ignored ≡ ignored_by (map seen_as_rest (take l.part-index l.parts));
}
