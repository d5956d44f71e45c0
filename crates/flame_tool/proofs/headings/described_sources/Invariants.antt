-- the sources so far are those of the first lists
use Rattle.std.proofs.Common.{◌≡◌, map, string_bytes}
use Rattle.std.specs.List.{range_with_len}
use Rattle.merged_stacks.specs.Timeline.{samples_of}
use Rattle.page_texts.specs.Drawn.{source_of}
use Rattle.flame_tool.specs.Pages.{source_at}
use Rattle.flame_tool.proofs.headings.described_sources.Given as goal

abbrev pub invariant-loop-at : goal.invariant-loop-at
invariant-loop-at l =
    map source_of l.described.items ≡ map (source_at l.unit (map string_bytes l.files) l.types (samples_of l.sources.lists)) (range_with_len 0 l.at)
