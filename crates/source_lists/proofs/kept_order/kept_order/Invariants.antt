use Rattle.std.proofs.Common.{◌≡◌, ◌<◌, ℕ, Bool, List, get_or, length, map, take}
use Rattle.stack_core.specs.Interleaving.{count_of, interleaved}
use Rattle.merged_stacks.specs.Timeline.{samples_of}
use Rattle.source_lists.specs.checked.KeptStacks.{all_are_passing}
use Rattle.source_lists.proofs.KeptLemmas.{kept_sources}
use Rattle.source_lists.proofs.kept_order.kept_order.Given as goal

abbrev pub invariant-loop-source : goal.invariant-loop-source
invariant-loop-source l = record {
  count : length l.came.items ≡ length l.lists;
  counted : (source : ℕ) → source < length l.lists → get_or l.came.items source 0 ≡ count_of source (take l.source-index l.order);
  kept : (passes : List (List ℕ) → Bool) → map (λ marks. marks.items) l.kept ≡ all_are_passing passes l.lists → l.left.items ≡ kept_sources passes (take l.source-index (interleaved l.order (samples_of l.lists)));
}
