use Rattle.std.proofs.Common.{◌≡◌, ◌<◌, ℕ, get_or, length, take}
use Rattle.stack_core.specs.Interleaving.{count_of, interleaved}
use Rattle.merged_stacks.specs.Timeline.{samples_of}
use Rattle.merging.proofs.list_samples.feed_lists.Given as goal

-- the sink took what came so far, and of each source it is counted
abbrev pub invariant-loop-source : goal.invariant-loop-source
invariant-loop-source l = record {
  count : length l.came.items ≡ length l.lists;
  counted : (source : ℕ) → source < length l.lists → get_or l.came.items source 0 ≡ count_of source (take l.source-index l.order);
  taken : l.sink.taken ≡ take l.source-index (interleaved l.order (samples_of l.lists));
  every : l.sink.every ≡ l.fn.sink.every;
}
