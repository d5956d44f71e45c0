-- What a tally says of the samples that were taken.
use Rattle.std.specs.Prelude.{◌≡◌, ℕ, ◌+◌, ◌<◌, ◌^◌, length, IfSome, vec_capacity}
use Rattle.merging.specs.declared.tally.Tally.{Tally}
use Rattle.merging.specs.Snapshots.{source_counts}
use Rattle.merging.specs.checked.TakenRows.{order_of, rows_of}

-- it has their number and, where every so many want a snapshot, how many of each source
pub record IsTally (tally : Tally) : Type 0 where
  pub at_is : tally.at ≡ length (rows_of tally.taken)
  pub counts_are :
      IfSome tally.every (λ every. tally.counts.items ≡ source_counts (order_of (rows_of tally.taken)))

-- a sample of the source can be counted
pub record HasRoom (source : ℕ) (tally : Tally) : Type 0 where
  pub more : tally.at + 1 < 2 ^ 64
  pub room : IfSome tally.every (λ every. source < vec_capacity tally.counts)
