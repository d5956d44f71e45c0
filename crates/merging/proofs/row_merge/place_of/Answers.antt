use Rattle.std.proofs.Common.{List, map, subst, sym}
use Rattle.sample_tables.specs.Rows.{name_at}
use Rattle.sample_tables.specs.declared.samples.Sample.{Sample}
use Rattle.merged_stacks.specs.Sums.{HaveSameSums}
use Rattle.merging.proofs.SummedLemmas.{same-none}
use Rattle.merging.proofs.row_merge.place_of.Goals as goal

pub returns-2-clause-same : goal.returns-2-clause-same
returns-2-clause-same c samples h =
    subst (λ (kept : List Sample). HaveSameSums kept samples) (sym c.in_ok-place.ensures.kept)
    (same-none c.args.stacks.now samples (map (name_at c.args.ledger.now.told) c.stack-frames.result.now) h)
