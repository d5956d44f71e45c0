use Rattle.std.proofs.Common.{◌+◌, List, ℕ, arith, refl, subst, sym}
use Rattle.sample_tables.specs.Rows.{named, row_by}
use Rattle.sample_tables.specs.declared.samples.Sample.{Sample}
use Rattle.live_lines.specs.checked.Merges.{IsLiveMerge}
use Rattle.live_lines.proofs.MergeLemmas.{count_few, merge_push}
use Rattle.live_lines.proofs.merge.LiveMergeRowSink.take_row.Goals as goal

pub count_source-requires : goal.count_source-requires
count_source-requires c =
    let s = c.self.inside in
    omega (arith, count_few s.rows s.counts.items s.at c.args.source c.self.invariant)

pub invariant_of-self-2 : goal.invariant_of-self-2
invariant_of-self-2 c =
    let s = c.self.inside in
    let ledger = c.args.ledger.now in
    let sample : Sample = named ledger.told (row_by ledger.stacks (record { stack = c.args.row; weight = c.args.weight })) in
    subst (λ (pairs : List (ℕ × Sample)). IsLiveMerge pairs c.count_source.new.counts.items (s.at + 1)) (sym c.in_ok-take_row.ensures.ok)
    (merge_push s.rows c.args.source sample s.counts.items c.count_source.new.counts.items s.at (s.at + 1) c.self.invariant c.count_source.ensures refl)
