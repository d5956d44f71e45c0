use Rattle.std.proofs.Common.{◌+◌, List, arith, refl, subst, sym}
use Rattle.sample_tables.specs.Rows.{named, row_by}
use Rattle.sample_tables.specs.declared.samples.Sample.{Sample}
use Rattle.merging.specs.Snapshots.{samples_of_pairs}
use Rattle.merging.specs.checked.Summed.{AreMergedPairs}
use Rattle.merging.proofs.SummedLemmas.{pairs-more}
use Rattle.merging.proofs.row_merge.RowMergeRowSink.take_row.Goals as goal

pub invariant_of-self-2 : goal.invariant_of-self-2
invariant_of-self-2 c =
    let s = c.self.inside in
    let ledger = c.args.ledger.now in
    let kept = c.place_of.new.stacks in
    let place = c.in_ok-place.ensures in
    let merged : AreMergedPairs c.place_of.new.stacks c.self.inside.total c.self.inside.taken = record {
      same = place.same (samples_of_pairs s.taken) c.self.invariant.same;
      total_is = c.self.invariant.total_is;
      fits = c.self.invariant.fits;
    } in
    subst (λ (all : List Sample). AreMergedPairs all (s.total + c.args.weight) c.take_row.new.self) (sym c.add.ensures)
    (pairs-more kept s.total (s.total + c.args.weight) c.in_ok-place.place s.taken c.take_row.new.self c.args.source (named ledger.told (row_by ledger.stacks (record { stack = c.args.row; weight = c.args.weight })))
    merged place.below place.stack refl (omega arith) c.in_ok-take_row.ensures.ok)
