use Rattle.std.proofs.Common.{◌≡◌, ◌≤◌, arith, get_or, refl}
use Rattle.std.proofs.lemmas.List.{get_or_default}
use Rattle.sample_tables.specs.declared.samples.TheConstants.{WEIGHT_LIMIT}
use Rattle.source_lists.proofs.SummedLemmas.{kept}
use Rattle.source_lists.proofs.summed_rows.keep.Goals as goal

pub returns-clause-sums : goal.returns-clause-sums
returns-clause-sums c =
    let row = c.args.row in
    let mid = c.has_place.new.sums.items in
    let one = c.index.result.now in
    let sum = c.index_mut.result.now in
    let grows = c.if-not-has_place.ensures in
    let below = grows.place refl in
    let same : get_or mid row one ≡ get_or mid row sum = get_or_default mid row one sum below in
    let limit : get_or mid row sum ≤ WEIGHT_LIMIT = grows.limits c.requires row sum below in
    kept row c.args.weight sum c.args.sums.now.items mid grows c.requires c.index_mut.ensures.value
    (omega (arith, c.if-weight-index.false, c.index.ensures, c.index_mut.ensures.value, same, limit))
