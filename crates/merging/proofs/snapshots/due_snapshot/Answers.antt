use Rattle.std.proofs.Common.{◌≡◌, ◌+◌, ◌∙◌, sym, ap, arith, true}
use Rattle.std.proofs.lemmas.List.{length-map}
use Rattle.call_tree.specs.CallTree.{with_weight}
use Rattle.merging.specs.Snapshots.{source_counts}
use Rattle.merging.specs.checked.Merging.{is_due}
use Rattle.merging.specs.checked.TakenRows.{rows_of, row_of, order_of}
use Rattle.merging.proofs.SnapshotLemmas.{where_due, due_with}
use Rattle.merging.proofs.snapshots.due_snapshot.Goals as goal

pub counts_with-requires : goal.counts_with-requires
counts_with-requires c =
    let tally = c.args.tally.now in
    let order = order_of (rows_of tally.taken) in
    let due : is_due tally.every (tally.at + 1) ≡ true = sym c.if-not-is_due.ensures in
    let counts = where_due tally.every (tally.at + 1) (tally.counts.items ≡ source_counts order) due c.requires.tallied.counts_are in
    (order, c.deref.ensures.value ∙ counts, omega (arith, length-map (rows_of tally.taken) (λ row. row.source), c.requires.tallied.at_is, c.requires.countable.more))

pub returns-clause-due : goal.returns-clause-due
returns-clause-due c =
    let tally = c.args.tally.now in
    let rows = rows_of tally.taken in
    let row = row_of c.args.sample.now in
    let order = order_of (rows_of tally.taken) in
    let due : is_due tally.every (tally.at + 1) ≡ true = sym c.if-not-is_due.ensures in
    let counts = where_due tally.every (tally.at + 1) (tally.counts.items ≡ source_counts order) due c.requires.tallied.counts_are in
    let more = c.of.ensures ∙ c.in_ok-counts.ensures order (c.deref.ensures.value ∙ counts) in
    let grown = c.in_ok-tree.ensures ∙ ap (λ xs. with_weight c.args.tree.now xs row.weight) c.deref-2.ensures.value in
    due_with tally.every rows row (tally.at + 1) c.of.result c.args.tree.now c.in_ok-tree.tree (omega (arith, c.requires.tallied.at_is)) due more c.requires.tree grown
