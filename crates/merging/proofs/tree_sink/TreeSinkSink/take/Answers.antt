use Rattle.std.proofs.Common.{◌≡◌, ◌+◌, ◌<◌, ◌^◌, ◌++◌, ◌∷◌, [], ◌∙◌, ap, arith, rules, refl}
use Rattle.std.specs.Option.{option_to_list}
use Rattle.call_tree.specs.CallTree.{total_weight, with_weight}
use Rattle.ring_collect.specs.NamesInOrder.{with_stack}
use Rattle.merging.specs.checked.TakenRows.{pairs_of, rows_of, row_of}
use Rattle.merging.specs.TreeSinkState.{TreeSinkState}
use Rattle.merging.specs.checked.Merging.{Grown, due_after}
use Rattle.merging.proofs.SinkLemmas.{sink-same, sink-push, pairs-push, tree_fits}
use Rattle.merging.proofs.tree_sink.TreeSinkSink.take.Goals.{After-ready_sample, In_ok-ready_sample}
use Rattle.merging.proofs.tree_sink.TreeSinkSink.take.Goals as goal

-- what is left of the sink when names and room came
grown : (c : After-ready_sample) → Grown c.ready_sample.new.tally c.ready_sample.new.table c.self.inside.tree c.self.inside.snapshots.items (pairs_of c.self.inside.table (rows_of c.self.inside.tally.taken))
grown c = c.ready_sample.ensures.sink c.self.inside.tree c.self.inside.snapshots.items c.self.invariant

taken : (c : After-ready_sample) → pairs_of c.ready_sample.new.table (rows_of c.ready_sample.new.tally.taken) ≡ c.args.self.now.taken
taken c = (grown c).pairs_are ∙ ap (λ (state : TreeSinkState). state.taken) c.self.view_is

fits : (c : In_ok-ready_sample) → total_weight c.self.inside.tree [] + c.ready_sample.new.numbered.weight < 2 ^ 128
fits c =
    let s = c.self.inside in
    tree_fits c.ready_sample.new.tally c.ready_sample.new.table s.tree s.snapshots.items c.ready_sample.new.numbered.weight (c.ready_sample.ensures.sink s.tree s.snapshots.items c.self.invariant).sink (omega (arith, c.in_ok-ready_sample.ensures.room.more)) c.in_ok-ready_sample.ensures.row.numbered.weight

pub invariant_of-self-in_err-ready_sample : goal.invariant_of-self-in_err-ready_sample
invariant_of-self-in_err-ready_sample c = (grown (goal.at.invariant_of-self-in_err-ready_sample c).After-ready_sample).sink

pub returns-in_err-ready_sample-clause-refused : goal.returns-in_err-ready_sample-clause-refused
returns-in_err-ready_sample-clause-refused c =
    let taken = taken (goal.at.returns-in_err-ready_sample-clause-refused c).After-ready_sample in
    search (rules, taken)

pub due_snapshot-requires-clause-fits : goal.due_snapshot-requires-clause-fits
due_snapshot-requires-clause-fits c = fits (goal.at.due_snapshot-requires-clause-fits c).In_ok-ready_sample

pub invariant_of-self-in_err-due : goal.invariant_of-self-in_err-due
invariant_of-self-in_err-due c =
    let s = c.self.inside in
    sink-same c.ready_sample.new.tally c.ready_sample.new.table s.tree s.tree s.snapshots.items c.due_snapshot.new.snapshots.items (grown (goal.at.invariant_of-self-in_err-due c).After-ready_sample).sink refl c.due_snapshot.ensures.kept

pub returns-in_err-due-clause-refused : goal.returns-in_err-due-clause-refused
returns-in_err-due-clause-refused c =
    let taken = taken (goal.at.returns-in_err-due-clause-refused c).After-ready_sample in
    search (rules, taken)

pub add-requires : goal.add-requires
add-requires c = fits (goal.at.add-requires c).In_ok-ready_sample

pub invariant_of-self-in_err-add : goal.invariant_of-self-in_err-add
invariant_of-self-in_err-add c =
    let s = c.self.inside in
    sink-same c.ready_sample.new.tally c.ready_sample.new.table s.tree c.add.new.self s.snapshots.items c.due_snapshot.new.snapshots.items (grown (goal.at.invariant_of-self-in_err-add c).After-ready_sample).sink c.in_err-add.ensures.err c.due_snapshot.ensures.kept

pub returns-in_err-add-clause-refused : goal.returns-in_err-add-clause-refused
returns-in_err-add-clause-refused c =
    let taken = taken (goal.at.returns-in_err-add-clause-refused c).After-ready_sample in
    search (rules, taken)

pub invariant_of-self-2 : goal.invariant_of-self-2
invariant_of-self-2 c =
    let s = c.self.inside in
    let row = row_of c.ready_sample.new.numbered in
    let added : c.add.new.self ≡ with_weight s.tree (row_of c.ready_sample.new.numbered).numbers (row_of c.ready_sample.new.numbered).weight =
    c.in_ok-add.ensures.ok ∙ ap (λ xs. with_weight s.tree xs c.ready_sample.new.numbered.weight) c.deref.ensures.value in
    let kept : c.append_due.new.snapshots.items ≡ s.snapshots.items ++ option_to_list (due_after c.ready_sample.new.tally.every (rows_of c.ready_sample.new.tally.taken ++ row_of c.ready_sample.new.numbered ∷ [])) =
    c.append_due.ensures ∙ (λ i. c.due_snapshot.ensures.kept i ++ option_to_list (c.in_ok-due.ensures.due i)) in
    sink-push c.ready_sample.new.tally c.count.new.self c.ready_sample.new.table s.tree c.add.new.self row s.snapshots.items c.append_due.new.snapshots.items (grown (goal.at.invariant_of-self-2 c).After-ready_sample).sink c.in_ok-ready_sample.ensures.row.numbered c.count.ensures.tallied c.count.ensures.every c.count.ensures.taken added kept

pub returns-clause-ok : goal.returns-clause-ok
returns-clause-ok c =
    let sample = c.args.sample.now in
    pairs-push c.ready_sample.new.table (rows_of c.ready_sample.new.tally.taken) (rows_of c.count.new.self.taken) (row_of c.ready_sample.new.numbered) c.args.source sample.stack sample c.in_ok-ready_sample.ensures.row refl c.count.ensures.taken
    ∙ ap (λ front. front ++ (c.args.source, sample) ∷ []) (taken (goal.at.returns-clause-ok c).After-ready_sample)

pub returns-clause-in_order : goal.returns-clause-in_order
returns-clause-in_order c = c.in_ok-ready_sample.ensures.in_order ∙ (λ i. with_stack (c.self.view_is i).names c.args.sample.now.stack)
