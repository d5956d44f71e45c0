use Rattle.std.proofs.Common.{◌+◌, ◌<◌, ◌≤◌, ◌^◌, arith, map}
use Rattle.flame_layout.specs.Boxes.{span_of}
use Rattle.flame_layout.specs.declared.boxes.SpanBox.{SpanBox}
use Rattle.flame_layout.proofs.GraphBoxes.{listed_next}
use Rattle.flame_layout.proofs.graphs.visit_boxes.Goals as goal

abbrev Fits64 : SpanBox → Type 0
Fits64 span = (span.start + span.weight < 2 ^ 64) × (span.own ≤ span.weight)

pub visit_box-requires-clause-total : goal.visit_box-requires-clause-total
visit_box-requires-clause-total c =
    let next = listed_next Fits64 c.args.table.now c.args.visits.now (map span_of c.loop-visit.boxes.items) c.loop-visit.start c.loop-visit.visit-index (record { depth = 0; frame = 0; total = 0; own = 0 }) c.loop-visit-test.true c.loop-visit.invariant c.requires.sums in
    omega (arith, next.0)

pub visit_box-requires-clause-own : goal.visit_box-requires-clause-own
visit_box-requires-clause-own c =
    let next = listed_next Fits64 c.args.table.now c.args.visits.now (map span_of c.loop-visit.boxes.items) c.loop-visit.start c.loop-visit.visit-index (record { depth = 0; frame = 0; total = 0; own = 0 }) c.loop-visit-test.true c.loop-visit.invariant c.requires.sums in
    omega (arith, next.0, next.1)

pub overflow_add-start : goal.overflow_add-start
overflow_add-start c =
    let next = listed_next Fits64 c.args.table.now c.args.visits.now (map span_of c.loop-visit.boxes.items) c.loop-visit.start c.loop-visit.visit-index (record { depth = 0; frame = 0; total = 0; own = 0 }) c.loop-visit-test.true c.loop-visit.invariant c.requires.sums in
    omega (arith, next.0, next.1)
