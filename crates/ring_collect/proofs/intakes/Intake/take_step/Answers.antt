use Rattle.std.proofs.Common.{None, refl, true≢false, ◌∙◌, ap, sym}
use Rattle.std.specs.Vec.Iter.{into_iter_items}
use Rattle.stack_core.specs.declared.records.RingRecord.TheVariants.{Row}
use Rattle.ring_collect.specs.checked.FlatRecords.{record_by}
use Rattle.ring_collect.specs.checked.Records.{close_after}
use Rattle.ring_collect.specs.declared.flat_records.Step.{Step}
use Rattle.ring_collect.proofs.IntakeLemmas.{brings_dropped, brings_taken}
use Rattle.ring_collect.proofs.intakes.Intake.take_step.Goals as goal

pub returns-then-is_taking-clause-brings : goal.returns-then-is_taking-clause-brings
returns-then-is_taking-clause-brings g c =
    let by = λ (step : Step). record_by step (into_iter_items c.args.unread.now.names) c.args.unread.now.frames.now in
    brings_taken c.args.self.now (ap (λ frames. Row frames c.in-Row.weight) c.next_frames-frames.ensures.row ∙ ap by (sym c.in-Row.is))
    c.requires.unclosed (c.if-is_taking.ensures.0 refl) c.take_row-self.ensures.taken

pub returns-else-is_taking-clause-brings : goal.returns-else-is_taking-clause-brings
returns-else-is_taking-clause-brings g c =
    let by = λ (step : Step). record_by step (into_iter_items c.args.unread.now.names) c.args.unread.now.frames.now in
    brings_dropped c.args.self.now (by c.args.step) (λ taking. true≢false (sym (c.if-is_taking.ensures.1 taking)))
    (c.requires.unclosed ∙ ap (λ step. close_after None (by step)) (sym c.in-Row.is))
