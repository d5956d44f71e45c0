use Rattle.std.proofs.Common.{◌∙◌, ap, List, slice_index}
use Rattle.sample_tables.specs.declared.stacks.Span.{Span}
use Rattle.ranked_rows.specs.checked.Entries.{ranked_rows, weighing_rows}
use Rattle.ranked_rows.proofs.WeighingRows.{ranks_within, rows_ranked}
use Rattle.ranked_rows.proofs.rows.RankedRows.from_stacks.Goals as goal

pub invariant_of-result : goal.invariant_of-result
invariant_of-result c =
    let stacks = c.args.stacks in
    ranks_within (slice_index c.args.ranks.now) stacks.frames.items stacks.spans.items c.args.weights.now c.in_ok-rows.rows.items c.ranks_for-frames.result.items c.requires.within
    (c.in_ok-rows.ensures ∙ ap (λ (spans : List Span). weighing_rows spans c.args.weights.now) c.deref.ensures.value) c.ranks_for-frames.ensures

pub returns : goal.returns
returns c =
    let stacks = c.args.stacks in
    (λ i. ranked_rows (c.ranks_for-frames.ensures i) ((c.in_ok-rows.ensures ∙ ap (λ (spans : List Span). weighing_rows spans c.args.weights.now) c.deref.ensures.value) i))
    ∙ rows_ranked c.args.ranks.now stacks.frames.items stacks.spans.items c.args.weights.now
