use Rattle.std.proofs.Common.{◌∙◌, ap, arith}
use Rattle.flame_layout.specs.Boxes.{span_of}
use Rattle.flame_layout.specs.checked.Paired.{names_now, paired_row}
use Rattle.flame_layout.proofs.PairedRows.{rows_all, rows_more}
use Rattle.flame_layout.proofs.comparisons.pair_rows.Goals as goal

pub returns : goal.returns
returns g c = rows_all c.args.before.now c.args.after.now _ c.loop-at.rows.items c.loop-at.at (names_now c.loop-at.path.items) (omega arith) c.loop-at.invariant

pub loop-at-preserved : goal.loop-at-preserved
loop-at-preserved g c =
    let left = span_of c.get-left.result in
    let right = span_of c.get.result in
    rows_more c.args.before.now c.args.after.now _ c.loop-at.rows.items c.push.new.self.items c.in_ok-row.field-0 c.loop-at.at left right
    (names_now c.loop-at.path.items) (names_now c.step_path.new.path.items) (omega arith) (omega arith) c.get-left.ensures c.get.ensures c.loop-at.invariant
    c.in_ok-step_path.ensures (c.in_ok-row.ensures ∙ ap (λ path. paired_row (names_now path) left right) c.deref.ensures.value) c.in_ok-push.ensures.items
