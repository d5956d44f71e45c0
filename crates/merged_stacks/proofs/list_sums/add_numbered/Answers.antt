use Rattle.std.proofs.Common.{◌≡◌, ◌∙◌, ◌+◌, ◌++◌, ◌∷◌, [], sym, ap, subst, take, map, slice_index, arith}
use Rattle.std.proofs.lemmas.List.{append_assoc, map_more}
use Rattle.sample_tables.specs.declared.samples.Sample.{Sample}
use Rattle.sample_tables.specs.Rows.{named}
use Rattle.merged_stacks.specs.checked.Kept.{kept_sample}
use Rattle.merged_stacks.specs.checked.Ranked.{HasSums}
use Rattle.merged_stacks.proofs.list_sums.add_numbered.Goals as goal

pub loop-number-preserved : goal.loop-number-preserved
loop-number-preserved c names samples by sums =
    let list = c.args.list.now in
    let i = c.loop-number.number-index in
    let order = c.args.order.now in
    let all = c.args.sums.now in
    let kept = kept_sample list.told list.stacks all in
    let front = map kept (take i order) in
    let number = slice_index order i in
    let s : Sample = named list.told (record { frames = c.stack.result.now; weight = slice_index all number }) in
    let next : (samples ++ front) ++ s ∷ [] ≡ samples ++ map kept (take (i + 1) order) =
    append_assoc samples front (s ∷ []) ∙ (λ k. samples ++ (front ++ named list.told (record { frames = c.stack.ensures.value k; weight = slice_index all number }) ∷ []))
    ∙ ap (λ xs. samples ++ xs) (sym (map_more kept order i 0 (omega arith))) in
    subst (λ xs. HasSums names xs c.add_row.new.rows) next
    (c.in_ok-add_row.ensures names list.told (samples ++ front) by (c.loop-number.invariant names samples by sums))
