use Rattle.std.proofs.Common.{◌≡◌, ◌∙◌, ◌++◌, ◌∷◌, [], ◌+◌, sym, subst, map, slice_index, arith}
use Rattle.std.specs.List.{range_with_len}
use Rattle.std.proofs.lemmas.List.FromFn.{map-range_with_len_more}
use Rattle.sample_tables.specs.Rows.{named}
use Rattle.merged_stacks.specs.checked.Kept.{kept_sample}
use Rattle.merged_stacks.specs.checked.Ranked.{HasSums}
use Rattle.merged_stacks.proofs.list_sums.rows_of_sums.Goals as goal

pub loop-number-preserved : goal.loop-number-preserved
loop-number-preserved c names by =
    let table = c.args.table.now in
    let i = c.loop-number.number in
    let kept = kept_sample table.names table.stacks c.args.sums.now in
    let front = map kept (range_with_len 0 i) in
    let next : front ++ named table.names (record { frames = c.stack.result.now; weight = slice_index c.args.sums.now i }) ∷ [] ≡ map kept (range_with_len 0 (i + 1)) =
    (λ k. front ++ named table.names (record { frames = c.stack.ensures.value k; weight = slice_index c.args.sums.now i }) ∷ [])
    ∙ sym (map-range_with_len_more kept 0 i i (omega arith)) in
    subst (λ xs. HasSums names xs c.add_row.new.rows) next
    (c.in_ok-add_row.ensures names table.names front by (c.loop-number.invariant names by))
