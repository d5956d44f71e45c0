use Rattle.std.proofs.Common.{◌≡◌, ◌≤◌, sym, subst, length, List, All}
use Rattle.std.proofs.lemmas.Result.{IfOk-weaker}
use Rattle.flame_layout.specs.declared.boxes.PairRow.{PairRow}
use Rattle.flame_layout.specs.Comparison.{comparison_of}
use Rattle.flame_layout.proofs.Depths.{compared-depth}
use Rattle.flame_layout.proofs.comparisons.compare.Goals as goal

pub returns-clause-depth : goal.returns-clause-depth
returns-clause-depth c =
    let before = c.args.before.now.samples in
    let after = c.args.after.now.samples in
    IfOk-weaker c.compare_stacks.result (λ rows. rows.items ≡ comparison_of before after) (λ rows. All (λ row. length row.path ≤ 4096) rows.items)
    (λ found e. subst (λ (rows : List PairRow). All (λ row. length row.path ≤ 4096) rows) (sym e)
    (compared-depth 4096 before after (λ k d l. (c.len.ensures.limits k d l).depth) (λ k d l. (c.len-2.ensures.limits k d l).depth)))
    c.compare_stacks.ensures
