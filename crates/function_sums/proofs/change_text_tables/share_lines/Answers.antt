use Rattle.std.proofs.Common.{◌≡◌, ◌∙◌, ◌++◌, ◌∷◌, [], ap, sym, map, get_or}
use Rattle.std.proofs.lemmas.List.{map_more, map_push}
use Rattle.function_sums.specs.ChangeTable.{share_headings, share_line}
use Rattle.function_sums.specs.checked.Entries.{line_of}
use Rattle.function_sums.proofs.change_text_tables.share_lines.Goals as goal

pub loop-change-preserved : goal.loop-change-preserved
loop-change-preserved c is_exact unit =
    let entry = line_of is_exact unit in
    let told = share_line c.args.whole in
    let row = c.share_line.result in
    let said : entry row ≡ told (get_or c.args.changes.now c.loop-change.change-index c.change-item.result) = c.share_line.ensures is_exact unit ∙ ap told c.change-item.is in
    ap (map entry) c.in_ok-push-2.ensures.items ∙ map_push entry c.loop-change.lines.items row
    ∙ (λ i. c.loop-change.invariant is_exact unit i ++ said i ∷ [])
    ∙ ap (λ rest. share_headings ∷ rest) (sym (map_more told c.args.changes.now c.loop-change.change-index c.change-item.result c.loop-change-test.true))
