use Rattle.std.proofs.Common.{◌<◌, ◌+◌, ◌++◌, ◌∙◌, None, ap, append_assoc, arith, drop, get_or, length, map, option_map, sym}
use Rattle.std.proofs.lemmas.List.{get_or-map, length-map}
use Rattle.function_sums.specs.Columns.{at_right_if, in_columns}
use Rattle.function_sums.specs.checked.Entries.{entry_text}
use Rattle.function_sums.proofs.TableLines.{columns-drop, fronts}
use Rattle.function_sums.proofs.text_tables.append_entries.Goals as goal

pub loop-at-preserved : goal.loop-at-preserved
loop-at-preserved c =
    let at = c.loop-at.at in
    let widths = c.args.widths.now in
    let entries = c.args.entries.now in
    let text = option_map (entry_text c.args.saying.now.is_exact c.args.saying.now.unit.now) in
    let wide : at < length widths = omega arith in
    let long : at < length entries = omega arith in
    let rest = in_columns (drop (at + 1) widths) (drop (at + 1) (map text entries)) in
    let more = columns-drop widths (map text entries) at 0 None wide (omega (arith, long, length-map entries text)) in
    record {
      all = ap (λ out. out ++ rest) (c.in_ok-append_entry.ensures.ok ∙ ap (λ entry. c.loop-at.out.items ++ at_right_if (get_or widths at 0) entry) (sym (get_or-map text entries at None None long)))
          ∙ append_assoc c.loop-at.out.items (at_right_if (get_or widths at 0) (get_or (map text entries) at None)) rest ∙ ap (λ text. c.loop-at.out.items ++ text) (sym more) ∙ c.loop-at.invariant.all;
      front = fronts c.append_entry.new.out.items c.loop-at.out.items c.args.out.now.items c.append_entry.ensures.front c.loop-at.invariant.front;
    }
