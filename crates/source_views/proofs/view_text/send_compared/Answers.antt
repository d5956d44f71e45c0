use Rattle.std.proofs.Common.{◌≡◌, ◌∙◌, ◌+◌, ◌<◌, ◌≤◌, ℕ, List, All, ap, arith, length, map, rules, subst, sym}
use Rattle.flame_layout.specs.Boxes.{compared_of}
use Rattle.flame_layout.specs.Comparison.{compared_boxes_of}
use Rattle.flame_layout.specs.declared.boxes.DrawnPair.{DrawnPair}
use Rattle.flame_layout.proofs.DrawnBoxes.{paired_list, paired_positive, paired_within}
use Rattle.merged_stacks.specs.Timeline.{total_weight}
use Rattle.source_views.specs.Failures.{Sends}
use Rattle.view_texts.specs.Json.{pair_boxes_line}
use Rattle.source_views.proofs.view_text.send_compared.Goals as goal

pub drawn_comparison_line-line-requires-clause-within : goal.drawn_comparison_line-line-requires-clause-within
drawn_comparison_line-line-requires-clause-within g c =
    let total : c.total-total.result ≡ total_weight c.args.after.now.samples = search rules in
    paired_within c.as_slice.result.now c.total-total.result (subst (λ (all : List DrawnPair). All (λ pair. pair.drawn.start + pair.drawn.weight ≤ c.total-total.result) all) (sym c.as_slice.ensures.value)
    (subst (λ n. All (λ (pair : DrawnPair). pair.drawn.start + pair.drawn.weight ≤ n) c.in_ok-boxes.boxes.items) (sym total) c.in_ok-boxes.ensures.within))

pub drawn_comparison_line-line-requires-clause-positive : goal.drawn_comparison_line-line-requires-clause-positive
drawn_comparison_line-line-requires-clause-positive g c =
    let total : c.total-total.result ≡ total_weight c.args.after.now.samples = search rules in
    paired_positive c.as_slice.result.now c.total-total.result (λ some. subst (λ n. 0 < n) (sym total) (c.in_ok-boxes.ensures.positive (omega (arith, some, ap length c.as_slice.ensures.value))))

pub returns-clause-sent : goal.returns-clause-sent
returns-clause-sent g c =
    let pairs = c.as_slice.result.now in
    let before : c.total.result ≡ total_weight c.args.before.now.samples = search rules in
    let after : c.total-total.result ≡ total_weight c.args.after.now.samples = search rules in
    let compared : map compared_of pairs ≡ compared_boxes_of c.args.before.now.samples c.args.after.now.samples = ap (map compared_of) c.as_slice.ensures.value ∙ c.in_ok-boxes.ensures.boxes in
    subst (λ (text : List ℕ). Sends text (g.W.Outlet.contents c.args.out.now) (g.W.Outlet.contents c.send.new.out) c.send.result)
    (c.drawn_comparison_line-line.ensures.text (map compared_of pairs) (paired_list pairs) ∙ (λ i. pair_boxes_line (before i) (after i) c.args.width (compared i))) c.send.ensures.sent
