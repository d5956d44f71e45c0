use Rattle.std.proofs.Common.{◌∙◌, ◌+◌, ◌≤◌, ℕ, List, All, ap, map, subst, sym}
use Rattle.flame_layout.specs.Boxes.{compared_of}
use Rattle.flame_layout.specs.declared.boxes.DrawnPair.{DrawnPair}
use Rattle.flame_layout.proofs.DrawnBoxes.{paired_list, paired_within}
use Rattle.merged_stacks.specs.Timeline.{total_weight}
use Rattle.source_views.specs.Failures.{Sends}
use Rattle.svg_texts.specs.Drawn.{picture_of}
use Rattle.svg_texts.specs.Svg.{compared_svg, svg_text}
use Rattle.svg_texts.proofs.OwnWeights.{comparison-own, own_paired}
use Rattle.flame_tool.proofs.sent_pictures.send_compared.Goals as goal

pub of-requires-2-clause-within : goal.of-requires-2-clause-within
of-requires-2-clause-within g c =
    let total = c.args.picture.now.total in
    paired_within c.as_slice.result.now total (subst (λ (all : List DrawnPair). All (λ pair. pair.drawn.start + pair.drawn.weight ≤ total) all) (sym c.as_slice.ensures.value)
    (subst (λ n. All (λ (pair : DrawnPair). pair.drawn.start + pair.drawn.weight ≤ n) c.in_ok-boxes.boxes.items) (sym c.requires.total) c.in_ok-boxes.ensures.within))

pub of-requires-2-clause-own : goal.of-requires-2-clause-own
of-requires-2-clause-own g c =
    let before = c.args.before.now.samples in
    let after = c.args.after.now.samples in
    own_paired c.as_slice.result.now _ (total_weight after) (ap (map compared_of) c.as_slice.ensures.value ∙ c.in_ok-boxes.ensures.boxes) (comparison-own before after) c.requires.after

pub returns-clause-sent : goal.returns-clause-sent
returns-clause-sent g c =
    let compared = ap (map compared_of) c.as_slice.ensures.value ∙ c.in_ok-boxes.ensures.boxes in
    subst (λ (text : List ℕ). Sends text (g.W.Outlet.contents c.args.out.now) (g.W.Outlet.contents c.send_long_text.new.out) c.send_long_text.result)
    (c.in_ok-svg.ensures.text ∙ (ap (svg_text (picture_of c.args.picture.now)) (paired_list c.as_slice.result.now) ∙ ap (compared_svg (picture_of c.args.picture.now)) compared)) c.send_long_text.ensures.sent
