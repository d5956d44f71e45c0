use Rattle.std.proofs.Common.{◌∙◌, List, ap, map, subst, unwrap_or, ℕ}
use Rattle.merged_stacks.specs.Timeline.{samples_of}
use Rattle.page_texts.specs.Drawn.{source_of}
use Rattle.flame_tool.specs.Pages.{default_title, sources_of}
use Rattle.flame_tool.specs.Pictures.{PictureFrame, common_unit, framed_text, units_with_weight}
use Rattle.source_views.specs.Failures.{Sends}
use Rattle.flame_tool.proofs.sent_pictures.send_asked_picture.Goals as goal

pub returns-clause-sent : goal.returns-clause-sent
returns-clause-sent g c =
    let asked = c.args.asked.now in
    let lists = samples_of c.args.sources.lists in
    let title = c.deref.ensures ∙ c.in_ok-title.ensures ∙ ap (λ (files : List (List ℕ)). unwrap_or asked.form.now.title (default_title files)) c.get-files.ensures in
    let sources = ap (map source_of) c.deref-2.ensures.value ∙ c.in_ok-described.ensures ∙ (λ i. sources_of asked.plan.now.unit (c.get-files.ensures i) (c.get-types.ensures i) lists) in
    let unit = c.common.ensures ∙ ap (λ all. common_unit (units_with_weight all)) sources in
    subst (λ (frame : PictureFrame). Sends (framed_text frame asked.plan.now.view lists) (g.W.Outlet.contents c.args.out.now) (g.W.Outlet.contents c.send_framed.new.out) c.send_framed.result)
    (λ i. record { title = title i; unit = unit i; is_root_below = asked.form.now.is_root_below; is_share = asked.form.now.is_share }) c.send_framed.ensures.sent
