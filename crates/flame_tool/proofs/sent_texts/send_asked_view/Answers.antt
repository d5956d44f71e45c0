use Rattle.std.proofs.Common.{◌∙◌, List, ap, map, subst}
use Rattle.merged_stacks.specs.Timeline.{samples_of}
use Rattle.page_texts.specs.Drawn.{source_of}
use Rattle.page_texts.specs.Page.{PageSource}
use Rattle.function_sums.specs.Told.{Told, told_of}
use Rattle.source_lists.specs.Lists.{ListsState}
use Rattle.source_views.specs.Texts.{told_text}
use Rattle.flame_tool.specs.Facts.{told_whole}
use Rattle.flame_tool.specs.Pages.{sources_of}
use Rattle.flame_tool.specs.Pictures.{common_unit, types_with_weight, units_with_weight}
use Rattle.source_views.specs.Failures.{Sends}
use Rattle.flame_tool.proofs.sent_texts.send_asked_view.Goals as goal

pub returns-clause-sent : goal.returns-clause-sent
returns-clause-sent g c =
    let plan = c.args.plan.now in
    let facts = c.args.facts.now in
    let lists = samples_of c.args.sources.lists in
    let described = ap (map source_of) c.deref.ensures.value ∙ c.in_ok-described.ensures ∙ (λ i. sources_of plan.unit (c.get-files.ensures i) (c.get-types.ensures i) lists) in
    let telling : List PageSource → Told = λ sources. record { whole = told_whole plan facts; type_name = common_unit (types_with_weight sources); unit = common_unit (units_with_weight sources) } in
    let sent = subst (λ (run : ListsState). Sends (told_text (told_of c.telling.result) plan.view (samples_of run.lists) run.order plan.options.every) (g.W.Outlet.contents c.args.out.now) (g.W.Outlet.contents c.send_view.new.out) c.send_view.result) c.given.ensures c.send_view.ensures.sent in
    subst (λ (told : Told). Sends (told_text told plan.view lists c.args.sources.order plan.options.every) (g.W.Outlet.contents c.args.out.now) (g.W.Outlet.contents c.send_view.new.out) c.send_view.result)
    (c.telling.ensures ∙ ap telling described) sent
