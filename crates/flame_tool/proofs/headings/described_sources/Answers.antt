use Rattle.std.proofs.Common.{◌∙◌, ap, map, rules, string_bytes}
use Rattle.stack_core.specs.Ledgers.{ListState}
use Rattle.merged_stacks.specs.Timeline.{samples_of, total_weight}
use Rattle.flame_tool.proofs.PageLemmas.{told_more, told_source}
use Rattle.source_views.proofs.TextLemmas.{listed_samples}
use Rattle.flame_tool.proofs.headings.described_sources.Goals as goal

pub loop-at-preserved : goal.loop-at-preserved
loop-at-preserved c =
    let files = map string_bytes c.args.files.now in
    let lists = c.args.sources.now.lists in
    let list = c.index-lists-at.result in
    let samples = ap (λ (list : ListState). list.samples) c.index-lists-at.is ∙ listed_samples lists c.lists-lists.result.now c.loop-at.at list c.lists-lists.ensures.lists (search rules) in
    let here = told_source c.described_source.result c.args.unit files c.args.types.now (samples_of lists) c.loop-at.at (c.described_source.ensures.name ∙ c.path_of.ensures) c.described_source.ensures.type_name c.described_source.ensures.unit
    (c.described_source.ensures.weight ∙ ap total_weight samples) in
    told_more c.args.unit files c.args.types.now (samples_of lists) c.loop-at.at c.loop-at.described.items _ c.described_source.result c.in_ok-push.ensures.items c.loop-at.invariant here
