use Rattle.std.proofs.Common.{◌≡◌, ◌∙◌, List, IfSome, ap, map, subst}
use Rattle.std.proofs.lemmas.Simd.{map-map}
use Rattle.std.specs.Arc.{arc_value}
use Rattle.run_options.specs.declared.options.Options.{Options}
use Rattle.stack_core.specs.Reading.{Rest}
use Rattle.source_lists.specs.Runs.{ReadsLists}
use Rattle.source_lists.specs.Sources.{asked_rest, asked_rests, format_and_bytes, known_inputs, rests_of}
use Rattle.source_lists.specs.declared.sources.Source.{Source}
use Rattle.source_lists.proofs.KnownInputs.{known_of_sources}
use Rattle.source_views.proofs.whole_run.read_loaded.Goals as goal

same_rests : (options : Options) (sources : List Source) → asked_rests options (map format_and_bytes sources) ≡ rests_of options sources
same_rests options sources = map-map (λ input. asked_rest options input.0 input.1) format_and_bytes sources

pub returns-in-Ok-clause-reads : goal.returns-in-Ok-clause-reads
returns-in-Ok-clause-reads g c =
    let options = c.args.options.now in
    let sources = c.args.sources.items in
    let run = c.in-Ok.run' in
    let reads : List Rest → Type 0 = λ rests. ReadsLists (g.G.Gate.may_stop (arc_value c.args.gate)) (g.G.Gate.may_go (arc_value c.args.gate)) rests run.kept.lists run.kept.order in
    let known = ap known_inputs c.in_ok-inputs.ensures ∙ known_of_sources sources in
    subst reads (same_rests options sources) (subst (λ known. IfSome known (λ sources. reads (asked_rests options sources))) known c.in-Ok.ensures.reads)
