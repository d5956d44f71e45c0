use Rattle.std.proofs.Common.{◌∙◌, ◌≤◌, List, All, ap, arith, length, map, subst, sym}
use Rattle.std.specs.Arc.{arc_value}
use Rattle.std.specs.Prelude.{IfOk}
use Rattle.std.proofs.lemmas.List.{length-map}
use Rattle.std.proofs.lemmas.Result.{IfOk-weaker}
use Rattle.stack_core.specs.Reading.{Rest, IsSourceLimited}
use Rattle.source_lists.specs.Lists.{AreLimited}
use Rattle.source_lists.specs.Runs.{ReadsLists}
use Rattle.source_lists.specs.Sources.{asked_rest, whole_rest}
use Rattle.source_lists.specs.checked.Readers.{filtered_rest, reader_rest}
use Rattle.source_lists.proofs.FilteredSources.{whole_is_kept}
use Rattle.source_lists.proofs.ListLemmas.{read_limited}
use Rattle.source_lists.proofs.runners.Runner.collect_asked.Goals as goal

pub returns-in_ok-readers-clause-reads : goal.returns-in_ok-readers-clause-reads
returns-in_ok-readers-clause-reads g c =
    let gate = arc_value c.args.gate in
    let rests = c.in_ok-readers.ensures.rests ∙ whole_is_kept c.args.self.now.options.now c.args.sources.items (sym c.is_everything.ensures ∙ c.if-is_everything.true) in
    subst (λ rests. IfOk c.run_rows.result (λ run. ReadsLists (g.G.Gate.may_stop gate) (g.G.Gate.may_go gate) rests run.lists.items run.order.items)) rests c.run_rows.ensures.reads

pub returns-in_ok-readers-clause-limits : goal.returns-in_ok-readers-clause-limits
returns-in_ok-readers-clause-limits g c =
    let readers = c.in_ok-readers.readers.items in
    let rests = c.in_ok-readers.ensures.rests in
    let limits = subst (λ (rests : List Rest). All (λ rest. IsSourceLimited rest.samples) rests) (sym rests) c.in_ok-readers.ensures.limits in
    let few : length (map reader_rest readers) ≤ 64 = omega (arith, ap length rests, length-map c.args.sources.items (whole_rest c.args.self.now.options.now), c.requires) in
    IfOk-weaker c.run_rows.result _ (λ run. AreLimited run.lists.items) (λ run reads. read_limited _ _ (map reader_rest readers) run.lists.items reads.collected limits few) c.run_rows.ensures.reads

pub returns-in_ok-readers-2-clause-limits : goal.returns-in_ok-readers-2-clause-limits
returns-in_ok-readers-2-clause-limits g c =
    let readers = c.in_ok-readers-2.readers.items in
    let rests = c.in_ok-readers-2.ensures.rests in
    let limits = subst (λ (rests : List Rest). All (λ rest. IsSourceLimited rest.samples) rests) (sym rests) c.in_ok-readers-2.ensures.limits in
    let few : length (map filtered_rest readers) ≤ 64 = omega (arith, ap length rests, length-map c.args.sources.items (λ input. asked_rest c.args.self.now.options.now input.0 input.1), c.requires) in
    IfOk-weaker c.run_filtered.result _ (λ run. AreLimited run.lists.items) (λ run reads. read_limited _ _ (map filtered_rest readers) run.lists.items reads.collected limits few) c.run_filtered.ensures.reads
