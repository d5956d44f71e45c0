use Rattle.std.proofs.Common.{IfSome, subst, sym}
use Rattle.std.specs.Prelude.{IfOk}
use Rattle.source_lists.specs.Runs.{MayGo, MayStop, ReadsLists}
use Rattle.source_lists.specs.Sources.{asked_rests, known_inputs}
use Rattle.source_lists.specs.declared.gating.Gating.{Gating}
use Rattle.source_lists.proofs.FilteredSources.{open_run}
use Rattle.source_lists.proofs.reading.read.Goals as goal

pub returns-in-Open-clause-reads : goal.returns-in-Open-clause-reads
returns-in-Open-clause-reads g c =
    subst (λ (gating : Gating g.row.G.Denot). IfOk c.read_open.result (λ run. IfSome (known_inputs c.args.inputs.items) (λ sources.
    ReadsLists (MayStop g.G.Gate.may_stop gating) (MayGo g.G.Gate.may_go gating) (asked_rests c.args.options.now sources) run.kept.lists run.kept.order)))
    (sym c.in-Open.is) (open_run c.args.options.now (known_inputs c.args.inputs.items) c.read_open.result c.read_open.ensures.found c.read_open.ensures.ordered)

pub returns-in-Asked-clause-reads : goal.returns-in-Asked-clause-reads
returns-in-Asked-clause-reads g c =
    subst (λ (gating : Gating g.row.G.Denot). IfOk c.read_asked.result (λ run. IfSome (known_inputs c.args.inputs.items) (λ sources.
    ReadsLists (MayStop g.G.Gate.may_stop gating) (MayGo g.G.Gate.may_go gating) (asked_rests c.args.options.now sources) run.kept.lists run.kept.order)))
    (sym c.in-Asked.is) c.read_asked.ensures.reads
