use Rattle.std.proofs.Common.{Bool, IfOk, IfSome, map, subst}
use Rattle.std.specs.List.{AllZip}
use Rattle.ring_collect.specs.Collection.{seen_as_rest}
use Rattle.source_lists.specs.Sources.{asked_rests, known_inputs}
use Rattle.source_lists.specs.Summing.{IsFound}
use Rattle.flame_tool.specs.checked.SummedPlans.{is_summed}
use Rattle.flame_tool.proofs.FoundSources.{open_found}
use Rattle.flame_tool.proofs.views_run.read_sources.Goals as goal

pub returns-then-plan-clause-found : goal.returns-then-plan-clause-found
returns-then-plan-clause-found g c =
    subst (λ (is_summed : Bool). IfOk c.read_open.result (λ run. IfSome (known_inputs c.args.inputs.items) (λ sources. AllZip (IsFound is_summed) (asked_rests c.args.plan.now.options sources) (map seen_as_rest run.kept.lists))))
    c.is_summed.ensures c.read_open.ensures.found

pub returns-clause-found : goal.returns-clause-found
returns-clause-found g c = open_found (is_summed c.args.plan.now) c.args.plan.now.options (known_inputs c.args.inputs.items) c.read_open-run.result c.read_open-run.ensures.found
