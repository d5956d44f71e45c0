use Rattle.std.proofs.Common.{map, string_bytes}
use Rattle.std.proofs.lemmas.Option.{IfSome_then}
use Rattle.flame_tool.specs.checked.LivePlans.{IsLivePlan}
use Rattle.flame_tool.proofs.live_run.live_plan.Goals as goal

pub returns-in-Ok : goal.returns-in-Ok
returns-in-Ok c = record {
  plan = IfSome_then c.in-Ok.found {P = IsLivePlan (map string_bytes c.args.words.now)} c.in-Ok.ensures (λ plan is. is.asked);
  form = IfSome_then c.in-Ok.found {P = IsLivePlan (map string_bytes c.args.words.now)} c.in-Ok.ensures (λ plan is. is.live);
  live = IfSome_then c.in-Ok.found {P = IsLivePlan (map string_bytes c.args.words.now)} c.in-Ok.ensures (λ plan is. is.streams);
  every = IfSome_then c.in-Ok.found {P = IsLivePlan (map string_bytes c.args.words.now)} c.in-Ok.ensures (λ plan is. is.every);
}
