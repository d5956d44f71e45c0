use Rattle.std.proofs.Common.{◌∙◌, ap, inr, map, string_bytes, sym}
use Rattle.command_line.specs.Plans.{plan_of}
use Rattle.flame_tool.specs.Delivery.{is_whole_live}
use Rattle.flame_tool.specs.checked.LivePlans.{IsLivePlan}
use Rattle.flame_tool.proofs.KnownSources.{at_known}
use Rattle.flame_tool.proofs.delivery.run_asked.Goals as goal

pub live-status-requires-clause-live : goal.live-status-requires-clause-live
live-status-requires-clause-live g c =
    λ κs lives. (at_known (IsLivePlan (map string_bytes c.as_slice.result.now)) _ c.in-Some.is c.in_ok-plan.ensures).streams

pub live-status-requires-clause-every : goal.live-status-requires-clause-every
live-status-requires-clause-every g c =
    λ κs lives. (at_known (IsLivePlan (map string_bytes c.as_slice.result.now)) _ c.in-Some.is c.in_ok-plan.ensures).every

pub returns-in-Some-clause-ran : goal.returns-in-Some-clause-ran
returns-in-Some-clause-ran g c =
    let found = at_known (IsLivePlan (map string_bytes c.as_slice.result.now)) _ c.in-Some.is c.in_ok-plan.ensures in inr (record {
      plan = c.in-Some.plan;
      asked = ap (λ words. plan_of (map string_bytes words)) (sym c.as_slice.ensures.value) ∙ found.asked;
      live = found.live;
      shows = rw c.of_live.ensures.status c.live-status.ensures;
      whole = c.of_live.ensures.whole ∙ ap is_whole_live (sym c.of_live.ensures.status);
    })
