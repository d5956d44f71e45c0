use Rattle.std.proofs.Common.{◌≡◌, ◌≤◌, ℕ, IfSome, None, Option, Some, subst, sym}
use Rattle.command_line.specs.declared.plans.Form.TheVariants as form
use Rattle.command_line.specs.declared.plans.Plan.{Plan}
use Rattle.flame_tool.proofs.live_run.asked_live.Goals as goal

-- what holds of a plan of `live` holds of the plan that is answered
of_plan : (answer : Option Plan) (plan : Plan) (P : Plan → Type 0) → IfSome answer (λ other. other ≡ plan) → IfSome answer (λ _. plan.form ≡ form.Live) → (plan.form ≡ form.Live → P plan) → IfSome answer P
of_plan None plan P same live holds = tt
of_plan (Some other) plan P same live holds = subst P (sym same) (holds live)

at_least_one : (every : Option ℕ) → IfSome every (λ every. (1 ≤ every) × (every ≤ 1000000000)) → IfSome every (λ every. 1 ≤ every)
at_least_one None within = tt
at_least_one (Some every) within = within.0

pub returns-in-Ok : goal.returns-in-Ok
returns-in-Ok c = of_plan c.if_live.result c.in-Ok.plan _ c.if_live.ensures.same c.if_live.ensures.form (λ live. record {
  asked = c.in-Ok.ensures.plan;
  live = live;
  streams = c.in-Ok.ensures.live live;
  every = at_least_one _ c.in-Ok.ensures.every;
})
