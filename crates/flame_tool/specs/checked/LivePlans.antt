-- What is known of a plan of `live`.
use Rattle.std.specs.Prelude.{◌≡◌, ◌≤◌, List, IfSome, Some}
use Rattle.clap.specs.Walk.{Text}
use Rattle.command_line.specs.Plans.{IsOfStreams, plan_of}
use Rattle.command_line.specs.declared.plans.Form.TheVariants as form
use Rattle.command_line.specs.declared.plans.Plan.{Plan}

-- the words ask for it, and it can be run
pub record IsLivePlan (words : List Text) (plan : Plan) : Type 0 where
  pub asked : plan_of words ≡ Some plan
  pub live : plan.form ≡ form.Live
  pub streams : IsOfStreams plan
  pub every : IfSome plan.options.every (λ every. 1 ≤ every)
