use Rattle.std.proofs.Common.{◌∙◌, ap, sym}
use Rattle.std.specs.Prelude.{unwrap_or}
use Rattle.run_options.specs.declared.orders.FunctionOrder.TheVariants.{Own}
use Rattle.command_line.proofs.ReadEntries.{order_given}
use Rattle.command_line.proofs.views.order.Goals as goal

pub returns-in-Some : goal.returns-in-Some
returns-in-Some c = c.unwrap_or.ensures ∙ ap (λ o. unwrap_or o Own) c.named.ensures ∙ sym (order_given c.args.entries.now _ c.in-Some.ensures).0

pub returns-in-None : goal.returns-in-None
returns-in-None c = sym (order_given c.args.entries.now _ c.in-None.ensures).0
