use Rattle.flame_tool.proofs.TypeEndings.{sent_types, unsent_types}
use Rattle.std.proofs.Common.{rules}
use Rattle.flame_tool.proofs.types_run.show_types_of.Goals as goal

pub returns-in-Ok : goal.returns-in-Ok
returns-in-Ok g c = record {
  done = sent_types c.args.profile.now c.in-Ok.types _ _ c.in-Ok.ensures.faultless c.in-Ok.ensures.types c.send_types.result c.send_types.ensures.sent;
  failed = unsent_types c.args.profile.now c.in-Ok.types _ _ c.in-Ok.ensures.faultless c.in-Ok.ensures.types c.send_types.result c.send_types.ensures.sent;
  kept = search rules;
  none = search rules;
  says = search rules;
  few = search rules;
  flushed = search rules;
}
