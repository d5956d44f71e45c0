use Rattle.std.proofs.Common.{◌∙◌, string_bytes, sym}
use Rattle.flame_tool.specs.NextSteps.{asks_format}
use Rattle.flame_tool.proofs.MappedTests.{list_any-map}
use Rattle.flame_tool.proofs.step_commands.has_format.Goals as goal

pub returns : goal.returns
returns c = c.any_asks_format.ensures ∙ sym (list_any-map asks_format string_bytes c.args.words.now)
