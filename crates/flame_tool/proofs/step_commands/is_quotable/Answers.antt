use Rattle.std.proofs.Common.{◌∙◌, ap, not, string_bytes, sym}
use Rattle.flame_tool.specs.NextSteps.{has_quote}
use Rattle.flame_tool.proofs.MappedTests.{list_any-map}
use Rattle.flame_tool.proofs.step_commands.is_quotable.Goals as goal

pub returns : goal.returns
returns c = ap not (c.any_is_quoted.ensures ∙ sym (list_any-map has_quote string_bytes c.args.words.now))
