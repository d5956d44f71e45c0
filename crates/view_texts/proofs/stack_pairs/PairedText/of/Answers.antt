use Rattle.std.proofs.Common.{◌∙◌, ap}
use Rattle.std.specs.List.{concat}
use Rattle.view_texts.specs.Pieces.{pair_lines}
use Rattle.view_texts.proofs.StackPairs.{paired_text}
use Rattle.view_texts.proofs.stack_pairs.PairedText.of.Goals as goal

pub returns-clause-text : goal.returns-clause-text
returns-clause-text c before after is = ap (λ stacks. concat (pair_lines stacks)) is ∙ paired_text before after
