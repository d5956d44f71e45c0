use Rattle.std.proofs.Common.{◌∙◌}
use Rattle.merged_stacks.specs.RankedStacks.{ranked_samples}
use Rattle.merged_stacks.proofs.MergedRows.{as_true}
use Rattle.view_texts.proofs.MergedLines.{merged_text}
use Rattle.view_texts.proofs.TextPieces.{stack_lines-text}
use Rattle.view_texts.proofs.merged_lines.FoldedText.of.Goals as goal

pub returns-clause-text : goal.returns-clause-text
returns-clause-text c samples same =
    let stacks = ranked_samples c.args.merged.now in
    stack_lines-text stacks ∙ merged_text stacks samples (as_true _ c.len-count.ensures.in_order) c.len-count.ensures.positive same
