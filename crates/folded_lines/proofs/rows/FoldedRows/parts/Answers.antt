use Rattle.std.proofs.Common.{◌∙◌, ℕ, List, ap, map, subst}
use Rattle.std.specs.List.{concat}
use Rattle.std.specs.Result.{IfOk}
use Rattle.stack_core.specs.Parts.{ReadsInParts}
use Rattle.folded_lines.specs.Reading.{read_folded}
use Rattle.folded_lines.specs.State.{State}
use Rattle.folded_lines.proofs.rows.FoldedRows.parts.Goals as goal

pub returns-clause-parts : goal.returns-clause-parts
returns-clause-parts c =
    subst (λ (text : List ℕ). IfOk c.of_parts.result (λ readers. ReadsInParts (read_folded text) (map (λ (reader : State). reader.rest) readers.items)))
    (ap concat c.deref.ensures.value ∙ c.in_ok-cut_at_lines.ensures.whole) c.of_parts.ensures.parts
