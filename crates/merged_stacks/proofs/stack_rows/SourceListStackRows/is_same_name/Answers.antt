use Rattle.std.proofs.Common.{◌∙◌, sym}
use Rattle.std.proofs.lemmas.Slice.Eq.{bytes_eq-Decides}
use Rattle.merged_stacks.proofs.stack_rows.SourceListStackRows.is_same_name.Goals as goal

pub returns : goal.returns
returns c =
    let same = bytes_eq-Decides c.name.result.now c.name-2.result.now in (
      (λ t. sym c.name.ensures ∙ same.0 (sym c.eq.ensures ∙ t) ∙ c.name-2.ensures),
      (λ e. c.eq.ensures ∙ same.1 (c.name.ensures ∙ e ∙ sym c.name-2.ensures)),
    )
