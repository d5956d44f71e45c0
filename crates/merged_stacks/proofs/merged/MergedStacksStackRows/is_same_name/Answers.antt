use Rattle.std.proofs.Common.{◌∙◌, ap, eq-eqb, sym}
use borrow.Author.Tests.{eqb-true}
use Rattle.sample_tables.specs.Rows.{name_at}
use Rattle.merged_stacks.proofs.JoinedStacks.{frame_at, names_distinct}
use Rattle.merged_stacks.proofs.merged.MergedStacksStackRows.is_same_name.Goals as goal

pub returns : goal.returns
returns c =
    let names = c.args.self.now.names in
    let one = (frame_at c.args.self.now c.args.at c.args.frame c.requires.at c.requires.deep).name ∙ ap (name_at names) (sym c.rank.ensures.value) in
    let other = (frame_at c.args.self.now c.args.later c.args.frame c.requires.later c.requires.later_deep).name ∙ ap (name_at names) (sym c.rank-2.ensures.value) in (
      (λ t. one ∙ ap (name_at names) (eqb-true _ _ t) ∙ sym other),
      (λ e. eq-eqb _ _ (names_distinct names c.name_count-count.ensures.rising _ _ c.rank.ensures.known c.rank-2.ensures.known (sym one ∙ e ∙ other))),
    )
