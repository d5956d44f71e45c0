use Rattle.std.proofs.Common.{◌∙◌, sym, ap}
use Rattle.sample_tables.specs.Rows.{name_at}
use Rattle.sample_tables.specs.declared.samples.Sample.{Sample}
use Rattle.merged_stacks.specs.declared.paired_sides.Side.TheVariants.{After}
use Rattle.merged_stacks.proofs.SideSamples.{side_within, side_at, side_deep}
use Rattle.merged_stacks.proofs.paired_sides.PairedStacksStackRows.is_same_name.Goals as goal

pub is_same_name-requires-clause-at : goal.is_same_name-requires-clause-at
is_same_name-requires-clause-at c = side_within After c.args.self.now c.args.at c.requires.at

pub is_same_name-requires-clause-later : goal.is_same_name-requires-clause-later
is_same_name-requires-clause-later c = side_within After c.args.self.now c.args.later c.requires.later

pub is_same_name-requires-clause-deep : goal.is_same_name-requires-clause-deep
is_same_name-requires-clause-deep c = side_deep After c.args.self.now c.args.at c.args.frame c.requires.at c.requires.deep

pub is_same_name-requires-clause-later_deep : goal.is_same_name-requires-clause-later_deep
is_same_name-requires-clause-later_deep c = side_deep After c.args.self.now c.args.later c.args.frame c.requires.later c.requires.later_deep

pub returns : goal.returns
returns c =
    let one = ap (λ (sample : Sample). name_at sample.stack c.args.frame) (side_at After c.args.self.now c.args.at c.requires.at) in
    let other = ap (λ (sample : Sample). name_at sample.stack c.args.frame) (side_at After c.args.self.now c.args.later c.requires.later) in (
      (λ t. one ∙ c.is_same_name.ensures.0 t ∙ sym other),
      (λ e. c.is_same_name.ensures.1 (sym one ∙ e ∙ other)),
    )
