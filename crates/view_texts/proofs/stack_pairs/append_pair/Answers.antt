use Rattle.std.proofs.Common.{[], ap, rules}
use Rattle.std.proofs.lemmas.List.{get_or-map}
use Rattle.sample_tables.specs.declared.samples.Sample.{Sample}
use Rattle.byte_io.proofs.PieceTexts.{further}
use Rattle.sample_tables.specs.Rows.{sample_at}
use Rattle.merged_stacks.specs.Paired.{PairedStack, pair_at, side_samples, sum_of}
use Rattle.merged_stacks.specs.declared.paired_sides.Side.TheVariants.{Before}
use Rattle.view_texts.proofs.Fronts.{longer_front, same_front}
use Rattle.view_texts.proofs.MergedLines.{pair_line_written}
use Rattle.view_texts.proofs.stack_pairs.append_pair.Goals as goal

pub returns-in_err-append_column-clause-front : goal.returns-in_err-append_column-clause-front
returns-in_err-append_column-clause-front c = further _ _ _ _ c.append_column.ensures.front c.in_ok-append_names.ensures.ok

pub returns-in_err-append_column-2-clause-front : goal.returns-in_err-append_column-2-clause-front
returns-in_err-append_column-2-clause-front c =
    further _ _ _ _ (further _ _ _ _ c.append_column-2.ensures.front c.in_ok-append_column.ensures.ok) c.in_ok-append_names.ensures.ok

pub returns-in_err-push-clause-front : goal.returns-in_err-push-clause-front
returns-in_err-push-clause-front c =
    further _ _ _ _ (further _ _ _ _ (further _ _ _ _ (same_front _ _ c.in_err-push.ensures.items) c.in_ok-append_column-2.ensures.ok)
    c.in_ok-append_column.ensures.ok) c.in_ok-append_names.ensures.ok

pub returns-clause-ok : goal.returns-clause-ok
returns-clause-ok c =
    let stacks = c.args.stacks.now in
    let pair = pair_at stacks c.args.at in
    let named = sample_at (side_samples Before stacks) c.args.at in
    let shown = ap (λ (sample : Sample). sample.stack)
    (get_or-map (λ (pair : PairedStack). record { stack = pair.stack; weight = sum_of Before pair }) stacks c.args.at (record { stack = []; before = 0; after = 0 }) (record { stack = []; weight = 0 }) c.requires) in
    pair_line_written named.stack pair.stack _ _ pair.before pair.after _ _ _ _ _ shown (search rules) (search rules)
    c.in_ok-append_names.ensures.ok c.in_ok-append_column.ensures.ok c.in_ok-append_column-2.ensures.ok c.in_ok-push.ensures.items

pub returns-clause-front : goal.returns-clause-front
returns-clause-front c =
    further _ _ _ _ (further _ _ _ _ (further _ _ _ _ (longer_front _ _ _ c.in_ok-push.ensures.items) c.in_ok-append_column-2.ensures.ok)
    c.in_ok-append_column.ensures.ok) c.in_ok-append_names.ensures.ok
