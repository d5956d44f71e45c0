use Rattle.std.proofs.Common.{◌∙◌, ◌<◌, ◌++◌, ◌∷◌, [], ap, arith, length, map, take}
use Rattle.sample_tables.specs.Rows.{named, row_by}
use Rattle.sample_tables.specs.declared.samples.Sample.{Sample}
use Rattle.stack_core.specs.Ledgers.{LedgerState}
use Rattle.source_lists.specs.checked.CutStacks.{edited_sample, shown_numbers, shown_stack}
use Rattle.source_lists.proofs.CutLemmas.{cut_again, cut_more}
use Rattle.source_lists.proofs.cut_lists.cut_list.Goals as goal

pub loop-at-preserved : goal.loop-at-preserved
loop-at-preserved c =
    let list = c.args.list.now in
    let from = c.args.from.now in
    let omitted = c.args.omitted.now in
    let edit = edited_sample (shown_stack from omitted) in
    let at = c.loop-at.at in
    let n = c.stack_number.result in
    let w = c.weight.result in
    let before = c.loop-at.invariant in
    let within : at < length list.samples = omega (arith, c.len-at-end.ensures.count) in
    let front = map edit (take at list.samples) in
    let taken = c.in_ok-take_again.ensures.ok in
    record {
      open_ = ap (λ (ledger : LedgerState). ledger.close) taken ∙ before.open_;
      told = ap (λ (ledger : LedgerState). ledger.told) taken ∙ before.told;
      stacks = ap (λ (ledger : LedgerState). ledger.stacks) taken ∙ before.stacks;
      samples =
          ap (λ (ledger : LedgerState). ledger.samples) taken
          ∙ ((λ i. before.samples i ++ named (before.told i) (row_by (before.stacks i) (record { stack = n; weight = w })) ∷ [])
          ∙ ((λ i. front ++ named list.told (row_by (map (shown_numbers (c.in_ok-starts.ensures i) (c.in_ok-left_out.ensures i)) list.stacks) (record { stack = n; weight = w })) ∷ [])
          ∙ (ap (λ (one : Sample). front ++ one ∷ []) (cut_again from omitted list at n w c.len-at-end.ensures.named within c.stack_number.ensures.kept c.stack_number.ensures.frames c.weight.ensures.value)
          ∙ cut_more (shown_stack from omitted) list.samples at within)));
    }

pub into_list-requires : goal.into_list-requires
into_list-requires c = (c.ending.result.now, ap (λ (ledger : LedgerState). ledger.close) c.close.ensures)
