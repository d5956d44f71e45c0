use Rattle.std.proofs.Common.{◌≡◌, ◌∙◌, ◌<◌, ◌++◌, ◌∷◌, [], List, ap, append_assoc, arith, get_or, length, sym, take}
use Rattle.std.proofs.lemmas.List.{take_more}
use Rattle.sample_tables.specs.Rows.{named, row_by, sample_at}
use Rattle.sample_tables.specs.declared.samples.Sample.{Sample}
use Rattle.stack_core.specs.Ledgers.{LedgerState}
use Rattle.source_lists.proofs.JoinLemmas.{stack_found, taken_found}
use Rattle.source_lists.proofs.part_lists.take_samples.Goals as goal

pub bounds-stacks-stack_number : goal.bounds-stacks-stack_number
bounds-stacks-stack_number c =
    let old = c.args.ledger.now in
    (stack_found old.told old.stacks c.args.list.now c.args.stacks.now c.stack_number.result c.requires.stacks c.stack_number.ensures.kept).0

pub take_again-requires-clause-kept : goal.take_again-requires-clause-kept
take_again-requires-clause-kept c =
    let old = c.args.ledger.now in
    let found = stack_found old.told old.stacks c.args.list.now c.args.stacks.now c.stack_number.result c.requires.stacks c.stack_number.ensures.kept in
    omega (arith, found.1, ap length c.loop-at.invariant.stacks)

pub loop-at-preserved : goal.loop-at-preserved
loop-at-preserved c =
    let list = c.args.list.now in
    let old = c.args.ledger.now in
    let numbers = c.args.stacks.now in
    let at = c.loop-at.at in
    let n = c.stack_number.result in
    let w = c.weight.result in
    let h = c.loop-at.invariant in
    let within : at < length list.samples = omega (arith, c.len-at-end.ensures.count, c.loop-at-test.true) in
    let taken = c.in_ok-take_again.ensures.ok in
    let one = taken_found old.told old.stacks list numbers at n w c.len-at-end.ensures.named within c.stack_number.ensures.kept c.stack_number.ensures.frames c.weight.ensures.value c.requires.stacks in
    let sample : named c.loop-at.ledger.told (row_by c.loop-at.ledger.stacks (record { stack = get_or numbers n 0; weight = w })) ≡ sample_at list.samples at =
    (λ i. named (h.told i) (row_by (h.stacks i) (record { stack = get_or numbers n 0; weight = w }))) ∙ one in
    record {
      open_ = ap (λ (ledger : LedgerState). ledger.close) taken ∙ h.open_;
      told = ap (λ (ledger : LedgerState). ledger.told) taken ∙ h.told;
      stacks = ap (λ (ledger : LedgerState). ledger.stacks) taken ∙ h.stacks;
      samples =
          ap (λ (ledger : LedgerState). ledger.samples) taken
          ∙ ((λ i. h.samples i ++ sample i ∷ [])
          ∙ (append_assoc old.samples (take at list.samples) (sample_at list.samples at ∷ [])
          ∙ ap (λ (samples : List Sample). old.samples ++ samples) (sym (take_more list.samples at (record { stack = []; weight = 0 }) within))));
    }
