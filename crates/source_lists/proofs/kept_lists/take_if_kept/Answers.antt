use Rattle.std.proofs.Common.{◌∙◌, ◌++◌, ◌∷◌, [], cond, ap, sym}
use Rattle.sample_tables.specs.Rows.{named, row_by, sample_at}
use Rattle.stack_core.specs.Ledgers.{LedgerState}
use Rattle.source_lists.proofs.KeptLemmas.{taken_again}
use Rattle.source_lists.proofs.kept_lists.take_if_kept.Goals as goal

pub returns-in_ok-take_again-clause-samples : goal.returns-in_ok-take_again-clause-samples
returns-in_ok-take_again-clause-samples c = λ passes flags.
    let list = c.args.list.now in
    let old = c.args.ledger.now in
    let sample = sample_at list.samples c.args.at in
    let n = c.stack_number.result in
    let w = c.weight.result in
    let kept = sym c.if-is_kept.true ∙ c.is_kept.ensures.kept passes flags in
    ap (λ (ledger : LedgerState). ledger.samples) c.in_ok-take_again.ensures.ok
    ∙ ((λ i. old.samples ++ named (c.requires.told i) (row_by (c.requires.stacks i) (record { stack = n; weight = w })) ∷ [])
    ∙ (ap (λ one. old.samples ++ one ∷ []) (taken_again list c.args.at n w c.is_kept.ensures.named c.requires.within c.stack_number.ensures.frames c.weight.ensures.value)
    ∙ ap (λ b. old.samples ++ cond b (sample ∷ []) []) kept))
