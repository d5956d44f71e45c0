use Rattle.std.proofs.Common.{◌∙◌, ◌<◌, ◌++◌, ◌∷◌, [], List, ap, arith, length, sym}
use Rattle.std.proofs.lemmas.List.{take_all}
use Rattle.sample_tables.specs.Rows.{sample_at}
use Rattle.sample_tables.specs.declared.samples.Sample.{Sample}
use Rattle.stack_core.specs.Ledgers.{LedgerState}
use Rattle.source_lists.specs.checked.KeptStacks.{passing_samples}
use Rattle.source_lists.proofs.KeptLemmas.{kept_more, same_ending}
use Rattle.source_lists.proofs.kept_lists.kept_list.Goals as goal

pub loop-at-preserved : goal.loop-at-preserved
loop-at-preserved c =
    let samples = c.args.list.now.samples in
    let at = c.loop-at.at in
    let within : at < length samples = omega (arith, c.len-at-end.ensures.count) in
    record {
      open_ = c.in_ok-take_if_kept.ensures.open;
      told = c.in_ok-take_if_kept.ensures.told;
      stacks = c.in_ok-take_if_kept.ensures.stacks;
      samples = λ passes flags.
          c.in_ok-take_if_kept.ensures.samples passes flags
          ∙ (ap (λ (front : List Sample). front ++ passing_samples passes (sample_at samples at ∷ [])) (c.loop-at.invariant.samples passes flags) ∙ kept_more passes samples at within);
    }

pub into_list-requires : goal.into_list-requires
into_list-requires c = (c.ending.result.now, ap (λ (ledger : LedgerState). ledger.close) c.close.ensures)

pub returns : goal.returns
returns c = λ passes flags.
    let samples = c.args.list.now.samples in
    let all =
    c.into_list.ensures.samples
    ∙ (ap (λ (ledger : LedgerState). ledger.samples) c.close.ensures
    ∙ (c.loop-at.invariant.samples passes flags ∙ ap (passing_samples passes) (take_all c.loop-at.at samples (omega (arith, c.len-at-end.ensures.count))))) in
    let ending =
    same_ending c.into_list.result.ending c.ending.result.now (sym c.into_list.ensures.close ∙ ap (λ (ledger : LedgerState). ledger.close) c.close.ensures)
    ∙ c.ending.ensures in
    λ i. record { samples = all i; ending = ending i }
