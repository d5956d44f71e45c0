use Rattle.std.proofs.Common.{◌∙◌, sym, ap, subst, [], ◌∷◌, append-nil}
use Rattle.stack_core.specs.Records.{stands_for, names_told, IsWellTold}
use Rattle.stack_core.specs.Told.{IsToldUnder}
use Rattle.stack_core.specs.declared.records.RingRecord.TheVariants.{Close}
use Rattle.stack_core.proofs.RecordLemmas.{names_told-append, stands_for-append, IsWellTold-append}
use Rattle.ring_collect.specs.checked.Batches.{told_to}
use Rattle.ring_collect.proofs.tellers.Teller.tell_source.Goals as goal

pub returns-clause-told : goal.returns-clause-told
returns-clause-told g c =
    let told = told_to c.tell_samples-close.new.self.outlet in
    let all = c.close.ensures.sent in
    let close = c.tell_samples-close.result in
    let samples = c.tell_samples-close.ensures in
    record {
      rest = samples.told.rest;
      is_given = samples.told.is_given;
      holds = record {
        well_told = subst IsWellTold (sym all) (IsWellTold-append told (Close close ∷ []) samples.well_told tt);
        is_told = subst (IsToldUnder (g.G.Gate.may_stop c.args.gate.now) (g.G.Gate.may_go c.args.gate.now) c.args.source samples.told.rest)
            (sym (ap stands_for all ∙ stands_for-append told (Close close ∷ []))) samples.told.holds;
        is_closed = (told, close, all);
        in_order = λ read ending is.
            ap names_told all ∙ names_told-append told (Close close ∷ []) ∙ append-nil (names_told told)
            ∙ samples.in_order read ending (sym (ap stands_for all ∙ stands_for-append told (Close close ∷ [])) ∙ is);
      };
    }
