use Rattle.std.proofs.lemmas.Result.{IfOk-from_err}
use Rattle.std.proofs.Common.{sym, ◌∙◌}
use Rattle.profile_messages.proofs.FirstLemmas.{first-append_none}
use Rattle.profile_messages.proofs.PickLemmas.{chosen-is}
use Rattle.profile_messages.proofs.checked_profile.checked_choice.Goals as goal

pub returns-in-Some-type_fault-clause-fault : goal.returns-in-Some-type_fault-clause-fault
returns-in-Some-type_fault-clause-fault c =
    first-append_none _ _ (sym (c.in_default.ensures c.args.file.now c.requires))
    ∙ sym (c.in-Some-type_fault.ensures c.args.pick.now (c.in_ok-chosen.ensures ∙ chosen-is c.args.file.now c.args.profile.now c.args.pick.now c.requires))

pub returns-in-None-clause-faultless : goal.returns-in-None-clause-faultless
returns-in-None-clause-faultless c =
    first-append_none _ _ (sym (c.in_default.ensures c.args.file.now c.requires))
    ∙ sym (c.in-None.ensures c.args.pick.now (c.in_ok-chosen.ensures ∙ chosen-is c.args.file.now c.args.profile.now c.args.pick.now c.requires))

pub returns-in-None-clause-chosen : goal.returns-in-None-clause-chosen
returns-in-None-clause-chosen c = c.in_ok-chosen.ensures ∙ chosen-is c.args.file.now c.args.profile.now c.args.pick.now c.requires

pub returns-in_err-chosen-clause-faultless : goal.returns-in_err-chosen-clause-faultless
returns-in_err-chosen-clause-faultless c = IfOk-from_err _ _ c.from_residual.ensures.0

pub returns-in_err-chosen-clause-chosen : goal.returns-in_err-chosen-clause-chosen
returns-in_err-chosen-clause-chosen c = IfOk-from_err _ _ c.from_residual.ensures.0
