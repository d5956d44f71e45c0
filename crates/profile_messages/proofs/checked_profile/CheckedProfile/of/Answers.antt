use Rattle.std.proofs.lemmas.Result.{IfOk-from_err}
use Rattle.std.proofs.Common.{◌∙◌}
use Rattle.std.proofs.lemmas.Result.{err_from_is_err_and}
use Rattle.profile_messages.proofs.FirstLemmas.{first-append_none}
use Rattle.profile_messages.proofs.FaultLemmas.{tables_first}
use Rattle.profile_messages.proofs.checked_profile.CheckedProfile.of.Goals as goal

pub returns-clause-faultless : goal.returns-clause-faultless
returns-clause-faultless c = first-append_none _ _ c.in_ok-profile.ensures.faultless ∙ c.in_ok-functions.ensures.faultless

pub returns-in_err-functions-clause-fault : goal.returns-in_err-functions-clause-fault
returns-in_err-functions-clause-fault c =
    let p = err_from_is_err_and c.from_residual-in_err-functions.result c.from_residual-in_err-functions.ensures.1 in
    rw (p.1, p.2) (tables_first c.args.file.now c.args.pick.now c.in_err-functions.field-0.0 c.in_ok-profile.ensures.faultless c.in_err-functions.ensures.fault)

pub returns-in_err-profile-clause-profile : goal.returns-in_err-profile-clause-profile
returns-in_err-profile-clause-profile c = IfOk-from_err _ _ c.from_residual.ensures.0

pub returns-in_err-profile-clause-faultless : goal.returns-in_err-profile-clause-faultless
returns-in_err-profile-clause-faultless c = IfOk-from_err _ _ c.from_residual.ensures.0

pub returns-in_err-profile-clause-functions : goal.returns-in_err-profile-clause-functions
returns-in_err-profile-clause-functions c = IfOk-from_err _ _ c.from_residual.ensures.0

pub returns-in_err-profile-clause-locations : goal.returns-in_err-profile-clause-locations
returns-in_err-profile-clause-locations c = IfOk-from_err _ _ c.from_residual.ensures.0

pub returns-in_err-profile-clause-chosen : goal.returns-in_err-profile-clause-chosen
returns-in_err-profile-clause-chosen c = IfOk-from_err _ _ c.from_residual.ensures.0

pub returns-in_err-functions-clause-profile : goal.returns-in_err-functions-clause-profile
returns-in_err-functions-clause-profile c = IfOk-from_err _ _ c.from_residual-in_err-functions.ensures.0

pub returns-in_err-functions-clause-faultless : goal.returns-in_err-functions-clause-faultless
returns-in_err-functions-clause-faultless c = IfOk-from_err _ _ c.from_residual-in_err-functions.ensures.0

pub returns-in_err-functions-clause-functions : goal.returns-in_err-functions-clause-functions
returns-in_err-functions-clause-functions c = IfOk-from_err _ _ c.from_residual-in_err-functions.ensures.0

pub returns-in_err-functions-clause-locations : goal.returns-in_err-functions-clause-locations
returns-in_err-functions-clause-locations c = IfOk-from_err _ _ c.from_residual-in_err-functions.ensures.0

pub returns-in_err-functions-clause-chosen : goal.returns-in_err-functions-clause-chosen
returns-in_err-functions-clause-chosen c = IfOk-from_err _ _ c.from_residual-in_err-functions.ensures.0
