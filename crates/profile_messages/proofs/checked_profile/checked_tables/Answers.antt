use Rattle.std.proofs.lemmas.Result.{IfOk-from_err}
use Rattle.std.proofs.Common.{[], List, ap, map, subst, ◌∙◌, sym}
use Rattle.std.proofs.lemmas.Result.{err_from_is_err_and}
use Rattle.profile_messages.specs.declared.messages.Location.{Location}
use Rattle.profile_messages.specs.Message.{first}
use Rattle.profile_messages.specs.Tables.{id_faults}
use Rattle.profile_messages.specs.Faults.{IsFirstOf}
use Rattle.profile_messages.specs.SeenIndex.{code_location_id}
use Rattle.profile_messages.proofs.FaultLemmas.{locations_first, later_first, no_first}
use Rattle.profile_messages.proofs.checked_profile.checked_tables.Goals as goal

pub returns-in_err-locations-clause-fault : goal.returns-in_err-locations-clause-fault
returns-in_err-locations-clause-fault c =
    let p = err_from_is_err_and c.from_residual-in_err-locations.result c.from_residual-in_err-locations.ensures.1 in
    rw (p.1, p.2) (locations_first c.args.file.now c.args.profile.now c.args.pick.now c.in_err-locations.field-0.0
    c.requires c.in_ok-functions.ensures.faultless
    (subst (λ (table : List Location). IsFirstOf (id_faults [] (map code_location_id table)) c.in_err-locations.field-0.0) c.deref.ensures.value c.in_err-locations.ensures.fault))

pub returns-in_err-chosen-clause-fault : goal.returns-in_err-chosen-clause-fault
returns-in_err-chosen-clause-fault c =
    let p = err_from_is_err_and c.from_residual-in_err-chosen.result c.from_residual-in_err-chosen.ensures.1 in
    rw (p.1, p.2) (later_first c.args.file.now c.args.profile.now c.in_ok-functions.functions c.args.pick.now c.in_err-chosen.field-0.0
    c.requires c.in_ok-functions.ensures.places c.in_ok-functions.ensures.faultless
    (ap (λ (table : List Location). first (id_faults [] (map code_location_id table))) (sym c.deref.ensures.value) ∙ c.in_ok-locations.ensures.ids)
    c.in_err-chosen.ensures.fault)

pub returns-clause-faultless : goal.returns-clause-faultless
returns-clause-faultless c =
    no_first c.args.file.now c.args.profile.now c.in_ok-functions.functions c.args.pick.now
    c.requires c.in_ok-functions.ensures.places c.in_ok-functions.ensures.faultless
    (ap (λ (table : List Location). first (id_faults [] (map code_location_id table))) (sym c.deref.ensures.value) ∙ c.in_ok-locations.ensures.ids)
    c.in_ok-chosen.ensures.faultless

pub returns-in_err-functions-clause-faultless : goal.returns-in_err-functions-clause-faultless
returns-in_err-functions-clause-faultless c = IfOk-from_err _ _ c.from_residual.ensures.0

pub returns-in_err-functions-clause-functions : goal.returns-in_err-functions-clause-functions
returns-in_err-functions-clause-functions c = IfOk-from_err _ _ c.from_residual.ensures.0

pub returns-in_err-functions-clause-locations : goal.returns-in_err-functions-clause-locations
returns-in_err-functions-clause-locations c = IfOk-from_err _ _ c.from_residual.ensures.0

pub returns-in_err-functions-clause-chosen : goal.returns-in_err-functions-clause-chosen
returns-in_err-functions-clause-chosen c = IfOk-from_err _ _ c.from_residual.ensures.0

pub returns-in_err-locations-clause-faultless : goal.returns-in_err-locations-clause-faultless
returns-in_err-locations-clause-faultless c = IfOk-from_err _ _ c.from_residual-in_err-locations.ensures.0

pub returns-in_err-locations-clause-functions : goal.returns-in_err-locations-clause-functions
returns-in_err-locations-clause-functions c = IfOk-from_err _ _ c.from_residual-in_err-locations.ensures.0

pub returns-in_err-locations-clause-locations : goal.returns-in_err-locations-clause-locations
returns-in_err-locations-clause-locations c = IfOk-from_err _ _ c.from_residual-in_err-locations.ensures.0

pub returns-in_err-locations-clause-chosen : goal.returns-in_err-locations-clause-chosen
returns-in_err-locations-clause-chosen c = IfOk-from_err _ _ c.from_residual-in_err-locations.ensures.0

pub returns-in_err-chosen-clause-faultless : goal.returns-in_err-chosen-clause-faultless
returns-in_err-chosen-clause-faultless c = IfOk-from_err _ _ c.from_residual-in_err-chosen.ensures.0

pub returns-in_err-chosen-clause-functions : goal.returns-in_err-chosen-clause-functions
returns-in_err-chosen-clause-functions c = IfOk-from_err _ _ c.from_residual-in_err-chosen.ensures.0

pub returns-in_err-chosen-clause-locations : goal.returns-in_err-chosen-clause-locations
returns-in_err-chosen-clause-locations c = IfOk-from_err _ _ c.from_residual-in_err-chosen.ensures.0

pub returns-in_err-chosen-clause-chosen : goal.returns-in_err-chosen-clause-chosen
returns-in_err-chosen-clause-chosen c = IfOk-from_err _ _ c.from_residual-in_err-chosen.ensures.0
