use Rattle.std.proofs.Common.{List, length, ◌∙◌, ap}
use Rattle.profile_messages.specs.declared.messages.ValueType.{ValueType}
use Rattle.profile_messages.proofs.TypeLemmas.{chosen-type}
use Rattle.profile_tables.proofs.FileLemmas.{tables_are}
use Rattle.profile_tables.proofs.outline.outline_of.Goals as goal

pub returns-clause-tables : goal.returns-clause-tables
returns-clause-tables c = tables_are c.args.file.now c.args.pick.now c.args.naming _ _ _
    (c.len.ensures ∙ c.in_ok-checked.checked.profile.sample_types.ok.0 ∙ ap (λ (table : List ValueType). length table) c.in_ok-checked.ensures.profile.sample_types)
    c.in_ok-checked.ensures.chosen
    (c.in_ok-profile_frames.ensures.frames c.args.file.now c.in_ok-checked.ensures.profile)

pub returns-clause-chosen_type : goal.returns-clause-chosen_type
returns-clause-chosen_type c =
    chosen-type c.args.file.now c.args.pick.now c.in_ok-checked.checked.profile c.in_ok-checked.checked.chosen c.in_ok-chosen_type.chosen_type
    c.in_ok-checked.ensures.profile c.in_ok-checked.ensures.chosen c.in_ok-chosen_type.ensures
