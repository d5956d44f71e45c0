use Rattle.std.proofs.Common.{Some, sym, ◌∙◌, ap, map}
use Rattle.std.specs.Prelude.{string_bytes}
use Rattle.std.proofs.lemmas.List.{length-map}
use Rattle.profile_messages.proofs.ItemLemmas.{map-push}
use Rattle.profile_tables.proofs.FunctionLemmas.{AreMade-more, made-kept, made-new}
use Rattle.profile_tables.specs.checked.Functions.{name_or_unknown}
use Rattle.profile_tables.proofs.functions.name_index.Goals as goal

pub returns-clause-made : goal.returns-clause-made
returns-clause-made c = AreMade-more _ c.args.made.now _ c.args.index c.len-place.result (string_bytes c.in_ok-function_name.field-0) c.requires
    (ap (map string_bytes) c.in_ok-push.ensures.items ∙ map-push string_bytes _ _)
    (c.in_ok-function_name.ensures ∙ ap name_or_unknown c.string_at.ensures)
    (c.len-place.ensures ∙ c.args.made.now.names.ok.0) c.in_ok-insert.ensures.updates

pub returns-clause-place : goal.returns-clause-place
returns-clause-place c =
    made-new _ _ (string_bytes c.in_ok-function_name.field-0) c.len-place.result
    (ap (map string_bytes) c.in_ok-push.ensures.items ∙ map-push string_bytes _ _)
    (c.len-place.ensures ∙ c.args.made.now.names.ok.0 ∙ sym (length-map c.args.made.now.names.items string_bytes))
    ∙ ap Some (c.in_ok-function_name.ensures ∙ ap name_or_unknown c.string_at.ensures)

pub returns-clause-kept : goal.returns-clause-kept
returns-clause-kept c = made-kept _ _ (string_bytes c.in_ok-function_name.field-0)
    (ap (map string_bytes) c.in_ok-push.ensures.items ∙ map-push string_bytes _ _)
