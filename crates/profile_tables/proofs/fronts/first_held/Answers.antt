use Rattle.std.proofs.Common.{◌∙◌, ap, subst, Ok, length}
use Rattle.std.specs.Prelude.{unwrap_or}
use Rattle.wire_fields.specs.Field.{seen_field, seen_value}
use Rattle.wire_fields.specs.Reading.{Answers}
use Rattle.profile_tables.proofs.FrontLemmas.{first-held}
use Rattle.profile_tables.proofs.fronts.first_held.Goals as goal

pub returns : goal.returns
returns c =
    first-held c.args.message.now c.in-Bytes.bytes.now c.over-behind.result (seen_field c.in-Ok-Some.first) c.next.new.self c.unwrap_or-end.result
    c.over-behind.ensures.exact c.over-behind.ensures.reading
    (subst (λ answer. Answers seen_field (Ok answer) c.over-behind.result c.next.new.self) c.in-Ok-Some.field-0-is c.in-Ok-Some.ensures)
    (ap seen_value c.in-Bytes.is)
    (c.unwrap_or-end.ensures ∙ ap (λ place. unwrap_or place (length c.args.message.now)) c.next_at.ensures)
