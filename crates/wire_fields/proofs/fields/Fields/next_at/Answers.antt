use Rattle.std.proofs.Common.{sym, ◌∙◌, ap}
use Rattle.wire_fields.specs.Reading.{Left, field_at, next_place}
use Rattle.wire_fields.specs.Field.{WireField}
use Rattle.wire_fields.proofs.Items.{left_if_empty}
use Rattle.wire_fields.proofs.FieldRead.{begins_at}
use Rattle.wire_fields.proofs.fields.Fields.next_at.Goals as goal

pub returns-then-is_empty : goal.returns-then-is_empty
returns-then-is_empty c = ap (λ (left : Left WireField). next_place left.items left.fault) (sym (sym c.self.view_is ∙ left_if_empty field_at c.self.inside.at c.self.inside.rest.now c.if-is_empty.ensures))

pub returns : goal.returns
returns c = sym (ap (λ (left : Left WireField). next_place left.items left.fault) (sym c.self.view_is) ∙ begins_at c.self.inside.at c.self.inside.rest.now c.if-is_empty.ensures)
