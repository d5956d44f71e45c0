use Rattle.std.proofs.Common.{refl, sym, ◌∙◌, arith}
use Rattle.wire_fields.specs.Field.{seen_field}
use Rattle.wire_fields.specs.Reading.{field_at}
use Rattle.wire_fields.specs.Spelling.{IsFieldAt}
use Rattle.wire_fields.specs.Fault.{FirstFault}
use Rattle.wire_fields.proofs.Items.{left_if_empty, left_if_fault, rest_is_shorter, next_first}
use Rattle.wire_fields.proofs.FieldRead.{field_reader}
use Rattle.wire_fields.proofs.fields.Fields.next.Goals as goal

pub returns-then-is_empty : goal.returns-then-is_empty
returns-then-is_empty c = (sym c.self.view_is ∙ left_if_empty field_at c.self.inside.at c.self.inside.rest.now c.if-is_empty.ensures, refl)

pub overflow_sub-self : goal.overflow_sub-self
overflow_sub-self c =
    let less = rest_is_shorter IsFieldAt FirstFault field_at field_reader c.self.inside.at c.self.inside.rest.now (seen_field c.in-Ok.field) c.in-Ok.rest.now c.in-Ok.ensures in
    omega arith

pub invariant_of-self : goal.invariant_of-self
invariant_of-self c =
    let less = rest_is_shorter IsFieldAt FirstFault field_at field_reader c.self.inside.at c.self.inside.rest.now (seen_field c.in-Ok.field) c.in-Ok.rest.now c.in-Ok.ensures in
    let room = c.self.invariant in
    omega arith

pub returns-in-Ok : goal.returns-in-Ok
returns-in-Ok c = sym c.self.view_is ∙ next_first IsFieldAt FirstFault field_at field_reader c.self.inside.at c.self.inside.rest.now (seen_field c.in-Ok.field) c.in-Ok.rest.now c.in-Ok.ensures

pub returns-in-Err : goal.returns-in-Err
returns-in-Err c = (sym c.self.view_is ∙ left_if_fault field_at c.self.inside.at c.self.inside.rest.now c.in-Err.kind c.if-is_empty.ensures c.in-Err.ensures, refl)
