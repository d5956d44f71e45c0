use Rattle.std.proofs.Common.{refl, sym, ◌∙◌, arith}
use Rattle.wire_fields.specs.Reading.{number_at}
use Rattle.wire_fields.specs.Spelling.{IsNumberAt}
use Rattle.wire_fields.specs.Fault.{FirstVarintFault}
use Rattle.wire_fields.proofs.Items.{left_if_empty, left_if_fault, rest_is_shorter, next_first}
use Rattle.wire_fields.proofs.NumberRead.{number_reader}
use Rattle.wire_fields.proofs.packed.Packed.next.Goals as goal

pub returns-then-is_empty : goal.returns-then-is_empty
returns-then-is_empty c = (sym c.self.view_is ∙ left_if_empty number_at c.self.inside.at c.self.inside.rest.now c.if-is_empty.ensures, refl)

pub overflow_sub-self : goal.overflow_sub-self
overflow_sub-self c =
    let less = rest_is_shorter IsNumberAt FirstVarintFault number_at number_reader c.self.inside.at c.self.inside.rest.now c.in-Ok.number c.in-Ok.rest.now c.in-Ok.ensures in
    omega arith

pub invariant_of-self : goal.invariant_of-self
invariant_of-self c =
    let less = rest_is_shorter IsNumberAt FirstVarintFault number_at number_reader c.self.inside.at c.self.inside.rest.now c.in-Ok.number c.in-Ok.rest.now c.in-Ok.ensures in
    let room = c.self.invariant in
    omega arith

pub returns-in-Ok : goal.returns-in-Ok
returns-in-Ok c = sym c.self.view_is ∙ next_first IsNumberAt FirstVarintFault number_at number_reader c.self.inside.at c.self.inside.rest.now c.in-Ok.number c.in-Ok.rest.now c.in-Ok.ensures

pub returns-in-Err : goal.returns-in-Err
returns-in-Err c = (sym c.self.view_is ∙ left_if_fault number_at c.self.inside.at c.self.inside.rest.now c.in-Err.kind c.if-is_empty.ensures c.in-Err.ensures, refl)
