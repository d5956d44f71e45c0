use Rattle.wire_fields.specs.Spelling.{IsFieldAt}
use Rattle.wire_fields.specs.Fault.{FirstFault}
use Rattle.wire_fields.specs.Reading.{field_at, fields_of}
use Rattle.wire_fields.proofs.Items.{is_reading, only_reading, items_at_most}
use Rattle.wire_fields.proofs.FieldRead.{field_reader}
use Rattle.wire_fields.proofs.laws.fields_are_those_spelled.Goals as goal

pub returns-clause-reading : goal.returns-clause-reading
unfolding fields_of
returns-clause-reading c = is_reading IsFieldAt FirstFault field_at field_reader

pub returns-clause-only : goal.returns-clause-only
unfolding fields_of
returns-clause-only c = only_reading IsFieldAt FirstFault field_at field_reader

pub returns-clause-at_most : goal.returns-clause-at_most
unfolding fields_of
returns-clause-at_most c = items_at_most IsFieldAt FirstFault field_at field_reader
