use Rattle.wire_fields.specs.Spelling.{IsFieldAt}
use Rattle.wire_fields.specs.Fault.{FirstFault}
use Rattle.wire_fields.specs.Reading.{field_at}
use Rattle.wire_fields.proofs.Items.{is_reading, items_at_most}
use Rattle.wire_fields.proofs.FieldRead.{field_reader}
use Rattle.wire_fields.proofs.fields.Fields.over.Goals as goal

pub returns-clause-reading : goal.returns-clause-reading
returns-clause-reading c = is_reading IsFieldAt FirstFault field_at field_reader c.args.bytes.now

pub returns-clause-at_most : goal.returns-clause-at_most
returns-clause-at_most c = items_at_most IsFieldAt FirstFault field_at field_reader c.args.bytes.now
