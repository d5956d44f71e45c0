use Rattle.wire_fields.specs.Spelling.{IsFieldAt}
use Rattle.wire_fields.specs.Fault.{FirstFault}
use Rattle.wire_fields.specs.Reading.{field_at}
use Rattle.wire_fields.proofs.Items.{one_list}
use Rattle.wire_fields.proofs.FieldRead.{field_prefix, field_reader}
use Rattle.wire_fields.proofs.laws.fields_have_one_reading.Goals as goal

pub returns-clause-prefix : goal.returns-clause-prefix
returns-clause-prefix c = field_prefix

pub returns-clause-one_list : goal.returns-clause-one_list
returns-clause-one_list c = one_list IsFieldAt FirstFault field_at field_reader
