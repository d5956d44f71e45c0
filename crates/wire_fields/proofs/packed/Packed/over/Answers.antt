use Rattle.wire_fields.specs.Spelling.{IsNumberAt}
use Rattle.wire_fields.specs.Fault.{FirstVarintFault}
use Rattle.wire_fields.specs.Reading.{number_at}
use Rattle.wire_fields.proofs.Items.{is_reading, items_at_most}
use Rattle.wire_fields.proofs.NumberRead.{number_reader}
use Rattle.wire_fields.proofs.packed.Packed.over.Goals as goal

pub returns-clause-reading : goal.returns-clause-reading
returns-clause-reading c = is_reading IsNumberAt FirstVarintFault number_at number_reader c.args.bytes.now

pub returns-clause-at_most : goal.returns-clause-at_most
returns-clause-at_most c = items_at_most IsNumberAt FirstVarintFault number_at number_reader c.args.bytes.now
