use Rattle.wire_fields.specs.Spelling.{IsNumberAt}
use Rattle.wire_fields.specs.Fault.{FirstVarintFault}
use Rattle.wire_fields.specs.Reading.{number_at}
use Rattle.wire_fields.proofs.Items.{one_list, no_longer}
use Rattle.wire_fields.proofs.NumberRead.{number_reader, varint_below}
use Rattle.wire_fields.proofs.laws.numbers_have_one_reading.Goals as goal

pub returns-clause-prefix : goal.returns-clause-prefix
returns-clause-prefix c = no_longer IsNumberAt FirstVarintFault number_at number_reader 0

pub returns-clause-one_list : goal.returns-clause-one_list
returns-clause-one_list c = one_list IsNumberAt FirstVarintFault number_at number_reader

pub returns-clause-below : goal.returns-clause-below
returns-clause-below c = varint_below
