use Rattle.wire_fields.specs.Spelling.{IsNumberAt}
use Rattle.wire_fields.specs.Fault.{FirstVarintFault}
use Rattle.wire_fields.specs.Reading.{number_at, numbers_of}
use Rattle.wire_fields.proofs.Items.{is_reading, only_reading, items_at_most}
use Rattle.wire_fields.proofs.NumberRead.{number_reader}
use Rattle.wire_fields.proofs.laws.numbers_are_those_spelled.Goals as goal

pub returns-clause-reading : goal.returns-clause-reading
unfolding numbers_of
returns-clause-reading c = is_reading IsNumberAt FirstVarintFault number_at number_reader

pub returns-clause-only : goal.returns-clause-only
unfolding numbers_of
returns-clause-only c = only_reading IsNumberAt FirstVarintFault number_at number_reader

pub returns-clause-at_most : goal.returns-clause-at_most
unfolding numbers_of
returns-clause-at_most c = items_at_most IsNumberAt FirstVarintFault number_at number_reader
