use Rattle.folded_lines.proofs.StrictStreamTexts.{strict_front_first, strict_limits, strict_possible, strict_stream_fault, strict_sure, strict_tellable, strict_whole}
use Rattle.folded_lines.proofs.laws.strict_streams_read_as_texts.Goals as goal

pub returns-clause-texts : goal.returns-clause-texts
returns-clause-texts c = record {
  sure = strict_sure;
  whole = strict_whole;
  front = strict_front_first;
  possible = strict_possible;
  limits = strict_limits;
}

pub returns-clause-fault : goal.returns-clause-fault
returns-clause-fault c = strict_stream_fault

pub returns-clause-tellable : goal.returns-clause-tellable
returns-clause-tellable c = strict_tellable
