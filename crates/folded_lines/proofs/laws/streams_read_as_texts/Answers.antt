use Rattle.folded_lines.proofs.StreamTexts.{stream_first, stream_limits, stream_possible, stream_sure, stream_whole}
use Rattle.folded_lines.proofs.laws.streams_read_as_texts.Goals as goal

pub returns : goal.returns
returns c = record {
  sure = stream_sure;
  whole = stream_whole;
  front = stream_first;
  possible = stream_possible;
  limits = stream_limits;
}
