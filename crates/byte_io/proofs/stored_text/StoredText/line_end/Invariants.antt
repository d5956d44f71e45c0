use Rattle.std.proofs.Common.{◌-◌, ◌≤◌, ◌<◌, vec_len}
use Rattle.byte_io.proofs.stored_text.StoredText.line_end.Given as goal

abbrev pub invariant-chunks : goal.invariant-chunks
invariant-chunks l = record {
  room : 0 < vec_len l.chunk;
  further : l.from ≤ l.at;
}

abbrev pub decreases-chunks : goal.decreases-chunks
decreases-chunks l = l.self-inside.len - l.at
