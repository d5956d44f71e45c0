-- Bytes that were read and not given, by where they stand in a buffer.
use Rattle.std.specs.Prelude.{◌≤◌, ℕ, List, length, slice_range}
use Rattle.memchr.specs.Find.{Nowhere, Passes, is_byte}
use Rattle.stack_core.specs.Parts.{bytes_of}
use Rattle.folded_lines.specs.declared.line_buffer.LineBuffer.TheInside.{Inside}

abbrev pub held_by : Inside → List ℕ
held_by buffer = slice_range (bytes_of buffer.bytes) buffer.start buffer.end

pub record IsBuffer (buffer : Inside) : Type 0 where
  pub low : buffer.start ≤ buffer.searched
  pub high : buffer.searched ≤ buffer.end
  pub within : buffer.end ≤ length (bytes_of buffer.bytes)
  pub unfed : Nowhere (Passes (is_byte 10) (bytes_of buffer.bytes)) buffer.start buffer.searched
