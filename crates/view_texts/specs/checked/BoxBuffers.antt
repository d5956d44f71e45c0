-- What a buffer has at its end.
use Rattle.std.specs.Prelude.{ℕ, ◌≡◌, ◌+◌, ◌*◌, ◌/◌, ◌≤◌, drop}
use Rattle.view_texts.specs.declared.box_buffers.BoxBuffer.{BoxBuffer}
use Rattle.view_texts.specs.checked.BoxParts.{edge_text}

-- the buffer is ready for boxes of its start and weight, in an image of the width whose boxes span the total
pub record IsBoxBuffer (total width : ℕ) (buffer : BoxBuffer) : Type 0 where
  pub left : buffer.left ≡ buffer.start * width / total
  pub edges : drop buffer.tail buffer.bytes ≡ edge_text ((buffer.start + buffer.weight) * width / total) buffer.start buffer.weight
  pub low : 359 ≤ buffer.tail
  pub high : buffer.tail ≤ 448
