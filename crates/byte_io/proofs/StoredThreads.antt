-- Stored texts, and ranges of them, may go to other threads.
use denote.Param.Send.{AllSend, IsSend, IsSync, recorded_send, sendable, struct_send, view_send}
use denote.Struct.Declared.{shape}
use Rattle.std.proofs.Crossing.{crosses}
use Rattle.byte_io.specs.contracts.stored_bytes.StoredBytes as bytes
use Rattle.byte_io.specs.contracts.stored_range.StoredRange as range
use Rattle.byte_io.specs.contracts.stored_text.StoredText as text
use Rattle.byte_io.specs.contracts.stored_text.StoredText.TheInside as text_inside

bytes_send : IsSend bytes.the_row
bytes_send = search (sendable, crosses) depth 30

bytes_sync : IsSync bytes.the_row
bytes_sync = search (sendable, crosses) depth 30

pub range_send : IsSend range.the_row
range_send = search (sendable, crosses, bytes_send, bytes_sync) depth 30

text_fields_send : AllSend (shape text_inside.the_type).fields
text_fields_send = (search (sendable, crosses, bytes_send, bytes_sync) depth 30, (search sendable depth 20, tt))

text_inside_send : IsSend text_inside.the_row
text_inside_send = recorded_send _ _ _ (text_inside.the_type).to_one (struct_send (shape text_inside.the_type) text_fields_send)

pub text_send : IsSend text.the_row
text_send = search (view_send, text_inside_send)
