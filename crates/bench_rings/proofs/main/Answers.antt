use denote.Param.Send.{AllSend, IsSend, recorded_send, sendable, struct_send, view_send}
use denote.Struct.Declared.{shape}
use Rattle.folded_lines.specs.contracts.reader.FoldedReader as reader
use Rattle.folded_lines.specs.contracts.reader.FoldedReader.TheInside as reader_inside
use Rattle.source_lists.proofs.ReaderThreads.{folded_send, samples_send}
use Rattle.bench_rings.proofs.main.Goals as goal

inside_fields_send : AllSend (shape reader_inside.the_type).fields
inside_fields_send = (search (sendable, folded_send, samples_send) depth 30, tt)

inside_send : IsSend reader_inside.the_row
inside_send = recorded_send _ _ _ (reader_inside.the_type).to_one (struct_send (shape reader_inside.the_type) inside_fields_send)

reader_send : IsSend reader.the_row
reader_send = search (view_send, inside_send)

-- a reader may go to another thread
pub collect-requires-send-R : goal.collect-requires-send-R
collect-requires-send-R g c κs = search (sendable, reader_send) depth 30
