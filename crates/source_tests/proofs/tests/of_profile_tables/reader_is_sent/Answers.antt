-- a reader of samples is one of rows, with what it keeps for the names
use denote.Param.Send.{AllSend, IsSend, recorded_send, sendable, struct_send, view_send}
use denote.Struct.Declared.{shape}
use Rattle.source_lists.proofs.ReaderThreads.{pprof_send, samples_send}
use Rattle.profile_tables.specs.contracts.reader.PprofReader as reader
use Rattle.profile_tables.specs.contracts.reader.PprofReader.TheInside as inside
use Rattle.source_tests.proofs.tests.of_profile_tables.reader_is_sent.Goals as goal

fields_send : AllSend (shape inside.the_type).fields
fields_send = (search (sendable, pprof_send) depth 30, (search (sendable, samples_send) depth 30, tt))

inside_send : IsSend inside.the_row
inside_send = recorded_send _ _ _ (inside.the_type).to_one (struct_send (shape inside.the_type) fields_send)

reader_send : IsSend reader.the_row
reader_send = search (view_send, inside_send)

pub is_sent-requires-send-R : goal.is_sent-requires-send-R
is_sent-requires-send-R g c κs = search (sendable, reader_send) depth 30
